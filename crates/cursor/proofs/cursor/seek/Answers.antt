use Rattle.std.proofs.Common.{◌<◌, arith}
use Rattle.cursor.proofs.Meeting.{stands_next}
use Rattle.cursor.proofs.cursor.seek.Goals as goal

pub loop-found-preserved : goal.loop-found-preserved
loop-found-preserved g c = λ rs low readable stands le.
    let before : c.in-Some.found < c.args.place = omega arith in
    stands_next g.K.Kind.meaning g.met.K.Kind.lawful (c.loop-found.invariant rs low readable stands le) c.in-Some.ensures.is before
