use Rattle.std.proofs.Common.{◌≡◌, ◌<◌, length, get_or, refl, ◌∙◌, ◌≢◌, arith, get_or-set_other}
use Rattle.std.proofs.lemmas.List.{length-take-le, get_or-take}
use Rattle.hearing.proofs.Following.{each_more, Moves, moves_on, all_moved}
use Rattle.hearing.proofs.follow.advance.Goals as goal

pub loop-j-preserved : goal.loop-j-preserved
loop-j-preserved g c =
    let x = c.args.x.now in
    let j = c.loop-j.j in
    let items = c.loop-j.at-items in
    let short : j < length items = omega arith in
    let few = x.slots.now.few in
    let all = c.args.cursors.now.all in
    let long = length-take-le x.slots.now.count c.args.cursors.now.senders (omega arith) in
    let from : get_or items j 0 ≡ get_or c.args.cursors.now.senders j 0 = c.loop-j.invariant.left j (omega arith) ∙ get_or-take x.slots.now.count c.args.cursors.now.senders j 0 (omega (arith, long, c.loop-j-test.true)) in
    record {
      moved = each_more (λ i to. Moves g.K.Kind.meaning x c.args.place i (get_or c.args.cursors.now.senders i 0) to) 0 items j _ short c.loop-j.invariant.moved
          (moves_on g.K.Kind.meaning x c.args.place j _ _ _ from c.tree.result.now c.tree.ensures c.seek.ensures.stands);
      left = λ i h. let ne : i ≢ j = omega arith in get_or-set_other items j i _ 0 ne ∙ c.loop-j.invariant.left i (omega arith);
    }

pub returns : goal.returns
returns g c = λ given low gives stands le.
    let few = c.args.x.now.slots.now.few in
    let all = c.args.cursors.now.all in
    let long : length c.loop-j.at-items ≡ c.args.x.now.slots.now.count = c.loop-j.auto.at-items ∙ length-take-le _ _ (omega arith) in
    all_moved g.K.Kind.meaning c.args.x.now c.args.place given low c.args.cursors.now _ c.loop-j.at-items _ gives stands le refl
    (omega (arith, long)) (λ j h. c.loop-j.invariant.moved j (omega (arith, long, c.loop-j.auto.at-items)))
    (c.seek-own.ensures.stands _ low gives.last stands.own le)
