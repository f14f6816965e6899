use Rattle.std.proofs.Common.{◌≡◌, false, length, get_or, ◌∙◌, arith}
use Rattle.std.proofs.lemmas.List.{length-take-le}
use Rattle.hearing.proofs.Following.{each_more, Stays, found_stays, apart_stays, all_stay}
use Rattle.hearing.proofs.follow.narrow.Goals.{then-aligned-j, else-aligned-j}
use Rattle.hearing.proofs.follow.narrow.Goals as goal

pub loop-j-preserved : goal.loop-j-preserved
loop-j-preserved g c =
    let k = g.K.Kind.meaning in
    let x = c.args.x.now in
    let j = c.loop-j.j in
    let from = get_or c.args.cursors.now.senders j 0 in
    let flag = get_or c.args.aligned.now j false in
    let here : Stays k x c.args.place c.args.first j from flag c.if-aligned-j.stays =
    elim c.if-aligned-j.branch [
      | then-aligned-j w ↦ found_stays k x c.args.place c.args.first j from flag _ w.if-aligned-j.true _ w.tree.ensures _ w.choice_at.ensures (w.stays-is ∙ w.eq.ensures)
      | else-aligned-j w ↦ apart_stays k x c.args.place c.args.first j from flag _ w.if-aligned-j.false w.stays-is
    ] in
    each_more (λ i still. Stays k x c.args.place c.args.first i (get_or c.args.cursors.now.senders i 0) (get_or c.args.aligned.now i false) still) false c.loop-j.stays-items j _ (omega arith) c.loop-j.invariant here

pub returns-clause-is : goal.returns-clause-is
returns-clause-is g c = λ given al low gives flags stands le.
    let long : length c.loop-j.stays-items ≡ c.args.x.now.slots.now.count = c.loop-j.auto.stays-items ∙ length-take-le _ _ c.args.x.now.slots.now.few in
    all_stay g.K.Kind.meaning c.args.x.now c.args.place c.args.first given al low c.args.cursors.now c.args.aligned.now c.loop-j.stays-items _ gives flags stands le
    (omega (arith, long)) (λ j h. c.loop-j.invariant j (omega (arith, long, c.loop-j.auto.stays-items)))
