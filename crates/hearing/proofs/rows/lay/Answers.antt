use Rattle.std.proofs.Common.{◌≡◌, ◌+◌, ◌-◌, length, refl, ◌∙◌, arith}
use Rattle.hearing.proofs.Following.{each_more}
use Rattle.hearing.proofs.Laying.{all_laid, senders_long}
use Rattle.hearing.proofs.rows.lay.Goals as goal

pub loop-j-preserved : goal.loop-j-preserved
loop-j-preserved g c = λ i d h.
    each_more (goal.F-post g c.args.sender) d c.loop-j.cell-items c.loop-j.j c.sender.result (omega arith) (λ k. c.loop-j.invariant k d) c.sender.ensures i h

pub returns : goal.returns
returns g c =
    let long : length c.loop-j.cell-items ≡ c.args.base + c.args.rows.now.width - (c.args.base + 2) =
    c.loop-j.auto.cell-items ∙ senders_long c.args.rows.now.cells.now c.args.base c.args.elsewhere c.args.own _ _ (omega arith) in
    let wide : 2 + length c.loop-j.cell-items ≡ c.args.rows.now.width = omega arith in
    record {
      held = c.loop-j.cell-items;
      wide = omega (arith, wide);
      laid = record {
        lender = refl;
        width = refl;
        cells = all_laid c.args.rows.now.cells.now c.args.base c.args.elsewhere c.args.own c.loop-j.cell-items _ _ c.requires.room wide long;
      };
      each = λ j d h. c.loop-j.invariant j d (omega arith);
    }
