use Rattle.std.proofs.Common.{option_copied, ok_or, sym, ap, ◌∙◌}
use Rattle.refusal.specs.Outcomes.{refusal, mapped}
use Rattle.refusal.specs.declared.cause.Cause.TheVariants.{RecordCount}
use Rattle.record.specs.Shapes.{shown}
use Rattle.record.proofs.Counting.{mapped_or, shape_by}
use Rattle.record.proofs.record.record_at.Goals as goal

pub returns-clause-is : goal.returns-clause-is
returns-clause-is c =
    let r = refusal RecordCount c.args.at in
    ap (mapped shown) c.ok_or-2.ensures.value ∙ mapped_or shown c.framed.result r ∙ ap (λ o. ok_or o r) c.framed.ensures.is
    ∙ shape_by c.args.body c.args.width c.args.message.now c.args.at c.in_ok-counted.counted.now (sym c.counted.ensures.is ∙ ap option_copied c.in_ok-counted.ensures.ok_part)
