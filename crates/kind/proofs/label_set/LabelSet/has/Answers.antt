use Rattle.std.proofs.Common.{◌≡◌, ◌≤◌, false, ltb, sym, refl, ◌∙◌, arith}
use Rattle.kind.specs.LabelSetLaws.{by_label}
use Rattle.kind.proofs.label_set.LabelSet.has.Goals as goal

pub returns-then-label-lt60 : goal.returns-then-label-lt60
returns-then-label-lt60 c = record { is = refl; operators = by_label }

pub returns-else-label-lt60 : goal.returns-else-label-lt60
returns-else-label-lt60 c =
    let h : 60 ≤ c.args.label = omega arith in
    let f : ltb c.args.label 60 ≡ false = grind arith in
    record { is = f ∙ sym (by_label.sixty c.args.self c.args.label h); operators = by_label }
