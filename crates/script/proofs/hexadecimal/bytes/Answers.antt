use Rattle.std.proofs.Common.{arith, ◌∙◌, inl, inr}
use Rattle.std.proofs.lemmas.Result.{IfOk-weaker, IfErr-weaker}
use Rattle.script.proofs.Pairs.{in_pairs}
use Rattle.script.proofs.hexadecimal.bytes.Goals as goal

pub returns-in_default-clause-read : goal.returns-in_default-clause-read
returns-in_default-clause-read c =
    let plain = in_pairs c.args.word.now (λ e n. grind arith) in
    IfOk-weaker c.pairs.result _ _ (λ v e. plain ∙ e) c.pairs.ensures.read

pub returns-in_default-clause-refused : goal.returns-in_default-clause-refused
returns-in_default-clause-refused c =
    let plain = in_pairs c.args.word.now (λ e n. grind arith) in
    IfErr-weaker c.pairs.result _ _ (λ why e. elim e [ inl m ↦ inl m | inr f ↦ inr (plain ∙ f) ]) c.pairs.ensures.refused
