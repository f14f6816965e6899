use Rattle.std.proofs.Common.{◌≡◌, true, length, sym, ap, ◌∙◌, arith}
use Rattle.std.proofs.lemmas.Bool.{cond-true}
use Rattle.kind.specs.Bytes.{are_bytes, value}
use Rattle.kind.specs.LabelSets.{in_sixty}
use Rattle.kind.specs.BytesLemmas.{are_bytes_if, value_8}
use Rattle.kind.proofs.label_set.LabelSet.from_be_bytes.Goals as goal

pub returns : goal.returns
returns c =
    let bs = c.args.bytes.now in
    let same : c.in_ok-bytes.bytes ≡ bs = grind (arith, c.try_into.ensures, c.in_ok-bytes.ensures) in
    let l : length bs ≡ 8 = grind (arith, c.try_into.ensures, c.in_ok-bytes.ensures) in
    let t : are_bytes 8 bs ≡ true = are_bytes_if 8 bs l (λ i. (c.type_inv.bytes i).fits) in
    c.from_bits.ensures
    ∙ ap in_sixty (c.from_be_bytes.ensures ∙ sym (value_8 c.in_ok-bytes.bytes (ap length same ∙ l)) ∙ ap value same)
    ∙ sym (cond-true (are_bytes 8 bs) (in_sixty (value bs)) _ t)
