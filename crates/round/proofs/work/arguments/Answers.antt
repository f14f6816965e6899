use Rattle.std.proofs.Common.{◌≡◌, ℕ, ◌+◌, ◌<◌, ◌≤◌, get_or, sym, ap, ◌∙◌, ⊎_elim, arith}
use Rattle.std.proofs.lemmas.Bool.{cases_lt}
use Rattle.steps.specs.Frames.{row_after}
use Rattle.round.proofs.Rowing.{row_after_next}
use Rattle.round.proofs.work.arguments.Goals as goal

pub loop-preserved : goal.loop-preserved
loop-preserved c =
    let w = c.args.width in
    let b = c.args.base in
    let n = c.loop.counter in
    let l = c.with-frame.ensures in
    let i0 = c.loop.invariant.0 in
    let i1 = c.loop.invariant.1 in
    let i2 = c.loop.invariant.2 in
    let i3 = c.loop.invariant.3 in
    let lc = l.count in
    let nar = c.requires.narrow in (
      omega arith,
      ap (λ (z : ℕ). z + w) i1 ∙ sym (row_after_next w b n),
      omega arith,
      λ i h. ⊎_elim
          (λ (lt : i < n). l.old i (omega arith) ∙ i3 i lt)
          (λ (ge : n ≤ i). let q : i ≡ c.loop.frame.count = omega arith in let q' : n ≡ i = omega arith in ap (λ (j : ℕ). get_or c.with-frame.result.rows j 0) q ∙ l.new ∙ i1 ∙ ap (row_after w b) q')
          (cases_lt i n),
    )
