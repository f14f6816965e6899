-- Where rows of one width lie.
use Rattle.std.proofs.Common.{◌≡◌, ℕ, zero, suc, ◌+◌, ◌*◌, ◌<◌, ◌≤◌, refl, ap, ◌∙◌, arith}
use Rattle.steps.specs.Frames.{row_after}

pub row_after_most : (w base c : ℕ) → w ≤ 18 → row_after w base c ≤ base + 18 * c
row_after_most w base zero h = omega arith
row_after_most w base (suc c) h = let i = row_after_most w (base + w) c h in omega arith

pub row_after_least : (w base c : ℕ) → base ≤ row_after w base c
row_after_least w base zero = omega arith
row_after_least w base (suc c) = let i = row_after_least w (base + w) c in omega arith

pub row_after_next : (w base c : ℕ) → row_after w base (c + 1) ≡ row_after w base c + w
row_after_next w base zero = refl
row_after_next w base (suc c) = let e : suc c + 1 ≡ suc (c + 1) = omega arith in ap (row_after w base) e ∙ row_after_next w (base + w) c

pub row_after_below : (w base c i : ℕ) → i < c → row_after w base i + w ≤ row_after w base c
row_after_below w base zero i h = absurd (omega arith)
row_after_below w base (suc c) zero h = row_after_least w (base + w) c
row_after_below w base (suc c) (suc i) h = row_after_below w (base + w) c i (omega arith)
