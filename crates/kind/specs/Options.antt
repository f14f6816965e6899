-- Answers that are given under a test.
use Rattle.std.specs.Prelude.{◌≡◌, ℕ, Bool, true, false, cond, Some, None, Option, refl}
use Rattle.std.proofs.Common.{arith}

-- what is given under a test was given because the test holds
pub given_since : {X : Type 0} (t : Bool) (x : Option X) (v : X) → cond t x None ≡ Some v → (t ≡ true) × (x ≡ Some v)
given_since true x v e = (refl, e)
given_since false x v e = absurd (let z : ◌≡◌ {A = ℕ} 0 1 = cc in omega arith)
