-- What was read, where a value was allowed. Assumes nothing.
use Rattle.std.proofs.Common.{◌≡◌, ℕ, Some, None, Ok, Option, ap, arith}
use Rattle.record.specs.Records.{allowed}

pub was_read : {V : Type 0} (p : ℕ) (o : Option V) (v : V) → allowed p o ≡ Ok v → o ≡ Some v
was_read p None v e = let z : ◌≡◌ {A = ℕ} 0 1 = cc in absurd (omega arith)
was_read p (Some w) v e = let h : w ≡ v = cc in ap (λ x. Some x) h
