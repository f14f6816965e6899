-- A result, or the first refusal. Assumes nothing.
use Rattle.std.specs.Prelude.{◌≡◌, ℕ, Bool, true, false, Ok, Err, Result}
use Rattle.refusal.specs.declared.cause.Cause.{Cause}
use Rattle.refusal.specs.declared.refused.Refusal.{Refusal}
use Rattle.refusal.specs.Causes.{listed}

abbrev pub Outcome : Type 0 → Type 0
Outcome A = Result A Refusal

abbrev pub refusal : Cause → ℕ → Refusal
refusal c p = record { cause = c; position = p }

abbrev pub refuse : {A : Type 0} → Cause → ℕ → Outcome A
refuse c p = Err (refusal c p)

-- go on with a result; a refusal stays, as with `?`
abbrev pub after : {A B : Type 0} → Outcome A → (A → Outcome B) → Outcome B
after (Err e) next = Err e
after (Ok a) next = next a

-- a check: refused by the cause at the position unless the test holds
abbrev pub must : Bool → Cause → ℕ → Outcome (Unit {0})
must true c p = Ok tt
must false c p = refuse c p

abbrev pub mapped : {A B : Type 0} → (A → B) → Outcome A → Outcome B
mapped f (Err e) = Err e
mapped f (Ok a) = Ok (f a)

-- where it is refused, the cause is of this layer
abbrev pub InLayer : {A : Type 0} → ℕ → Outcome A → Type 0
InLayer n (Ok a) = Unit {0}
InLayer n (Err e) = (listed e.cause).layer ≡ n
