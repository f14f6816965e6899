-- Kind 2, sets of the labels 0 to 59: label i is bit i from the lowest. Assumes nothing.
use Rattle.std.specs.Prelude.{◌≡◌, ℕ, ◌/◌, ◌%◌, ◌^◌, ◌<◌, ◌≤◌, Bool, true, false, cond, not, ◌&&◌, ◌||◌, List, [], ◌∷◌, length, Some, None, Option, ◌==◌, bit_and, bit_or, bit_xor, nat_lt, slice_index_or}
use Rattle.std.proofs.Common.{arith}
use Rattle.kind.specs.declared.label_set.LabelSet.{LabelSet}
use Rattle.kind.specs.Bytes.{are_bytes, bytes, value}
use Rattle.kind.specs.Kind.{Meaning}

pub sixty_bits : (n : ℕ) → n % 2 ^ 60 < 2 ^ 60
sixty_bits n = omega arith

-- the labels of the lowest sixty bits
abbrev pub labelled : ℕ → LabelSet
labelled n = record { bits = n % 2 ^ 60; sixty = sixty_bits n }

-- whether the label i is in the set
abbrev pub has : LabelSet → ℕ → Bool
has a i = a.bits / 2 ^ i % 2 == 1

-- truth is being non-empty
abbrev pub truth : LabelSet → Bool
truth a = nat_lt 0 a.bits

abbrev pub same : LabelSet → LabelSet → Bool
same a b = a.bits == b.bits

-- the first is within the second: what both have is the first
abbrev pub within : LabelSet → LabelSet → Bool
within a b = bit_and a.bits b.bits == a.bits

-- yes is label 0 alone, no is the empty set
abbrev pub from_bool : Bool → LabelSet
from_bool t = cond t (labelled 1) (labelled 0)

abbrev pub answer : (LabelSet → LabelSet → Bool) → LabelSet → LabelSet → LabelSet
answer test a b = from_bool (test a b)

abbrev pub union : LabelSet → LabelSet → LabelSet
union a b = labelled (bit_or a.bits b.bits)

abbrev pub intersection : LabelSet → LabelSet → LabelSet
intersection a b = labelled (bit_and a.bits b.bits)

-- the first's labels but for those that both have
abbrev pub without : LabelSet → LabelSet → LabelSet
without a b = labelled (bit_xor a.bits (bit_and a.bits b.bits))

-- the operators by number, from 0
abbrev pub operators : List (LabelSet → LabelSet → LabelSet)
operators = union ∷ intersection ∷ without ∷ answer same ∷ answer within ∷ []

-- the operator of a number; the empty set where no operator has it
abbrev pub apply : ℕ → LabelSet → LabelSet → LabelSet
apply n a b = slice_index_or operators n (λ _ _. labelled 0) a b

abbrev pub written : LabelSet → List ℕ
written a = bytes 8 a.bits

-- the set, if none of the upper four bits is set
abbrev pub in_sixty : ℕ → Option LabelSet
in_sixty n = cond (nat_lt n (2 ^ 60)) (Some (labelled n)) None

abbrev pub read : List ℕ → Option LabelSet
read bs = cond (are_bytes 8 bs) (in_sixty (value bs)) None

abbrev pub label_sets : Meaning LabelSet
label_sets = record {
  number = 2;
  width = 8;
  operators = length operators;
  own = labelled 0;
  unknown = labelled 0;
  truth = truth;
  same = same;
  apply = apply;
  written = written;
  read = read;
}

-- What the operators do, label by label.
pub record ByLabel : Type 0 where
  -- no set has a label above 59
  pub sixty : (a : LabelSet) (i : ℕ) → 60 ≤ i → has a i ≡ false
  -- union, intersection, first without second
  pub in_either : (a b : LabelSet) (i : ℕ) → has (label_sets.apply 0 a b) i ≡ (has a i || has b i)
  pub in_both : (a b : LabelSet) (i : ℕ) → has (label_sets.apply 1 a b) i ≡ (has a i && has b i)
  pub in_first : (a b : LabelSet) (i : ℕ) → has (label_sets.apply 2 a b) i ≡ (has a i && not (has b i))
  -- same answers yes exactly when the two sets have the same labels
  pub same_if : (a b : LabelSet) → ((i : ℕ) → has a i ≡ has b i) → label_sets.apply 3 a b ≡ from_bool true
  pub same_only : (a b : LabelSet) → label_sets.apply 3 a b ≡ from_bool true → (i : ℕ) → has a i ≡ has b i
  -- within answers yes exactly when the second has every label of the first
  pub within_if : (a b : LabelSet) → ((i : ℕ) → has a i ≡ true → has b i ≡ true) → label_sets.apply 4 a b ≡ from_bool true
  pub within_only : (a b : LabelSet) → label_sets.apply 4 a b ≡ from_bool true → (i : ℕ) → has a i ≡ true → has b i ≡ true
