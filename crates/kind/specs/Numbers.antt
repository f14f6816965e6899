-- Kind 1, numbers: values are −2,147,483,647 to 2,147,483,647. Assumes nothing.
use Rattle.std.specs.Prelude.{ℕ, suc, ◌-◌, ◌^◌, ◌<◌, min, Bool, cond, not, ◌&&◌, ◌||◌, List, [], ◌∷◌, length, ℤ, pos, negsuc, ◌+ℤ◌, ◌-ℤ◌, ◌*ℤ◌, Some, None, Option, int_div, int_lt, nat_lt, slice_index_or, unsigned_abs}
use Rattle.std.proofs.Common.{arith}
use Rattle.kind.specs.declared.number.Number.{Number}
use Rattle.kind.specs.Bytes.{are_bytes, bytes, value}
use Rattle.kind.specs.Kind.{Meaning}

-- a whole number outside the range becomes the nearer end: −(n + 1) is `negsuc n`
abbrev pub limited : ℤ → ℤ
limited (pos n) = pos (min n 2147483647)
limited (negsuc n) = negsuc (min n 2147483646)

pub limited_range : (z : ℤ) → unsigned_abs (limited z) < 2 ^ 31
limited_range (pos n) = omega arith
limited_range (negsuc n) = omega arith

-- the value nearest to a whole number: the number itself, within the range
abbrev pub nearest : ℤ → Number
nearest z = record { value = limited z; range = limited_range z }

abbrev pub non_zero : ℤ → Bool
non_zero z = nat_lt 0 (unsigned_abs z)

-- truth is being non-zero
abbrev pub truth : Number → Bool
truth a = non_zero a.value

-- two numbers are the same when their difference is 0
abbrev pub same : Number → Number → Bool
same a b = not (non_zero (a.value -ℤ b.value))

-- the first is below the second
abbrev pub less : Number → Number → Bool
less a b = int_lt a.value b.value

abbrev pub both : Number → Number → Bool
both a b = truth a && truth b

abbrev pub either : Number → Number → Bool
either a b = truth a || truth b

-- yes is 1, no is 0
abbrev pub from_bool : Bool → Number
from_bool t = cond t (nearest (pos 1)) (nearest (pos 0))

abbrev pub answer : (Number → Number → Bool) → Number → Number → Number
answer test a b = from_bool (test a b)

abbrev pub add : Number → Number → Number
add a b = nearest (a.value +ℤ b.value)

abbrev pub subtract : Number → Number → Number
subtract a b = nearest (a.value -ℤ b.value)

abbrev pub smaller : Number → Number → Number
smaller a b = cond (less b a) b a

abbrev pub larger : Number → Number → Number
larger a b = cond (less a b) b a

abbrev pub times : Number → Number → Number
times a b = nearest (a.value *ℤ b.value)

-- the quotient without its fraction, and 0 for the divisor 0
abbrev pub quotient : ℤ → ℤ → ℤ
quotient a b = cond (non_zero b) (int_div a b) (pos 0)

abbrev pub over : Number → Number → Number
over a b = nearest (quotient a.value b.value)

-- the operators by number, from 0
abbrev pub operators : List (Number → Number → Number)
operators = add ∷ subtract ∷ smaller ∷ larger ∷ answer less ∷ answer same ∷ answer both ∷ answer either ∷ times ∷ over ∷ []

-- the operator of a number; 0 where no operator has it
abbrev pub apply : ℕ → Number → Number → Number
apply n a b = slice_index_or operators n (λ _ _. nearest (pos 0)) a b

-- two's complement in 32 bits, and back
abbrev pub bits : ℤ → ℕ
bits (pos n) = n
bits (negsuc n) = 2 ^ 32 - suc n

abbrev pub signed : ℕ → ℤ
signed n = cond (nat_lt n (2 ^ 31)) (pos n) (negsuc (2 ^ 32 - suc n))

abbrev pub written : Number → List ℕ
written a = bytes 4 (bits a.value)

-- a whole number as a value, if it is in the range
abbrev pub in_range : ℤ → Option Number
in_range z = cond (nat_lt (unsigned_abs z) (2 ^ 31)) (Some (nearest z)) None

abbrev pub read : List ℕ → Option Number
read bs = cond (are_bytes 4 bs) (in_range (signed (value bs))) None

abbrev pub numbers : Meaning Number
numbers = record {
  number = 1;
  width = 4;
  operators = length operators;
  own = nearest (pos 0);
  unknown = nearest (pos 2147483647);
  truth = truth;
  same = same;
  apply = apply;
  written = written;
  read = read;
}
