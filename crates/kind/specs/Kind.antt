-- What a kind of value is, and the laws that each kind shows. Assumes nothing.
use Rattle.std.specs.Prelude.{◌≡◌, ℕ, ◌<◌, ◌≤◌, Bool, true, List, length, Some, Option}
use Rattle.kind.specs.Bytes.{all_bytes}

-- What a kind with the values V is. All answers are functions of the operands.
pub record Meaning (V : Type 0) : Type 0 where
  -- the kind's number, the bytes of a written value, and how many operators there are
  pub number : ℕ
  pub width : ℕ
  pub operators : ℕ
  -- the two constants
  pub own : V
  pub unknown : V
  -- whether a value counts as yes
  pub truth : V → Bool
  -- whether two values are the same value
  pub same : V → V → Bool
  -- the operator of a number on two values
  pub apply : ℕ → V → V → V
  -- the bytes of a value, and the value of bytes, if they are the writing of one
  pub written : V → List ℕ
  pub read : List ℕ → Option V

-- The laws.
pub record Lawful {V : Type 0} (m : Meaning V) : Type 0 where
  -- number and operators are counted in a byte
  pub number_byte : m.number < 256
  pub operators_byte : m.operators < 256
  -- the width is 1 to 16
  pub some : 1 ≤ m.width
  pub most : m.width ≤ 16
  -- a written value has as many bytes as the width says
  pub long : (v : V) → length (m.written v) ≡ m.width
  pub bytes : (v : V) → all_bytes (m.written v) ≡ true
  -- a written value reads as itself
  pub back : (v : V) → m.read (m.written v) ≡ Some v
  -- bytes that read as a value are its writing
  pub only : (bs : List ℕ) (v : V) → m.read bs ≡ Some v → bs ≡ m.written v
  -- values that are told to be the same are equal, and each value is the same as itself
  pub alike : (a b : V) → m.same a b ≡ true → a ≡ b
  pub itself : (a : V) → m.same a a ≡ true
