-- How a script is read: lines, words, bytes in hexadecimal. Assumes nothing.
use Rattle.std.specs.Prelude.{ℕ, ◌+◌, ◌-◌, ◌*◌, Bool, false, cond, not, ◌&&◌, ◌||◌, List, [], ◌∷◌, Some, None, Option, ◌==◌, nat_le}

-- a blank parts words: a space, a tab or a carriage return
abbrev pub blank : ℕ → Bool
blank b = b == 32 || b == 9 || b == 13

-- any other byte stands in a word
abbrev pub in_word : ℕ → Bool
in_word b = not (blank b)

-- the bytes before the first that stops, and those from it on
abbrev pub before : (ℕ → Bool) → List ℕ → List ℕ
before stops [] = []
before stops (b ∷ bs) = cond (stops b) [] (b ∷ before stops bs)

abbrev pub from : (ℕ → Bool) → List ℕ → List ℕ
from stops [] = []
from stops (b ∷ bs) = cond (stops b) (b ∷ bs) (from stops bs)

-- the first word of a line, empty if there is none, and what follows it
abbrev pub first_word : List ℕ → List ℕ
first_word line = before blank (from in_word line)

abbrev pub other_words : List ℕ → List ℕ
other_words line = from blank (from in_word line)

-- the value of a hexadecimal digit in either case
abbrev pub digit_value : ℕ → Option ℕ
digit_value b =
    cond (nat_le 48 b && nat_le b 57) (Some (b - 48))
    (cond (nat_le 65 b && nat_le b 70) (Some (b - 55))
    (cond (nat_le 97 b && nat_le b 102) (Some (b - 87)) None))

abbrev pub with_digit : ℕ → Option ℕ → Option ℕ
with_digit high None = None
with_digit high (Some low) = Some (high * 16 + low)

abbrev pub with_digits : Option ℕ → Option ℕ → Option ℕ
with_digits None low = None
with_digits (Some high) low = with_digit high low

-- one byte more in front
abbrev pub with_bytes : ℕ → Option (List ℕ) → Option (List ℕ)
with_bytes b None = None
with_bytes b (Some bs) = Some (b ∷ bs)

abbrev pub with_byte : Option ℕ → Option (List ℕ) → Option (List ℕ)
with_byte None bs = None
with_byte (Some b) bs = with_bytes b bs

-- bytes of two digits each
abbrev pub pairs : List ℕ → Option (List ℕ)
pairs [] = Some []
pairs (a ∷ []) = None
pairs (a ∷ (b ∷ bs)) = with_byte (with_digits (digit_value a) (digit_value b)) (pairs bs)

-- the bytes of a word: `-` for none
abbrev pub is_none : List ℕ → Bool
is_none [] = false
is_none (b ∷ []) = b == 45
is_none (b ∷ (c ∷ cs)) = false

abbrev pub written_bytes : List ℕ → Option (List ℕ)
written_bytes word = cond (is_none word) (Some []) (pairs word)

-- the number that digits write behind n, if all are digits and no front of them is above 32 bits
abbrev pub decimal_value : ℕ → List ℕ → Option ℕ
decimal_value n [] = Some n
decimal_value n (b ∷ bs) =
    cond (nat_le 48 b && nat_le b 57)
    (cond (nat_le (n * 10 + (b - 48)) 4294967295) (decimal_value (n * 10 + (b - 48)) bs) None)
    None
