-- Numbers as bytes, highest byte first. Assumes nothing.
use Rattle.std.specs.Prelude.{ℕ, zero, suc, ◌+◌, ◌*◌, ◌/◌, ◌%◌, Bool, true, ◌&&◌, List, [], ◌∷◌, length, ◌==◌, nat_lt}

-- whether each is a byte
abbrev pub all_bytes : List ℕ → Bool
all_bytes [] = true
all_bytes (b ∷ bs) = nat_lt b 256 && all_bytes bs

-- whether these are k bytes
abbrev pub are_bytes : ℕ → List ℕ → Bool
are_bytes k bs = length bs == k && all_bytes bs

-- the k lowest bytes of n, before what is there
abbrev pub bytes_onto : ℕ → ℕ → List ℕ → List ℕ
bytes_onto zero n rest = rest
bytes_onto (suc k) n rest = bytes_onto k (n / 256) (n % 256 ∷ rest)

-- n in k bytes
abbrev pub bytes : ℕ → ℕ → List ℕ
bytes k n = bytes_onto k n []

-- the number that bytes write, behind one that was read already
abbrev pub value_after : ℕ → List ℕ → ℕ
value_after n [] = n
value_after n (b ∷ bs) = value_after (n * 256 + b) bs

-- the number that bytes write
abbrev pub value : List ℕ → ℕ
value bs = value_after 0 bs
