-- Numbers and parts of a message, and how numbers are written: highest byte first. Assumes nothing.
use Rattle.std.specs.Prelude.{ℕ, ◌+◌, ◌*◌, ◌/◌, ◌%◌, ◌<◌, List, [], ◌∷◌, take, drop, slice_index}

-- every element is a byte
abbrev pub Bytes : List ℕ → Type 0
Bytes m = (i : ℕ) → slice_index m i < 256

-- the byte at a position, and the numbers in the two and in the four bytes from there
abbrev pub byte_at : List ℕ → ℕ → ℕ
byte_at m at = slice_index m at

abbrev pub pair_at : List ℕ → ℕ → ℕ
pair_at m at = slice_index m at * 256 + slice_index m (at + 1)

abbrev pub quad_at : List ℕ → ℕ → ℕ
quad_at m at = slice_index m at * 16777216 + slice_index m (at + 1) * 65536 + slice_index m (at + 2) * 256 + slice_index m (at + 3)

-- n bytes from a position on
abbrev pub part : List ℕ → ℕ → ℕ → List ℕ
part m at n = take n (drop at m)

-- a number in two bytes, and in four
abbrev pub pair_of : ℕ → List ℕ
pair_of n = n / 256 ∷ n % 256 ∷ []

abbrev pub quad_of : ℕ → List ℕ
quad_of n = n / 16777216 ∷ n / 65536 % 256 ∷ n / 256 % 256 ∷ n % 256 ∷ []
