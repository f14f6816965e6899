-- Numbers as bytes, at any width: what is written is read, and what is read was written so.
use Rattle.std.specs.Prelude.{◌≡◌, ℕ, zero, suc, ◌+◌, ◌*◌, ◌/◌, ◌%◌, ◌^◌, ◌<◌, true, List, [], ◌∷◌, ◌++◌, length, ◌==◌, nat_lt, slice_index, refl}
use Rattle.std.proofs.Common.{sym, ap, ◌∙◌, append-nil, pow-suc, add-zero, zero-add, arith}
use Rattle.std.proofs.lemmas.Nat.{div-add-mod', div_below, div-mul-add, mod-mul-add, mod_below}
use Rattle.std.proofs.lemmas.Bool.{and_parts, and_from, eqb-true, eq-eqb, ltb-true, lt-ltb}
use Rattle.kind.specs.Bytes.{all_bytes, are_bytes, bytes_onto, bytes, value_after, value}

-- a list of numbers below 256 is one of bytes
pub all_bytes_if : (bs : List ℕ) → ((i : ℕ) → slice_index bs i < 256) → all_bytes bs ≡ true
all_bytes_if [] h = refl
all_bytes_if (b ∷ bs) h = and_from (nat_lt b 256) (all_bytes bs) (lt-ltb b 256 (h zero)) (all_bytes_if bs (λ i. h (suc i)))

-- k numbers below 256 are k bytes
pub are_bytes_if : (n : ℕ) (bs : List ℕ) → length bs ≡ n → ((i : ℕ) → slice_index bs i < 256) → are_bytes n bs ≡ true
are_bytes_if n bs l h = and_from (length bs == n) (all_bytes bs) (eq-eqb (length bs) n l) (all_bytes_if bs h)

head_byte : (b : ℕ) (bs : List ℕ) → all_bytes (b ∷ bs) ≡ true → b < 256
head_byte b bs h = ltb-true b 256 (and_parts (nat_lt b 256) (all_bytes bs) h).0

tail_bytes : (b : ℕ) (bs : List ℕ) → all_bytes (b ∷ bs) ≡ true → all_bytes bs ≡ true
tail_bytes b bs h = (and_parts (nat_lt b 256) (all_bytes bs) h).1

-- each byte is below 256
pub byte_at : (bs : List ℕ) → all_bytes bs ≡ true → (i : ℕ) → slice_index bs i < 256
byte_at [] h i = omega arith
byte_at (b ∷ bs) h zero = head_byte b bs h
byte_at (b ∷ bs) h (suc i) = byte_at bs (tail_bytes b bs h) i

length_onto : (k n : ℕ) (rest : List ℕ) → length (bytes_onto k n rest) ≡ k + length rest
length_onto zero n rest = sym (zero-add (length rest))
length_onto (suc k) n rest = length_onto k (n / 256) (n % 256 ∷ rest) ∙ omega arith

all_bytes_onto : (k n : ℕ) (rest : List ℕ) → all_bytes rest ≡ true → all_bytes (bytes_onto k n rest) ≡ true
all_bytes_onto zero n rest h = h
all_bytes_onto (suc k) n rest h = all_bytes_onto k (n / 256) (n % 256 ∷ rest) (and_from (nat_lt (n % 256) 256) (all_bytes rest) (lt-ltb (n % 256) 256 (mod_below n 256 (omega arith))) h)

-- a number in k bytes is k bytes
pub length_bytes : (k n : ℕ) → length (bytes k n) ≡ k
length_bytes k n = length_onto k n [] ∙ omega arith

pub all_bytes_bytes : (k n : ℕ) → all_bytes (bytes k n) ≡ true
all_bytes_bytes k n = all_bytes_onto k n [] refl

pub are_bytes_bytes : (k n : ℕ) → are_bytes k (bytes k n) ≡ true
are_bytes_bytes k n = and_from (length (bytes k n) == k) (all_bytes (bytes k n)) (eq-eqb (length (bytes k n)) k (length_bytes k n)) (all_bytes_bytes k n)

value_onto : (k n : ℕ) (rest : List ℕ) → n < 256 ^ k → value (bytes_onto k n rest) ≡ value_after n rest
value_onto zero n rest h = ap (λ m. value_after m rest) (omega arith)
value_onto (suc k) n rest h =
    let p : 256 ^ suc k ≡ 256 ^ k * 256 = pow-suc 256 k in
    let q : n < 256 ^ k * 256 = omega arith in
    value_onto k (n / 256) (n % 256 ∷ rest) (div_below n 256 (256 ^ k) (omega arith) q)
    ∙ ap (λ m. value_after m rest) (div-add-mod' n 256)

-- a written number is read
pub value_bytes : (k n : ℕ) → n < 256 ^ k → value (bytes k n) ≡ n
value_bytes k n h = value_onto k n [] h

onto_value : (bs : List ℕ) (j m : ℕ) (rest : List ℕ) → all_bytes bs ≡ true → bytes_onto (length bs + j) (value_after m bs) rest ≡ bytes_onto j m (bs ++ rest)
onto_value [] j m rest h = ap (λ i. bytes_onto i m rest) (zero-add j)
onto_value (b ∷ bs) j m rest h =
    let s : b < 256 = head_byte b bs h in
    let e : length (b ∷ bs) + j ≡ length bs + suc j = omega arith in
    ap (λ i. bytes_onto i (value_after (m * 256 + b) bs) rest) e
    ∙ onto_value bs (suc j) (m * 256 + b) rest (tail_bytes b bs h)
    ∙ ap (λ i. bytes_onto j i ((m * 256 + b) % 256 ∷ bs ++ rest)) (div-mul-add m 256 b s)
    ∙ ap (λ i. bytes_onto j m (i ∷ bs ++ rest)) (mod-mul-add m 256 b s)

-- bytes are the writing of the number that they write
pub bytes_value : (k : ℕ) (bs : List ℕ) → are_bytes k bs ≡ true → bytes k (value bs) ≡ bs
bytes_value k bs h =
    let p = and_parts (length bs == k) (all_bytes bs) h in
    let l : k ≡ length bs + 0 = omega (arith, eqb-true (length bs) k p.0) in
    ap (λ i. bytes_onto i (value bs) []) l ∙ onto_value bs 0 0 [] p.1 ∙ append-nil bs

value_after_lt : (bs : List ℕ) (m k : ℕ) → all_bytes bs ≡ true → m < 256 ^ k → value_after m bs < 256 ^ (k + length bs)
value_after_lt [] m k h g = rw add-zero g
value_after_lt (b ∷ bs) m k h g =
    let s : b < 256 = head_byte b bs h in
    let p : 256 ^ suc k ≡ 256 ^ k * 256 = pow-suc 256 k in
    let q : m * 256 + b < 256 ^ suc k = omega arith in
    let e : suc k + length bs ≡ k + length (b ∷ bs) = omega arith in
    rw (← e) (value_after_lt bs (m * 256 + b) (suc k) (tail_bytes b bs h) q)

-- k bytes write a number below 256 ^ k
pub value_lt : (k : ℕ) (bs : List ℕ) → are_bytes k bs ≡ true → value bs < 256 ^ k
value_lt k bs h =
    let p = and_parts (length bs == k) (all_bytes bs) h in
    let l : 0 + length bs ≡ k = omega (arith, eqb-true (length bs) k p.0) in
    rw l at (value_after_lt bs 0 0 p.1 (omega arith))

-- the number that two, four and eight bytes write, as `from_be_bytes` has it
pub value_2 : (bs : List ℕ) → length bs ≡ 2 → value bs ≡ slice_index bs 0 * 256 + slice_index bs 1
value_2 [] l = absurd (omega arith)
value_2 (a ∷ []) l = absurd (omega arith)
value_2 (a ∷ b ∷ []) l = omega arith
value_2 (a ∷ b ∷ c ∷ cs) l = absurd (omega arith)

pub value_4 : (bs : List ℕ) → length bs ≡ 4 → value bs ≡ slice_index bs 0 * 16777216 + slice_index bs 1 * 65536 + slice_index bs 2 * 256 + slice_index bs 3
value_4 [] l = absurd (omega arith)
value_4 (a ∷ []) l = absurd (omega arith)
value_4 (a ∷ b ∷ []) l = absurd (omega arith)
value_4 (a ∷ b ∷ c ∷ []) l = absurd (omega arith)
value_4 (a ∷ b ∷ c ∷ d ∷ []) l = omega arith
value_4 (a ∷ b ∷ c ∷ d ∷ e ∷ es) l = absurd (omega arith)

four_more : (bs : List ℕ) (n : ℕ) → length bs ≡ 4 → value_after n bs ≡ n * 4294967296 + slice_index bs 0 * 16777216 + slice_index bs 1 * 65536 + slice_index bs 2 * 256 + slice_index bs 3
four_more [] n l = absurd (omega arith)
four_more (a ∷ []) n l = absurd (omega arith)
four_more (a ∷ b ∷ []) n l = absurd (omega arith)
four_more (a ∷ b ∷ c ∷ []) n l = absurd (omega arith)
four_more (a ∷ b ∷ c ∷ d ∷ []) n l = omega arith
four_more (a ∷ b ∷ c ∷ d ∷ e ∷ es) n l = absurd (omega arith)

pub value_8 :
    (bs : List ℕ) → length bs ≡ 8
    → value bs
    ≡ slice_index bs 0 * 72057594037927936 + slice_index bs 1 * 281474976710656 + slice_index bs 2 * 1099511627776 + slice_index bs 3 * 4294967296 + slice_index bs 4 * 16777216 + slice_index bs 5 * 65536 + slice_index bs 6 * 256 + slice_index bs 7
value_8 [] l = absurd (omega arith)
value_8 (a ∷ []) l = absurd (omega arith)
value_8 (a ∷ b ∷ []) l = absurd (omega arith)
value_8 (a ∷ b ∷ c ∷ []) l = absurd (omega arith)
value_8 (a ∷ b ∷ c ∷ d ∷ bs) l = four_more bs (value (a ∷ b ∷ c ∷ d ∷ [])) (omega arith) ∙ omega arith
