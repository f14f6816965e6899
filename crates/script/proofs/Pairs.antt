-- Bytes of two digits each, as the library decodes them. Assumes nothing.
use Rattle.std.proofs.Common.{◌≡◌, ℕ, zero, suc, ◌+◌, ◌<◌, ◌*◌, ◌%◌, ◌==◌, Bool, true, false, cond, List, [], ◌∷◌, length, get_or, Some, None, Option, Result, Ok, Err, sym, refl, ap, ◌∙◌, ◌≢◌, arith}
use Rattle.std.specs.Char.{is_ascii_hexdigit}
use Rattle.std.specs.Result.{result_ok}
use Rattle.std.proofs.lemmas.Bool.Decides.{nat_tests}
use Rattle.std.proofs.lemmas.Bool.{eqb-true}
use Rattle.hex.specs.Hex.{decode_of, decode_pairs, pair_value, digit_or_error, hex_digit_value, ◌>>=◌}
use Rattle.hex.specs.declared.error.FromHexError.{FromHexError}
use Rattle.hex.specs.declared.error.FromHexError.TheVariants.{OddLength}
use Rattle.script.specs.Script.{digit_value, with_digits, with_byte, pairs, written_bytes}

digit_is : (c : ℕ) → hex_digit_value c ≡ digit_value c
digit_is c = grind (arith, nat_tests)

two_digits : (a b i j : ℕ) (x y : Option ℕ) → result_ok (digit_or_error a i x >>= (λ h. digit_or_error b j y >>= (λ l. Ok (h * 16 + l)))) ≡ with_digits x y
two_digits a b i j None y = refl
two_digits a b i j (Some h) None = refl
two_digits a b i j (Some h) (Some l) = refl

pair_is : (a b i : ℕ) → result_ok (pair_value a b i) ≡ with_digits (digit_value a) (digit_value b)
pair_is a b i = two_digits a b i (i + 1) (hex_digit_value a) (hex_digit_value b) ∙ ap (λ x. with_digits x (hex_digit_value b)) (digit_is a) ∙ ap (with_digits (digit_value a)) (digit_is b)

one_before : (p : Result ℕ FromHexError) (q : Result (List ℕ) FromHexError) → result_ok (p >>= (λ v. q >>= (λ bytes. Ok (v ∷ bytes)))) ≡ with_byte (result_ok p) (result_ok q)
one_before (Err e) q = refl
one_before (Ok v) (Err e) = refl
one_before (Ok v) (Ok bytes) = refl

pairs_are : (i : ℕ) (text : List ℕ) → result_ok (decode_pairs i text) ≡ pairs text
unfolding decode_pairs
pairs_are i [] = refl
pairs_are i (a ∷ []) = refl
pairs_are i (a ∷ (b ∷ rest)) =
    one_before (pair_value a b i) (decode_pairs (i + 2) rest)
    ∙ ap (λ x. with_byte x (result_ok (decode_pairs (i + 2) rest))) (pair_is a b i)
    ∙ ap (with_byte (with_digits (digit_value a) (digit_value b))) (pairs_are (i + 2) rest)

none_after : (x : Option ℕ) → with_byte x None ≡ None
none_after None = refl
none_after (Some b) = refl

odd : (text : List ℕ) → length text % 2 ≡ 1 → pairs text ≡ None
odd [] h = absurd (omega arith)
odd (a ∷ []) h = refl
odd (a ∷ (b ∷ rest)) h =
    ap (with_byte (with_digits (digit_value a) (digit_value b))) (odd rest (omega arith))
    ∙ none_after (with_digits (digit_value a) (digit_value b))

by_parity : (text : List ℕ) (b : Bool) → (length text % 2 == 1) ≡ b → result_ok (cond b (Err OddLength) (decode_pairs 0 text)) ≡ pairs text
by_parity text true e = sym (odd text (eqb-true _ _ e))
by_parity text false e = pairs_are 0 text

-- what the library decodes is the bytes of the pairs
pub decoded : (word : List ℕ) → pairs word ≡ result_ok (decode_of word)
decoded word = sym (by_parity word _ refl)

-- a word that is no dash is read as pairs
pub in_pairs : (word : List ℕ) → (length word ≡ 1 → get_or word 0 0 ≢ 45) → written_bytes word ≡ pairs word
in_pairs [] h = refl
in_pairs (b ∷ []) h = let n = h refl in grind (arith, nat_tests)
in_pairs (a ∷ (b ∷ rest)) h = refl

-- a word with a byte that is no digit has none
no_value : (c : ℕ) → is_ascii_hexdigit c ≡ false → digit_value c ≡ None
no_value c h = grind (arith, nat_tests)

no_low : (x : Option ℕ) → with_digits x None ≡ None
no_low None = refl
no_low (Some h) = refl

pub bad_digit : (i : ℕ) (word : List ℕ) → i < length word → is_ascii_hexdigit (get_or word i 0) ≡ false → pairs word ≡ None
bad_digit i [] h bad = absurd (omega arith)
bad_digit i (a ∷ []) h bad = refl
bad_digit zero (a ∷ (b ∷ rest)) h bad = ap (λ x. with_byte (with_digits x (digit_value b)) (pairs rest)) (no_value a bad)
bad_digit (suc zero) (a ∷ (b ∷ rest)) h bad = ap (λ x. with_byte (with_digits (digit_value a) x) (pairs rest)) (no_value b bad) ∙ ap (λ x. with_byte x (pairs rest)) (no_low (digit_value a))
bad_digit (suc (suc i)) (a ∷ (b ∷ rest)) h bad =
    ap (with_byte (with_digits (digit_value a) (digit_value b))) (bad_digit i rest (omega arith) bad)
    ∙ none_after (with_digits (digit_value a) (digit_value b))
