-- Bytes that stand in a message at a position. Assumes nothing.
use Rattle.std.proofs.Common.{◌≡◌, ℕ, zero, suc, ◌+◌, ◌-◌, ◌*◌, ◌/◌, ◌%◌, ◌<◌, ◌≤◌, List, [], ◌∷◌, ◌++◌, length, get_or, take, drop, sym, refl, ap, ◌∙◌, subst, arith, length-append, length-drop, length-take, get_or-drop, drop-cons, drop-drop, take-add}
use Rattle.std.proofs.lemmas.List.{get_or-take, drop-take, take-take}
use lib.Seq.{take-append_seam, drop-append_seam}
use Rattle.record.specs.Fields.{Bytes, byte_at, pair_at, part, pair_of}

pub record Spans (m : List ℕ) (at : ℕ) (xs : List ℕ) : Type 0 where
  pub room : at + length xs ≤ length m
  pub is : part m at (length xs) ≡ xs

pub part_add : (m : List ℕ) (at a b : ℕ) → part m at (a + b) ≡ part m at a ++ part m (at + a) b
part_add m at a b = take-add a b (drop at m) ∙ ap (λ (r : List ℕ). take a (drop at m) ++ take b r) (drop-drop a at m)

pub part_length : (m : List ℕ) (at n : ℕ) → at + n ≤ length m → length (part m at n) ≡ n
part_length m at n h = simp (length-take, length-drop) (omega arith)

pub at_is : {m : List ℕ} {at bt : ℕ} {xs : List ℕ} → at ≡ bt → Spans m at xs → Spans m bt xs
at_is {m} {at} {bt} {xs} e s = subst (λ i. Spans m i xs) e s

pub spans_is : {m : List ℕ} {at : ℕ} {xs ys : List ℕ} → xs ≡ ys → Spans m at xs → Spans m at ys
spans_is {m} {at} e s = subst (Spans m at) e s

pub spans_none : (m : List ℕ) (at : ℕ) → at ≤ length m → Spans m at []
spans_none m at h = record { room = omega arith; is = refl }

pub spans_both : {m : List ℕ} {at : ℕ} {xs ys : List ℕ} → Spans m at xs → Spans m (at + length xs) ys → Spans m at (xs ++ ys)
spans_both {m} {at} {xs} {ys} s t =
    let long = length-append xs ys in
    let r = t.room in
    record {
      room = omega arith;
      is = ap (part m at) long ∙ part_add m at (length xs) (length ys) ∙ (λ j. s.is j ++ t.is j);
    }

-- a message has at a position what its part there is
pub spans_part : (m : List ℕ) (at n : ℕ) (xs : List ℕ) → at + n ≤ length m → part m at n ≡ xs → Spans m at xs
spans_part m at n xs h e =
    let long : length xs ≡ n = sym (ap length e) ∙ part_length m at n h in
    record { room = omega arith; is = ap (part m at) long ∙ e }

module _ {m : List ℕ} {at : ℕ} (xs ys : List ℕ) (s : Spans m at (xs ++ ys)) where
  long : length (xs ++ ys) ≡ length xs + length ys
  long = length-append xs ys

  room_first : at + length xs ≤ length m
  room_first = let r = s.room in let l = long in omega arith

  joined : part m at (length xs) ++ part m (at + length xs) (length ys) ≡ xs ++ ys
  joined = sym (part_add m at (length xs) (length ys)) ∙ ap (part m at) (sym long) ∙ s.is

  first_long : length (part m at (length xs)) ≡ length xs
  first_long = part_length m at (length xs) room_first

  pub spans_first : Spans m at xs
  spans_first = record {
    room = room_first;
    is = sym (take-append_seam (part m at (length xs)) (part m (at + length xs) (length ys))) ∙ (λ j. take (first_long j) (joined j)) ∙ take-append_seam xs ys;
  }

  pub spans_rest : Spans m (at + length xs) ys
  spans_rest = record {
    room = let r = s.room in let l = long in omega arith;
    is = sym (drop-append_seam (part m at (length xs)) (part m (at + length xs) (length ys))) ∙ (λ j. drop (first_long j) (joined j)) ∙ drop-append_seam xs ys;
  }

-- one byte
pub byte_spans : (m : List ℕ) (at : ℕ) → at + 1 ≤ length m → Spans m at (get_or m at 0 ∷ [])
byte_spans m at h = record { room = h; is = ap (take 1) (drop-cons m at 0 (omega arith)) }

pub spans_byte : {m : List ℕ} {at x : ℕ} → Spans m at (x ∷ []) → get_or m at 0 ≡ x
spans_byte {m} {at} {x} s = let e = (byte_spans m at s.room).is in let f = s.is in cc

-- a pair
pub spans_pair : {m : List ℕ} {at : ℕ} (n : ℕ) → Spans m at (pair_of n) → pair_at m at ≡ n
spans_pair {m} {at} n s =
    let h : get_or m at 0 ≡ n / 256 = spans_byte (spans_first (n / 256 ∷ []) (n % 256 ∷ []) s) in
    let l : get_or m (at + 1) 0 ≡ n % 256 = spans_byte (spans_rest (n / 256 ∷ []) (n % 256 ∷ []) s) in
    omega arith

pub pair_spans : (m : List ℕ) (at : ℕ) → Bytes m → at + 2 ≤ length m → Spans m at (pair_of (pair_at m at))
pair_spans m at b h =
    let low = b (at + 1) in
    let x : get_or m at 0 ≡ pair_at m at / 256 = omega arith in
    let y : get_or m (at + 1) 0 ≡ pair_at m at % 256 = omega arith in
    spans_both {xs = pair_at m at / 256 ∷ []} {ys = pair_at m at % 256 ∷ []} (spans_is (ap (λ (z : ℕ). z ∷ []) x) (byte_spans m at (omega arith))) (spans_is (ap (λ (z : ℕ). z ∷ []) y) (byte_spans m (at + 1) (omega arith)))

-- a part of a part, and a byte and a pair of one
pub part_part : (m : List ℕ) (at n i k : ℕ) → i + k ≤ n → part (part m at n) i k ≡ part m (at + i) k
part_part m at n i k h =
    let l : n ≡ i + (n - i) = omega arith in
    let le : k ≤ n - i = omega arith in
    ap (λ z. take k (drop i (take z (drop at m)))) l ∙ ap (take k) (drop-take i (n - i) (drop at m)) ∙ take-take k (n - i) (drop i (drop at m)) le ∙ ap (take k) (drop-drop i at m)

pub byte_part : (m : List ℕ) (at n i : ℕ) → i < n → byte_at (part m at n) i ≡ byte_at m (at + i)
byte_part m at n i h = get_or-take n (drop at m) i 0 h ∙ get_or-drop at m i 0

pub pair_part : (m : List ℕ) (at n : ℕ) → 2 ≤ n → pair_at (part m at n) 0 ≡ pair_at m at
pair_part m at n h =
    let e : at + 0 ≡ at = omega arith in
    let high = byte_part m at n 0 (omega arith) ∙ ap (byte_at m) e in
    let low = byte_part m at n 1 (omega arith) in
    λ j. high j * 256 + low j

-- a number in a part is that in the message
pub bytes_part : (m : List ℕ) (at n : ℕ) → Bytes m → Bytes (part m at n)
bytes_part m at n b i = in_take n (drop at m) i (λ j. subst (λ x. x < 256) (sym (get_or-drop at m j 0)) (b (at + j)))
  where
    in_take : (n : ℕ) (l : List ℕ) (i : ℕ) → Bytes l → get_or (take n l) i 0 < 256
    in_take zero l i b = omega arith
    in_take (suc n) [] i b = omega arith
    in_take (suc n) (x ∷ l) zero b = b 0
    in_take (suc n) (x ∷ l) (suc i) b = in_take n l i (λ j. b (suc j))
