-- The laws of numbers.
use Rattle.std.specs.Prelude.{◌≡◌, ℕ, suc, ◌-◌, ◌^◌, ◌<◌, ◌≤◌, true, false, cond, not, ltb, ℤ, pos, negsuc, ◌-ℤ◌, Some, None, ◌≢◌, nat_lt, unsigned_abs, int_lt, refl}
use Rattle.std.proofs.Common.{Less, Greater, Equal, sym, ap, ◌∙◌, arith}
use mathlib.Core.HLevel.{is_prop→PathP}
use Rattle.std.proofs.Math.Bridge.{le_prop}
use mir.Val.{to_z, of_z, sel}
use Rattle.std.specs.Int.{int_min, int_max, w32}
use Rattle.std.specs.Ordering.{int_cmp, int_eq, is_lt}
use Rattle.std.specs.Cmp.{signed_Decides}
use Rattle.std.proofs.lemmas.Int.{ints, of_z-to_z}
use Rattle.std.proofs.lemmas.Bool.{cond_both, cond-true, cond-false, ltb-true, ltb-false, lt-ltb}
use Rattle.kind.specs.declared.number.Number.{Number}
use Rattle.kind.specs.Bytes.{are_bytes, bytes, value}
use Rattle.kind.specs.Kind.{Lawful}
use Rattle.kind.specs.Numbers.{limited, nearest, non_zero, bits, signed, in_range, numbers}
use Rattle.kind.specs.BytesLemmas.{all_bytes_bytes, are_bytes_bytes, value_bytes, bytes_value, value_lt, length_bytes}
use Rattle.kind.specs.Options.{given_since}

-- numbers with the same value are equal
pub same_number : (a b : Number) → a.value ≡ b.value → a ≡ b
same_number a b e = λ i. record {
  value = e i;
  range = is_prop→PathP (λ j. unsigned_abs (e j) < 2 ^ 31) (λ j. le_prop) a.range b.range i;
}

pub clamped : (z : ℤ) → int_max (negsuc 2147483646) (int_min z (pos 2147483647)) ≡ limited z
clamped (pos n) = grind (arith, ints)
clamped (negsuc n) = grind (arith, ints)

-- a whole number in the range stays
pub limited_in : (z : ℤ) → unsigned_abs z < 2 ^ 31 → limited z ≡ z
limited_in (pos n) h = ap pos (omega arith)
limited_in (negsuc n) h = ap negsuc (omega arith)

signed_is : (n : ℕ) → signed n ≡ to_z w32 n
signed_is n = elim (nat_lt n (2 ^ 31)) as (λ t. cond t (pos n) (negsuc (2 ^ 32 - suc n)) ≡ sel t (pos n) (negsuc (2 ^ 32 - suc n))) [ true ↦ refl | false ↦ refl ]

pub in_range_none : (n : ℕ) (v : ℤ) → n < 2 ^ 32 → v ≡ to_z w32 n → of_z w32 v ≡ 2147483648 → None ≡ in_range (signed n)
in_range_none n v h e t =
    let m : n ≡ 2147483648 = sym (of_z-to_z w32 n h) ∙ ap (of_z w32) (sym e) ∙ t in
    ap (λ k. in_range (signed k)) (sym m)

signed_range : (n : ℕ) → n < 2 ^ 32 → (n ≢ 2147483648) → unsigned_abs (signed n) < 2 ^ 31
signed_range n h t = cond_both (nat_lt n (2 ^ 31)) (pos n) (negsuc (2 ^ 32 - suc n)) (λ z. unsigned_abs z < 2 ^ 31) (λ e. ltb-true n (2 ^ 31) e) (λ e. let g : 2 ^ 31 ≤ n = ltb-false n (2 ^ 31) e in omega arith)

-- a number of these bits
in_range_of : (z : ℤ) (x : Number) → unsigned_abs z < 2 ^ 31 → x.value ≡ z → Some x ≡ in_range z
in_range_of z x h e =
    ap Some (same_number x (nearest z) (e ∙ sym (limited_in z h)))
    ∙ sym (cond-true (nat_lt (unsigned_abs z) (2 ^ 31)) (Some (nearest z)) None (lt-ltb (unsigned_abs z) (2 ^ 31) h))

pub in_range_some :
    (n : ℕ) (v : ℤ) (x : Number) → n < 2 ^ 32 → v ≡ to_z w32 n → (of_z w32 v ≢ 2147483648) → x.value ≡ to_z w32 (of_z w32 v)
    → Some x ≡ in_range (signed n)
in_range_some n v x h e t s =
    let u : of_z w32 v ≡ n = ap (of_z w32) e ∙ of_z-to_z w32 n h in
    in_range_of (signed n) x (signed_range n h (λ m. t (u ∙ m))) (s ∙ ap (to_z w32) u ∙ sym (signed_is n))

bits_lt : (z : ℤ) → unsigned_abs z < 2 ^ 31 → bits z < 2 ^ 32
bits_lt (pos n) h = omega arith
bits_lt (negsuc n) h = omega arith

signed_bits : (z : ℤ) → unsigned_abs z < 2 ^ 31 → signed (bits z) ≡ z
signed_bits (pos n) h = cond-true (nat_lt n (2 ^ 31)) (pos n) (negsuc (2 ^ 32 - suc n)) (lt-ltb n (2 ^ 31) h)
signed_bits (negsuc n) h =
    let m : ℕ = 2 ^ 32 - suc n in
    let f : ltb m (2 ^ 31) ≡ false = grind arith in
    cond-false (nat_lt m (2 ^ 31)) (pos m) (negsuc (2 ^ 32 - suc m)) f ∙ ap negsuc (omega arith)

bits_signed : (n : ℕ) → n < 2 ^ 32 → bits (signed n) ≡ n
bits_signed n h = elim (nat_lt n (2 ^ 31)) as (λ t. bits (cond t (pos n) (negsuc (2 ^ 32 - suc n))) ≡ n) [ true ↦ refl | false ↦ omega arith ]

in_range_is : (z : ℤ) (v : Number) → in_range z ≡ Some v → z ≡ v.value
in_range_is z v e =
    let p = given_since (nat_lt (unsigned_abs z) (2 ^ 31)) (Some (nearest z)) v e in
    let q : nearest z ≡ v = cc p.1 in
    sym (limited_in z (ltb-true (unsigned_abs z) (2 ^ 31) p.0)) ∙ ap (λ x. x.value) q

no_difference : (x y : ℤ) → not (non_zero (x -ℤ y)) ≡ true → x ≡ y
no_difference x y e = grind (arith, ints)

difference_none : (x : ℤ) → not (non_zero (x -ℤ x)) ≡ true
difference_none x = grind (arith, ints)

pub numbers_lawful : Lawful numbers
numbers_lawful = record {
  number_byte = omega arith;
  operators_byte = omega arith;
  some = omega arith;
  most = omega arith;
  long = λ v. length_bytes 4 (bits v.value);
  bytes = λ v. all_bytes_bytes 4 (bits v.value);
  back = λ v.
      let z = v.value in
      cond-true (are_bytes 4 (bytes 4 (bits z))) (in_range (signed (value (bytes 4 (bits z))))) None (are_bytes_bytes 4 (bits z))
      ∙ ap (λ n. in_range (signed n)) (value_bytes 4 (bits z) (bits_lt z v.range))
      ∙ ap in_range (signed_bits z v.range)
      ∙ sym (in_range_of z v v.range refl);
  only = λ bs v e.
      let p = given_since (are_bytes 4 bs) (in_range (signed (value bs))) v e in
      let z : signed (value bs) ≡ v.value = in_range_is (signed (value bs)) v p.1 in
      sym (ap (λ n. bytes 4 n) (ap bits (sym z) ∙ bits_signed (value bs) (value_lt 4 bs p.0)) ∙ bytes_value 4 bs p.0);
  alike = λ a b e. same_number a b (no_difference a.value b.value e);
  itself = λ a. difference_none a.value;
}

-- numbers are equal exactly when their difference is 0
pub same_by_difference : (x y : ℤ) → int_eq x y ≡ not (non_zero (x -ℤ y))
same_by_difference x y = grind (arith, ints, signed_Decides x y)

-- a number is below another exactly when the order says so
pub below_by_order : (x y : ℤ) → is_lt (int_cmp x y) ≡ int_lt x y
below_by_order x y = elim (int_lt x y) as (λ t. is_lt (cond t Less (cond (int_lt y x) Greater Equal)) ≡ t) [ true ↦ refl | false ↦ elim (int_lt y x) as (λ t. is_lt (cond t Greater Equal) ≡ false) [ true ↦ refl | false ↦ refl ] ]
