-- The laws of label sets.
use Rattle.std.specs.Prelude.{◌≡◌, ℕ, ◌%◌, ◌^◌, ◌<◌, Bool, true, false, ◌&&◌, Some, None, bit_xor, nat_eq, nat_lt, refl}
use Rattle.std.proofs.Common.{sym, ap, ◌∙◌, mod-eq_of_lt, arith}
use mathlib.Core.HLevel.{is_prop→PathP}
use Rattle.std.proofs.Math.Bridge.{le_prop}
use Rattle.std.specs.Int.Bits.{bit_and, bit_or, and_lt}
use Rattle.std.proofs.lemmas.Nat.{or_lt, xor_lt}
use Rattle.std.proofs.lemmas.Bool.{cond-true, ltb-true, lt-ltb, eqb-true, eq-eqb}
use Rattle.kind.specs.declared.label_set.LabelSet.{LabelSet}
use Rattle.kind.specs.Bytes.{are_bytes, bytes, value}
use Rattle.kind.specs.Kind.{Lawful}
use Rattle.kind.specs.LabelSets.{labelled, in_sixty, from_bool, same, within, label_sets, ByLabel}
use Rattle.kind.specs.Bits.{bit, bit_of_and, bit_of_or, bit_without, bit_above, same_bits}
use Rattle.kind.specs.BytesLemmas.{all_bytes_bytes, are_bytes_bytes, value_bytes, bytes_value, length_bytes}
use Rattle.kind.specs.Options.{given_since}

-- sets with the same bits are equal
pub same_set : (a b : LabelSet) → a.bits ≡ b.bits → a ≡ b
same_set a b e = λ i. record {
  bits = e i;
  sixty = is_prop→PathP (λ j. e j < 2 ^ 60) (λ j. le_prop) a.sixty b.sixty i;
}

-- a set of these bits, of which there are sixty at most
pub labelled_is : (n : ℕ) (x : LabelSet) → n < 2 ^ 60 → x.bits ≡ n → x ≡ labelled n
labelled_is n x h e = same_set x (labelled n) (e ∙ sym (mod-eq_of_lt h))

pub in_sixty_some : (n : ℕ) (x : LabelSet) → n < 2 ^ 60 → x.bits ≡ n → Some x ≡ in_sixty n
in_sixty_some n x h e = ap Some (labelled_is n x h e) ∙ sym (cond-true (nat_lt n (2 ^ 60)) (Some (labelled n)) None (lt-ltb n (2 ^ 60) h))

in_sixty_is : (n : ℕ) (v : LabelSet) → in_sixty n ≡ Some v → n ≡ v.bits
in_sixty_is n v e =
    let p = given_since (nat_lt n (2 ^ 60)) (Some (labelled n)) v e in
    let q : labelled n ≡ v = cc p.1 in
    sym (mod-eq_of_lt (ltb-true n (2 ^ 60) p.0)) ∙ ap (λ x. x.bits) q

pub label_sets_lawful : Lawful label_sets
label_sets_lawful = record {
  number_byte = omega arith;
  operators_byte = omega arith;
  some = omega arith;
  most = omega arith;
  long = λ v. length_bytes 8 v.bits;
  bytes = λ v. all_bytes_bytes 8 v.bits;
  back = λ v.
      let n = v.bits in
      let h : n < 2 ^ 60 = v.sixty in
      let g : n < 256 ^ 8 = omega arith in
      cond-true (are_bytes 8 (bytes 8 n)) (in_sixty (value (bytes 8 n))) None (are_bytes_bytes 8 n)
      ∙ ap in_sixty (value_bytes 8 n g)
      ∙ sym (in_sixty_some n v h refl);
  only = λ bs v e.
      let p = given_since (are_bytes 8 bs) (in_sixty (value bs)) v e in
      sym (ap (λ n. bytes 8 n) (sym (in_sixty_is (value bs) v p.1)) ∙ bytes_value 8 bs p.0);
  alike = λ a b e. same_set a b (eqb-true a.bits b.bits e);
  itself = λ a. eq-eqb a.bits a.bits refl;
}

from_bool_yes : (t : Bool) → from_bool t ≡ from_bool true → t ≡ true
from_bool_yes true e = refl
from_bool_yes false e = ap (λ s. nat_eq s.bits 1) e

implied : (p q : Bool) → (p ≡ true → q ≡ true) → (p && q) ≡ p
implied true q h = h refl
implied false q h = refl

implies : (p q : Bool) → (p && q) ≡ p → p ≡ true → q ≡ true
implies true q e t = e
implies false q e t = absurd (let z : ◌≡◌ {A = ℕ} 0 1 = cc in omega arith)

-- sixty bits of a number that has no more are the number's
whole : (n i : ℕ) → n < 2 ^ 60 → bit (n % 2 ^ 60) i ≡ bit n i
whole n i h = ap (λ m. bit m i) (mod-eq_of_lt h)

pub by_label : ByLabel
by_label = record {
  sixty = λ a i h. bit_above 60 a.bits i a.sixty h;
  in_either = λ a b i. whole (bit_or a.bits b.bits) i (or_lt 60 a.bits b.bits a.sixty b.sixty) ∙ bit_of_or a.bits b.bits i;
  in_both = λ a b i. whole (bit_and a.bits b.bits) i (and_lt 60 a.bits b.bits a.sixty b.sixty) ∙ bit_of_and a.bits b.bits i;
  in_first = λ a b i.
      let both = and_lt 60 a.bits b.bits a.sixty b.sixty in
      whole (bit_xor a.bits (bit_and a.bits b.bits)) i (xor_lt 60 a.bits (bit_and a.bits b.bits) a.sixty both) ∙ bit_without a.bits b.bits i;
  same_if = λ a b h. ap from_bool (eq-eqb a.bits b.bits (same_bits 60 a.bits b.bits a.sixty b.sixty h));
  same_only = λ a b e i. ap (λ n. bit n i) (eqb-true a.bits b.bits (from_bool_yes (same a b) e));
  within_if = λ a b h.
      let both = and_lt 60 a.bits b.bits a.sixty b.sixty in
      ap from_bool
      (eq-eqb (bit_and a.bits b.bits) a.bits
      (same_bits 60 (bit_and a.bits b.bits) a.bits both a.sixty
      (λ i. bit_of_and a.bits b.bits i ∙ implied (bit a.bits i) (bit b.bits i) (h i))));
  within_only = λ a b e i t.
      let both : bit_and a.bits b.bits ≡ a.bits = eqb-true (bit_and a.bits b.bits) a.bits (from_bool_yes (within a b) e) in
      implies (bit a.bits i) (bit b.bits i) (sym (bit_of_and a.bits b.bits i) ∙ ap (λ n. bit n i) both) t;
}
