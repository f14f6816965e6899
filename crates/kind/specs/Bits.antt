-- Numbers bit by bit.
use Rattle.std.specs.Prelude.{◌≡◌, ℕ, zero, suc, ◌+◌, ◌*◌, ◌/◌, ◌%◌, ◌^◌, ◌<◌, ◌≤◌, min, max, Bool, false, not, ◌&&◌, ◌||◌, ◌==◌, bit_xor, nat_eq, refl}
use Rattle.std.proofs.Common.{sym, ap, ◌∙◌, pow-suc, div-one, arith, pow_mono}
use Rattle.std.proofs.Math.Nat.{div-eq_of_lt}
use Rattle.std.specs.Int.Bits.{bit_and, bit_or, differ, and_step, or_step, xor_step}
use Rattle.std.proofs.lemmas.Nat.{mod-mul-add, mod_below, shr-shr, and_shr, or_shr, xor_shr}

-- whether bit i from the lowest is set
abbrev pub bit : ℕ → ℕ → Bool
bit n i = n / 2 ^ i % 2 == 1

-- what holds of each two bits
two_bits : (P : ℕ → ℕ → Type 0) → P 0 0 → P 0 1 → P 1 0 → P 1 1 → (p q : ℕ) → p < 2 → q < 2 → P p q
two_bits P a b c d zero zero h k = a
two_bits P a b c d zero (suc zero) h k = b
two_bits P a b c d zero (suc (suc q)) h k = absurd (omega arith)
two_bits P a b c d (suc zero) zero h k = c
two_bits P a b c d (suc zero) (suc zero) h k = d
two_bits P a b c d (suc zero) (suc (suc q)) h k = absurd (omega arith)
two_bits P a b c d (suc (suc p)) q h k = absurd (omega arith)

by_bits : (P : ℕ → ℕ → Type 0) → P 0 0 → P 0 1 → P 1 0 → P 1 1 → (x y : ℕ) → P (x % 2) (y % 2)
by_bits P a b c d x y = two_bits P a b c d (x % 2) (y % 2) (mod_below x 2 (omega arith)) (mod_below y 2 (omega arith))

and_low : (x y : ℕ) → bit_and x y % 2 ≡ min (x % 2) (y % 2)
and_low x y =
    ap (λ n. n % 2) (and_step x y)
    ∙ mod-mul-add (bit_and (x / 2) (y / 2)) 2 (min (x % 2) (y % 2)) (by_bits (λ p q. min p q < 2) (omega arith) (omega arith) (omega arith) (omega arith) x y)

or_low : (x y : ℕ) → bit_or x y % 2 ≡ max (x % 2) (y % 2)
or_low x y =
    ap (λ n. n % 2) (or_step x y)
    ∙ mod-mul-add (bit_or (x / 2) (y / 2)) 2 (max (x % 2) (y % 2)) (by_bits (λ p q. max p q < 2) (omega arith) (omega arith) (omega arith) (omega arith) x y)

xor_low : (x y : ℕ) → bit_xor x y % 2 ≡ differ (x % 2) (y % 2)
xor_low x y =
    ap (λ n. n % 2) (xor_step x y)
    ∙ mod-mul-add (bit_xor (x / 2) (y / 2)) 2 (differ (x % 2) (y % 2)) (by_bits (λ p q. differ p q < 2) (omega arith) (omega arith) (omega arith) (omega arith) x y)

pub bit_of_and : (x y i : ℕ) → bit (bit_and x y) i ≡ (bit x i && bit y i)
bit_of_and x y i =
    ap (λ n. nat_eq (n % 2) 1) (and_shr x y i)
    ∙ ap (λ n. nat_eq n 1) (and_low (x / 2 ^ i) (y / 2 ^ i))
    ∙ by_bits (λ p q. (min p q == 1) ≡ (p == 1 && q == 1)) refl refl refl refl (x / 2 ^ i) (y / 2 ^ i)

pub bit_of_or : (x y i : ℕ) → bit (bit_or x y) i ≡ (bit x i || bit y i)
bit_of_or x y i =
    ap (λ n. nat_eq (n % 2) 1) (or_shr x y i)
    ∙ ap (λ n. nat_eq n 1) (or_low (x / 2 ^ i) (y / 2 ^ i))
    ∙ by_bits (λ p q. (max p q == 1) ≡ (p == 1 || q == 1)) refl refl refl refl (x / 2 ^ i) (y / 2 ^ i)

-- the bits of x but for those that y has too
pub bit_without : (x y i : ℕ) → bit (bit_xor x (bit_and x y)) i ≡ (bit x i && not (bit y i))
bit_without x y i =
    let p : ℕ = x / 2 ^ i in
    let q : ℕ = y / 2 ^ i in
    ap (λ n. nat_eq (n % 2) 1) (xor_shr x (bit_and x y) i ∙ ap (λ n. bit_xor p n) (and_shr x y i))
    ∙ ap (λ n. nat_eq n 1) (xor_low p (bit_and p q) ∙ ap (λ n. differ (p % 2) n) (and_low p q))
    ∙ by_bits (λ a b. (differ a (min a b) == 1) ≡ (a == 1 && not (b == 1))) refl refl refl refl p q

-- no bit is set from k on in a number below 2 ^ k
pub bit_above : (k n i : ℕ) → n < 2 ^ k → k ≤ i → bit n i ≡ false
bit_above k n i h g =
    let m : 2 ^ k ≤ 2 ^ i = pow_mono g in
    let l : n < 2 ^ i = omega arith in
    ap (λ x. nat_eq (x % 2) 1) (div-eq_of_lt l)

one_bit : (p q : ℕ) → p < 2 → q < 2 → (p == 1) ≡ (q == 1) → p ≡ q
one_bit p q h k e = grind arith

low_bits : (x y : ℕ) → bit x 0 ≡ bit y 0 → x % 2 ≡ y % 2
low_bits x y e =
    one_bit (x % 2) (y % 2) (mod_below x 2 (omega arith)) (mod_below y 2 (omega arith))
    (sym (ap (λ n. nat_eq (n % 2) 1) (div-one x)) ∙ e ∙ ap (λ n. nat_eq (n % 2) 1) (div-one y))

-- numbers with the same bits are equal
pub same_bits : (k x y : ℕ) → x < 2 ^ k → y < 2 ^ k → ((i : ℕ) → bit x i ≡ bit y i) → x ≡ y
same_bits zero x y h g e = omega arith
same_bits (suc k) x y h g e =
    let p : 2 ^ suc k ≡ 2 ^ k * 2 = pow-suc 2 k in
    let low : x % 2 ≡ y % 2 = low_bits x y (e 0) in
    let high : x / 2 ≡ y / 2 =
    same_bits k (x / 2) (y / 2) (omega arith) (omega arith)
    (λ i. ap (λ n. nat_eq (n % 2) 1) (shr-shr x 1 i) ∙ e (1 + i) ∙ sym (ap (λ n. nat_eq (n % 2) 1) (shr-shr y 1 i))) in
    omega arith
