-- Laws of outcomes. Assumes nothing.
use Rattle.std.proofs.Common.{◌≡◌, ℕ, Bool, true, false, Ok, Err, refl, ap, subst, arith}
use Rattle.refusal.specs.declared.cause.Cause.{Cause}
use Rattle.refusal.specs.declared.refused.Refusal.{Refusal}
use Rattle.refusal.specs.Causes.{listed}
use Rattle.refusal.specs.Outcomes.{Outcome, after, must, mapped, InLayer}

-- where a result came out, each step before it gave one
pub after_ok : {A B : Type 0} (m : Outcome A) (f : A → Outcome B) (b : B) → after m f ≡ Ok b → (a : A) × (m ≡ Ok a) × (f a ≡ Ok b)
after_ok (Ok a) f b e = (a, refl, e)
after_ok (Err x) f b e = let z : ◌≡◌ {A = ℕ} 0 1 = cc in absurd (omega arith)

pub must_ok : (t : Bool) (c : Cause) (p : ℕ) (u : Unit {0}) → must t c p ≡ Ok u → t ≡ true
must_ok true c p u e = refl
must_ok false c p u e = let z : ◌≡◌ {A = ℕ} 0 1 = cc in absurd (omega arith)

pub ok_same : {A : Type 0} (x y : A) → ◌≡◌ {A = Outcome A} (Ok x) (Ok y) → x ≡ y
ok_same x y e = cc

pub after_same : {A B : Type 0} (m : Outcome A) (f g : A → Outcome B) → ((a : A) → f a ≡ g a) → after m f ≡ after m g
after_same (Err x) f g h = refl
after_same (Ok a) f g h = h a

pub mapped_after : {A B C : Type 0} (h : B → C) (m : Outcome A) (f : A → Outcome B) → mapped h (after m f) ≡ after m (λ a. mapped h (f a))
mapped_after h (Err x) f = refl
mapped_after h (Ok a) f = refl

pub mapped_ok : {A B : Type 0} (f : A → B) (m : Outcome A) (b : B) → mapped f m ≡ Ok b → (a : A) × (m ≡ Ok a) × (f a ≡ b)
mapped_ok f (Ok a) b e = (a, refl, cc)
mapped_ok f (Err x) b e = let z : ◌≡◌ {A = ℕ} 0 1 = cc in absurd (omega arith)

-- steps of one layer are refused in that layer
pub layer_after : {A B : Type 0} (n : ℕ) (m : Outcome A) (f : A → Outcome B) → InLayer n m → ((a : A) → InLayer n (f a)) → InLayer n (after m f)
layer_after n (Err x) f h g = h
layer_after n (Ok a) f h g = g a

pub layer_must : (n : ℕ) (t : Bool) (c : Cause) (p : ℕ) → (listed c).layer ≡ n → InLayer n (must t c p)
layer_must n true c p h = tt
layer_must n false c p h = h

-- what holds of every result
abbrev pub Gives : {A : Type 0} → (A → Type 0) → Outcome A → Type 0
Gives {A} P m = (a : A) → m ≡ Ok a → P a

pub gives_ok : {A : Type 0} (P : A → Type 0) (a : A) → P a → Gives P (Ok a)
gives_ok P a h b e = subst P (ok_same a b e) h

pub gives_after : {A B : Type 0} (P : B → Type 0) (m : Outcome A) (f : A → Outcome B) → ((a : A) → m ≡ Ok a → Gives P (f a)) → Gives P (after m f)
gives_after P (Ok a) f h b e = h a refl b e
gives_after P (Err x) f h b e = let z : ◌≡◌ {A = ℕ} 0 1 = cc in absurd (omega arith)

pub after_is : {A B : Type 0} (m : Outcome A) (f : A → Outcome B) (a : A) → m ≡ Ok a → after m f ≡ f a
after_is m f a e = ap (λ (z : Outcome _). after z f) e

pub mapped_err : {A B : Type 0} (f : A → B) (m : Outcome A) (x : Refusal) → mapped f m ≡ Err x → m ≡ Err x
mapped_err f (Err y) x e = cc
mapped_err f (Ok a) x e = let z : ◌≡◌ {A = ℕ} 0 1 = cc in absurd (omega arith)
