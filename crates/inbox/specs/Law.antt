-- That what always holds of an inbox is one fact, so that it comes out of a ghost field. Assumes nothing.
use Rattle.std.specs.Prelude.{◌≡◌, ℕ, ◌<◌, ◌≤◌, true, List, [], ◌∷◌}
use Rattle.std.proofs.Math.Bool.{Bool-set}
use mathlib.Core.HLevel.{×_prop, Unit-prop}
use Rattle.std.proofs.Math.Logic.{∥∥₁_elim}
use Rattle.std.proofs.Math.Bridge.{le_prop}
use Rattle.std.specs.List.{AllByRecursion}
use Rattle.inbox.specs.Contents.{Item, Contents, Rising, Lawful, lasts, holding, longest_item}

all_prop : {X : Type 0} (P : X → Type 0) → ((x : X) → IsProp (P x)) → (xs : List X) → IsProp (AllByRecursion P xs)
all_prop P h [] = Unit-prop
all_prop P h (x ∷ xs) = ×_prop (h x) (all_prop P h xs)

rising_prop : (is : List Item) → IsProp (Rising is)
rising_prop [] = Unit-prop
rising_prop (i ∷ is) = ×_prop (all_prop (λ j. i.sender < j.sender) (λ j. le_prop) is) (rising_prop is)

pub lawful_prop : (c : Contents) → IsProp (Lawful c)
lawful_prop c p q = λ i. record {
  some = le_prop p.some q.some i;
  most = le_prop p.most q.most i;
  lives = le_prop p.lives q.lives i;
  short = le_prop p.short q.short i;
  few = le_prop p.few q.few i;
  rising = rising_prop c.items p.rising q.rising i;
  numbers = all_prop (λ j. j.sender < 65536) (λ j. le_prop) c.items p.numbers q.numbers i;
  fits = all_prop (λ j. _ ≤ longest_item) (λ j. le_prop) c.items p.fits q.fits i;
  young = all_prop (λ j. lasts c.life j.age ≡ true) (λ j. Bool-set _ _) c.items p.young q.young i;
  within = le_prop p.within q.within i;
}

pub lawful_of : (c : Contents) → ∥ Lawful c ∥₁ → Lawful c
lawful_of c s = ∥∥₁_elim s (lawful_prop c) (λ x. x)

pub same_contents : (c : Contents) {bytes : ℕ} {is js : List Item} → bytes ≡ c.byte_limit → is ≡ js → record { sender_limit = c.sender_limit; byte_limit = bytes; life = c.life; items = is } ≡ holding c js
same_contents c e f = λ i. record { sender_limit = c.sender_limit; byte_limit = e i; life = c.life; items = f i }
