-- What passing does to all items: a lawful inbox is lawful after it.
use Rattle.std.proofs.Common.{◌≡◌, ℕ, ◌+◌, ◌<◌, ◌≤◌, true, false, List, [], ◌∷◌, length, ⊎_elim, arith}
use Rattle.std.specs.List.{AllByRecursion}
use Rattle.std.proofs.lemmas.Bool.{cases_Bool}
use Rattle.inbox.specs.Contents.{Item, Contents, Rising, Lawful, lasts, bytes_held, holding, longest_item}
use Rattle.inbox.specs.Calls.{aged, older}

pub all_aged : (P Q : Item → Type 0) (life : ℕ) → ((i : Item) → P i → lasts life (i.age + 1) ≡ true → Q (older i)) → (is : List Item) → AllByRecursion P is → AllByRecursion Q (aged life is)
all_aged P Q life f [] h = tt
all_aged P Q life f (i ∷ is) h = ⊎_elim
    (λ (e : lasts life (i.age + 1) ≡ true). rw e (f i h.0 e, all_aged P Q life f is h.1))
    (λ (e : lasts life (i.age + 1) ≡ false). rw e (all_aged P Q life f is h.1))
    (cases_Bool (lasts life (i.age + 1)))

rising_aged : (life : ℕ) (is : List Item) → Rising is → Rising (aged life is)
rising_aged life [] h = tt
rising_aged life (i ∷ is) h = ⊎_elim
    (λ (e : lasts life (i.age + 1) ≡ true). rw e (all_aged (λ j. i.sender < j.sender) (λ j. i.sender < j.sender) life (λ j m y. m) is h.0, rising_aged life is h.1))
    (λ (e : lasts life (i.age + 1) ≡ false). rw e (rising_aged life is h.1))
    (cases_Bool (lasts life (i.age + 1)))

length_aged : (life : ℕ) (is : List Item) → length (aged life is) ≤ length is
length_aged life [] = omega arith
length_aged life (i ∷ is) = ⊎_elim
    (λ (e : lasts life (i.age + 1) ≡ true). rw e (omega (arith, length_aged life is)))
    (λ (e : lasts life (i.age + 1) ≡ false). rw e (omega (arith, length_aged life is)))
    (cases_Bool (lasts life (i.age + 1)))

bytes_held_aged : (life : ℕ) (is : List Item) → bytes_held (aged life is) ≤ bytes_held is
bytes_held_aged life [] = omega arith
bytes_held_aged life (i ∷ is) = ⊎_elim
    (λ (e : lasts life (i.age + 1) ≡ true). rw e (omega (arith, bytes_held_aged life is)))
    (λ (e : lasts life (i.age + 1) ≡ false). rw e (omega (arith, bytes_held_aged life is)))
    (cases_Bool (lasts life (i.age + 1)))

pub lawful_aged : (b : Contents) → Lawful b → Lawful (holding b (aged b.life b.items))
lawful_aged b h = record {
  some = h.some;
  most = h.most;
  lives = h.lives;
  short = h.short;
  few = omega (arith, length_aged b.life b.items, h.few);
  rising = rising_aged b.life b.items h.rising;
  numbers = all_aged (λ i. i.sender < 65536) (λ i. i.sender < 65536) b.life (λ i m y. m) b.items h.numbers;
  fits = all_aged (λ i. length i.bytes ≤ longest_item) (λ i. length i.bytes ≤ longest_item) b.life (λ i m y. m) b.items h.fits;
  young = all_aged (λ i. lasts b.life i.age ≡ true) (λ i. lasts b.life i.age ≡ true) b.life (λ i m y. y) b.items h.young;
  within = omega (arith, bytes_held_aged b.life b.items, h.within);
}
