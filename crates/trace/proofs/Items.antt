-- What the calls of an inbox do to all items, and to what is known of one sender.
use Rattle.std.proofs.Common.{◌≡◌, ℕ, ◌+◌, Bool, true, false, cond, eqb, ltb, List, [], ◌∷◌, Some, None, Option, sym, refl, ap, ◌∙◌, subst, ⊎_elim, arith}
use Rattle.std.specs.List.{AllByRecursion}
use Rattle.std.proofs.lemmas.Bool.{cases_Bool, eqb-true, eqb-false, ne_eqb, ltb-true}
use Rattle.inbox.specs.Contents.{Item, Rising, lasts}
use Rattle.inbox.specs.Calls.{without, with_item, aged, older, bytes_of}
use Rattle.inbox.proofs.Items.{Above}
pub use Rattle.inbox.proofs.Aging.{all_aged, lawful_aged}

-- ---- what holds of all items
pub all_without : (P : Item → Type 0) (is : List Item) (s : ℕ) → AllByRecursion P is → AllByRecursion P (without is s)
all_without P [] s h = tt
all_without P (i ∷ is) s h = ⊎_elim
    (λ (e : eqb i.sender s ≡ true). rw e (all_without P is s h.1))
    (λ (e : eqb i.sender s ≡ false). rw e (h.0, all_without P is s h.1))
    (cases_Bool (eqb i.sender s))

pub all_with_item : (P : Item → Type 0) (is : List Item) (x : Item) → P x → AllByRecursion P is → AllByRecursion P (with_item is x)
all_with_item P [] x px h = (px, tt)
all_with_item P (i ∷ is) x px h = ⊎_elim
    (λ (e : ltb i.sender x.sender ≡ true). rw e (h.0, all_with_item P is x px h.1))
    (λ (e : ltb i.sender x.sender ≡ false). rw e (px, h))
    (cases_Bool (ltb i.sender x.sender))

-- ---- one sender
-- the item of the sender n
abbrev pub look : ℕ → List Item → Option Item
look n [] = None
look n (i ∷ is) = cond (eqb i.sender n) (Some i) (look n is)

-- an item after passing
abbrev pub pass : ℕ → Option Item → Option Item
pass life None = None
pass life (Some i) = cond (lasts life (i.age + 1)) (Some (older i)) None

abbrev pub bytes_in : Option Item → Option (List ℕ)
bytes_in None = None
bytes_in (Some i) = Some i.bytes

pub look_bytes : (n : ℕ) (is : List Item) → bytes_of is n ≡ bytes_in (look n is)
look_bytes n [] = refl
look_bytes n (i ∷ is) = go (eqb i.sender n) (look_bytes n is)
  where
    go : (b : Bool) → bytes_of is n ≡ bytes_in (look n is) → cond b (Some i.bytes) (bytes_of is n) ≡ bytes_in (cond b (Some i) (look n is))
    go true h = refl
    go false h = h

pub look_without : (n s : ℕ) (is : List Item) → look n (without is s) ≡ cond (eqb s n) None (look n is)
look_without n s [] = both (eqb s n)
  where
    both : (b : Bool) → ◌≡◌ {A = Option Item} None (cond b None None)
    both true = refl
    both false = refl
look_without n s (i ∷ is) = ⊎_elim
    (λ (e : eqb i.sender s ≡ true). rw e (look_without n s is ∙ here (eqb-true i.sender s e)))
    (λ (e : eqb i.sender s ≡ false). rw e (ap (λ o. cond (eqb i.sender n) (Some i) o) (look_without n s is)
    ∙ there (eqb i.sender n) (eqb s n) (λ a b. eqb-false i.sender s e (eqb-true i.sender n a ∙ sym (eqb-true s n b)))))
    (cases_Bool (eqb i.sender s))
  where
    here : i.sender ≡ s → cond (eqb s n) None (look n is) ≡ cond (eqb s n) None (cond (eqb i.sender n) (Some i) (look n is))
    here e = subst (λ m. cond (eqb s n) None (look n is) ≡ cond (eqb s n) None (cond (eqb m n) (Some i) (look n is))) (sym e) (go (eqb s n))
      where
        go : (b : Bool) → cond b None (look n is) ≡ cond b None (cond b (Some i) (look n is))
        go true = refl
        go false = refl

    there : (a b : Bool) → (a ≡ true → b ≡ true → ⊥) → cond a (Some i) (cond b None (look n is)) ≡ cond b None (cond a (Some i) (look n is))
    there true true h = absurd (h refl refl)
    there true false h = refl
    there false true h = refl
    there false false h = refl

pub look_with : (n : ℕ) (is : List Item) (x : Item) → look n (with_item is x) ≡ cond (eqb x.sender n) (Some x) (look n is)
look_with n [] x = refl
look_with n (i ∷ is) x = ⊎_elim
    (λ (e : ltb i.sender x.sender ≡ true). rw e (ap (λ o. cond (eqb i.sender n) (Some i) o) (look_with n is x)
    ∙ go (eqb i.sender n) (eqb x.sender n) (λ a b. let l = ltb-true i.sender x.sender e in let c = eqb-true i.sender n a in let d = eqb-true x.sender n b in omega arith)))
    (λ (e : ltb i.sender x.sender ≡ false). rw e)
    (cases_Bool (ltb i.sender x.sender))
  where
    go : (a b : Bool) → (a ≡ true → b ≡ true → ⊥) → cond a (Some i) (cond b (Some x) (look n is)) ≡ cond b (Some x) (cond a (Some i) (look n is))
    go true true h = absurd (h refl refl)
    go true false h = refl
    go false true h = refl
    go false false h = refl

look_above : (life n : ℕ) (is : List Item) → Above n is → look n (aged life is) ≡ None
look_above life n [] h = refl
look_above life n (i ∷ is) h = ⊎_elim
    (λ (e : lasts life (i.age + 1) ≡ true). let d : eqb i.sender n ≡ false = ne_eqb i.sender n (λ z. let l = h.0 in omega arith) in rw e (rw d (look_above life n is h.1)))
    (λ (e : lasts life (i.age + 1) ≡ false). rw e (look_above life n is h.1))
    (cases_Bool (lasts life (i.age + 1)))

pub look_aged : (life n : ℕ) (is : List Item) → Rising is → look n (aged life is) ≡ pass life (look n is)
look_aged life n [] h = refl
look_aged life n (i ∷ is) h = ⊎_elim
    (λ (e : lasts life (i.age + 1) ≡ true). rw e (young (eqb i.sender n) e (look_aged life n is h.1)))
    (λ (e : lasts life (i.age + 1) ≡ false). rw e (old (eqb i.sender n) refl e (look_aged life n is h.1)))
    (cases_Bool (lasts life (i.age + 1)))
  where
    young : (b : Bool) → lasts life (i.age + 1) ≡ true → look n (aged life is) ≡ pass life (look n is)
        → cond b (Some (older i)) (look n (aged life is)) ≡ pass life (cond b (Some i) (look n is))
    young true e r = rw e
    young false e r = r

    old : (b : Bool) → eqb i.sender n ≡ b → lasts life (i.age + 1) ≡ false → look n (aged life is) ≡ pass life (look n is)
        → look n (aged life is) ≡ pass life (cond b (Some i) (look n is))
    old true d e r = look_above life n is (subst (λ m. Above m is) (eqb-true i.sender n d) h.0) ∙ rw e
    old false d e r = r
