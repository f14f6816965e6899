-- Items in slots.
use Rattle.std.proofs.Common.{◌≡◌, ℕ, zero, suc, ◌+◌, ◌*◌, ◌<◌, ◌≤◌, Bool, true, false, cond, eqb, ltb, leb, min, List, [], ◌∷◌, ◌++◌, map, filter, find, length, get_or, take, drop, set, Some, None, Option, position, sym, refl, ap, ◌∙◌, subst, ⊎_elim, arith}
use Rattle.std.specs.List.{AllByRecursion, fold, reduce, position_or_len}
use Rattle.std.proofs.lemmas.List.Quantifiers.{position-Some}
use Rattle.std.specs.Option.{option_map, is_some, is_none}
use Rattle.std.proofs.lemmas.Bool.{lt-ltb, le-ltb, ne_eqb, eq-eqb, eqb-false, eqb-true, cases_Bool, true≢false, cases_lt, ltb-true, ltb-false, lt-leb, le-leb}
use Rattle.std.proofs.lemmas.List.{set-set, set-get_or, length-set, get_or-set_same, take_all, drop_all, append-nil}
use Rattle.std.proofs.lemmas.Option.{none-some, same_Some}
use Rattle.inbox.specs.Contents.{lasts, Item, Contents, Rising, Lawful, bytes_held, holding, longest_item}
use Rattle.inbox.specs.Calls.{holds, without, with_item, next_sender, bytes_of, new_item, aged, older}
use Rattle.slot_inbox.specs.Slots.{taken, by_sender, gathered, slot_item, Apart, Distinct, aged_slot, renewed_slot, is_of}
use Rattle.slot_inbox.specs.declared.slot.Slot.{Slot}
use Rattle.inbox.proofs.Items.{Apart as Others, apart_not_held, holds_apart, without_apart, rising_with_item, aged_with, lawful_without, lawful_with_item, all_of_with, bytes_held_le}
use Rattle.inbox.proofs.Aging.{all_aged, lawful_aged}

-- ---- what each reading gives of a list with one item more
pub holds_with : (is : List Item) (x : Item) (s : ℕ) → holds (with_item is x) s ≡ cond (eqb x.sender s) true (holds is s)
holds_with [] x s = refl
holds_with (i ∷ is) x s = ⊎_elim
    (λ (e : ltb i.sender x.sender ≡ true). rw e (ap (λ b. cond (eqb i.sender s) true b) (holds_with is x s) ∙ swap (eqb i.sender s) (eqb x.sender s)))
    (λ (e : ltb i.sender x.sender ≡ false). rw e)
    (cases_Bool (ltb i.sender x.sender))
  where
    swap : (a b : Bool) → cond a true (cond b true (holds is s)) ≡ cond b true (cond a true (holds is s))
    swap true true = refl
    swap true false = refl
    swap false true = refl
    swap false false = refl

pub bytes_of_with : (is : List Item) (x : Item) (s : ℕ) → bytes_of (with_item is x) s ≡ cond (eqb x.sender s) (Some x.bytes) (bytes_of is s)
bytes_of_with [] x s = refl
bytes_of_with (i ∷ is) x s = ⊎_elim
    (λ (e : ltb i.sender x.sender ≡ true). rw e (let l = ltb-true i.sender x.sender e in
    ⊎_elim (λ (f : eqb i.sender s ≡ true). rw f (rw (ne_eqb x.sender s (λ z. omega (arith, eqb-true i.sender s f)))))
    (λ (f : eqb i.sender s ≡ false). rw f (bytes_of_with is x s))
    (cases_Bool (eqb i.sender s))))
    (λ (e : ltb i.sender x.sender ≡ false). rw e)
    (cases_Bool (ltb i.sender x.sender))

-- two items of different senders, in either order
pub with_comm : (is : List Item) (x y : Item) → (x.sender ≡ y.sender → ⊥) → with_item (with_item is x) y ≡ with_item (with_item is y) x
with_comm [] x y ne = ⊎_elim
    (λ (l : x.sender < y.sender). rw (lt-ltb x.sender y.sender l, le-ltb y.sender x.sender (omega arith)))
    (λ (l : y.sender ≤ x.sender). rw (le-ltb x.sender y.sender l, lt-ltb y.sender x.sender (omega (arith, ne))))
    (cases_lt x.sender y.sender)
with_comm (i ∷ is) x y ne = ⊎_elim
    (λ (e : ltb i.sender x.sender ≡ true). let l = ltb-true i.sender x.sender e in ⊎_elim
    (λ (f : ltb i.sender y.sender ≡ true). simp (e, f) (ap (λ l. i ∷ l) (with_comm is x y ne)))
    (λ (f : ltb i.sender y.sender ≡ false). let m = ltb-false i.sender y.sender f in simp (e, f, lt-ltb y.sender x.sender (omega arith)))
    (cases_Bool (ltb i.sender y.sender)))
    (λ (e : ltb i.sender x.sender ≡ false). let l = ltb-false i.sender x.sender e in ⊎_elim
    (λ (f : ltb i.sender y.sender ≡ true). let m = ltb-true i.sender y.sender f in simp (e, f, lt-ltb x.sender y.sender (omega arith)))
    (λ (f : ltb i.sender y.sender ≡ false). ⊎_elim
    (λ (g : x.sender < y.sender). simp (e, f, lt-ltb x.sender y.sender g, le-ltb y.sender x.sender (omega arith)))
    (λ (g : y.sender ≤ x.sender). simp (e, f, le-ltb x.sender y.sender g, lt-ltb y.sender x.sender (omega (arith, ne))))
    (cases_lt x.sender y.sender))
    (cases_Bool (ltb i.sender y.sender)))
    (cases_Bool (ltb i.sender x.sender))

pub without_with : (is : List Item) (x : Item) → Others x.sender is → without (with_item is x) x.sender ≡ is
without_with [] x h = rw (eq-eqb x.sender x.sender refl)
without_with (i ∷ is) x h = ⊎_elim
    (λ (e : ltb i.sender x.sender ≡ true). rw e (rw (ne_eqb i.sender x.sender h.0) (ap (λ l. i ∷ l) (without_with is x h.1))))
    (λ (e : ltb i.sender x.sender ≡ false). rw e (rw (eq-eqb x.sender x.sender refl) (rw (ne_eqb i.sender x.sender h.0) (ap (λ l. i ∷ l) (without_apart is x.sender h.1)))))
    (cases_Bool (ltb i.sender x.sender))

pub length_with : (is : List Item) (x : Item) → length (with_item is x) ≡ suc (length is)
length_with [] x = refl
length_with (i ∷ is) x = ⊎_elim
    (λ (e : ltb i.sender x.sender ≡ true). rw e (ap suc (length_with is x)))
    (λ (e : ltb i.sender x.sender ≡ false). rw e)
    (cases_Bool (ltb i.sender x.sender))

-- ---- items in slots
module _ (t : ℕ) where
  -- a sender that a list with one item more is without
  split_holds : (is : List Item) (x : Item) → holds (with_item is x) t ≡ false → (x.sender ≡ t → ⊥) × (holds is t ≡ false)
  split_holds is x h =
      let e : cond (eqb x.sender t) true (holds is t) ≡ false = sym (holds_with is x t) ∙ h in
      ⊎_elim (λ (f : eqb x.sender t ≡ true). absurd (true≢false (rw f at e)))
      (λ (f : eqb x.sender t ≡ false). (eqb-false x.sender t f, rw f at e))
      (cases_Bool (eqb x.sender t))

  join_holds : (is : List Item) (x : Item) → (x.sender ≡ t → ⊥) → holds is t ≡ false → holds (with_item is x) t ≡ false
  join_holds is x ne h = holds_with is x t ∙ rw (ne_eqb x.sender t ne) h

  -- a sender that is not held is not held once a slot is emptied
  free_still : (ss : List (Option Slot)) (i : ℕ) → holds (gathered ss) t ≡ false → holds (gathered (set ss i None)) t ≡ false
  free_still [] i h = h
  free_still (None ∷ ss) zero h = h
  free_still (Some r ∷ ss) zero h = (split_holds (gathered ss) (slot_item r) h).1
  free_still (None ∷ ss) (suc i) h = free_still ss i h
  free_still (Some r ∷ ss) (suc i) h = let p = split_holds (gathered ss) (slot_item r) h in join_holds (gathered (set ss i None)) (slot_item r) p.0 (free_still ss i p.1)

held_at : (ss : List (Option Slot)) (i : ℕ) (x : Slot) → get_or ss i None ≡ Some x → holds (gathered ss) x.sender ≡ true
held_at [] i x e = absurd (none-some x e)
held_at (None ∷ ss) zero x e = absurd (none-some x e)
held_at (Some r ∷ ss) zero x e = holds_with (gathered ss) (slot_item r) x.sender ∙ rw (eq-eqb r.sender x.sender (ap (λ (y : Slot). y.sender) (same_Some r x e)))
held_at (None ∷ ss) (suc i) x e = held_at ss i x e
held_at (Some r ∷ ss) (suc i) x e = holds_with (gathered ss) (slot_item r) x.sender ∙ rw (held_at ss i x e) (both (eqb r.sender x.sender))
  where
    both : (b : Bool) → cond b true true ≡ true
    both true = refl
    both false = refl

-- once the slot is emptied its sender is not held
gone_at : (ss : List (Option Slot)) (i : ℕ) (x : Slot) → get_or ss i None ≡ Some x → Distinct ss → holds (gathered (set ss i None)) x.sender ≡ false
gone_at [] i x e k = refl
gone_at (None ∷ ss) zero x e k = absurd (none-some x e)
gone_at (Some r ∷ ss) zero x e k = subst (λ (y : Slot). holds (gathered ss) y.sender ≡ false) (same_Some r x e) k.0
gone_at (None ∷ ss) (suc i) x e k = gone_at ss i x e k
gone_at (Some r ∷ ss) (suc i) x e k = join_holds x.sender (gathered (set ss i None)) (slot_item r)
    (λ z. true≢false (sym (held_at ss i x e) ∙ sym (ap (holds (gathered ss)) z) ∙ k.0))
    (gone_at ss i x e k.1)

-- an item is put into an empty slot
filled_slot : (ss : List (Option Slot)) (i : ℕ) (x : Slot) → i < length ss → get_or ss i None ≡ None → holds (gathered ss) x.sender ≡ false
    → gathered (set ss i (Some x)) ≡ with_item (gathered ss) (slot_item x)
filled_slot [] i x h e a = absurd (let z : ⊥ = omega arith in z)
filled_slot (None ∷ ss) zero x h e a = refl
filled_slot (Some r ∷ ss) zero x h e a = absurd (none-some r (sym e))
filled_slot (None ∷ ss) (suc i) x h e a = filled_slot ss i x (omega arith) e a
filled_slot (Some r ∷ ss) (suc i) x h e a =
    let p = split_holds x.sender (gathered ss) (slot_item r) a in
    ap (λ l. with_item l (slot_item r)) (filled_slot ss i x (omega arith) e p.1) ∙ with_comm (gathered ss) (slot_item x) (slot_item r) (λ z. p.0 (sym z))

-- the item of a slot beside those of the others
put_back : (ss : List (Option Slot)) (i : ℕ) (x : Slot) → i < length ss → get_or ss i None ≡ Some x → Distinct ss → gathered ss ≡ with_item (gathered (set ss i None)) (slot_item x)
put_back ss i x h e k =
    let back : set (set ss i None) i (Some x) ≡ ss = set-set ss i None (Some x) ∙ ap (set ss i) (sym e) ∙ set-get_or ss i None in
    let l : i < length (set ss i None) = simp length-set h in
    sym (ap gathered back) ∙ filled_slot (set ss i None) i x l (get_or-set_same ss i None None h) (gone_at ss i x e k)

-- a slot is emptied
let_go : (ss : List (Option Slot)) (i : ℕ) (x : Slot) → i < length ss → get_or ss i None ≡ Some x → Distinct ss → gathered (set ss i None) ≡ without (gathered ss) x.sender
let_go ss i x h e k =
    let low = gone_at ss i x e k in
    sym (ap (λ l. without l x.sender) (put_back ss i x h e k) ∙ without_with (gathered (set ss i None)) (slot_item x) (apart_not_held x.sender (gathered (set ss i None)) low))

distinct_let_go : (ss : List (Option Slot)) (i : ℕ) → Distinct ss → Distinct (set ss i None)
distinct_let_go [] i k = tt
distinct_let_go (None ∷ ss) zero k = k
distinct_let_go (Some r ∷ ss) zero k = k.1
distinct_let_go (None ∷ ss) (suc i) k = distinct_let_go ss i k
distinct_let_go (Some r ∷ ss) (suc i) k = (free_still r.sender ss i k.0, distinct_let_go ss i k.1)

distinct_filled : (ss : List (Option Slot)) (i : ℕ) (x : Slot) → i < length ss → get_or ss i None ≡ None → holds (gathered ss) x.sender ≡ false → Distinct ss → Distinct (set ss i (Some x))
distinct_filled [] i x h e a k = tt
distinct_filled (None ∷ ss) zero x h e a k = (a, k)
distinct_filled (Some r ∷ ss) zero x h e a k = absurd (none-some r (sym e))
distinct_filled (None ∷ ss) (suc i) x h e a k = distinct_filled ss i x (omega arith) e a k
distinct_filled (Some r ∷ ss) (suc i) x h e a k =
    let p = split_holds x.sender (gathered ss) (slot_item r) a in (
      ap (λ l. holds l r.sender) (filled_slot ss i x (omega arith) e p.1) ∙ join_holds r.sender (gathered ss) (slot_item x) (λ z. p.0 (sym z)) k.0,
      distinct_filled ss i x (omega arith) e p.1 k.1,
    )

rising_gathered : (ss : List Slot) → Apart ss → Rising (by_sender ss)
rising_gathered [] k = tt
rising_gathered (s ∷ ss) k = rising_with_item (by_sender ss) (slot_item s) (rising_gathered ss k.1) k.0

-- every slot one age older
pub aged_gathered : (life : ℕ) (ss : List (Option Slot)) → Distinct ss → gathered (map (aged_slot life) ss) ≡ aged life (gathered ss)
aged_gathered life [] k = refl
aged_gathered life (None ∷ ss) k = aged_gathered life ss k
aged_gathered life (Some s ∷ ss) k =
    let a = aged_with life (gathered ss) (slot_item s) (rising_gathered (taken ss) k.1) (apart_not_held s.sender (gathered ss) k.0) in
    ⊎_elim
    (λ (f : lasts life (s.age + 1) ≡ true). simp f (ap (λ l. with_item l (older (slot_item s))) (aged_gathered life ss k.1) ∙ sym (a ∙ rw f)))
    (λ (f : lasts life (s.age + 1) ≡ false). simp f (aged_gathered life ss k.1 ∙ sym (a ∙ rw f)))
    (cases_Bool (lasts life (s.age + 1)))

free_aged : (life : ℕ) (is : List Item) (t : ℕ) → holds is t ≡ false → holds (aged life is) t ≡ false
free_aged life is t h = holds_apart (aged life is) t (all_aged (λ i. i.sender ≡ t → ⊥) (λ i. i.sender ≡ t → ⊥) life (λ i m _. m) is (apart_not_held t is h))

distinct_aged : (life : ℕ) (ss : List (Option Slot)) → Distinct ss → Distinct (map (aged_slot life) ss)
distinct_aged life [] k = tt
distinct_aged life (None ∷ ss) k = distinct_aged life ss k
distinct_aged life (Some s ∷ ss) k = ⊎_elim
    (λ (f : lasts life (s.age + 1) ≡ true). simp f (ap (λ l. holds l s.sender) (aged_gathered life ss k.1) ∙ free_aged life (gathered ss) s.sender k.0, distinct_aged life ss k.1))
    (λ (f : lasts life (s.age + 1) ≡ false). simp f (distinct_aged life ss k.1))
    (cases_Bool (lasts life (s.age + 1)))

-- what always holds of the slots of an inbox
pub record Kept (b : Contents) (ss : List (Option Slot)) : Type 0 where
  pub lawful : Lawful (holding b (gathered ss))
  pub distinct : Distinct ss

-- every slot is one age older
pub kept_aged : (b : Contents) (ss : List (Option Slot)) → Kept b ss → Kept b (map (aged_slot b.life) ss)
kept_aged b ss k = record {
  lawful = subst (λ is. Lawful (holding b is)) (sym (aged_gathered b.life ss k.distinct)) (lawful_aged (holding b (gathered ss)) k.lawful);
  distinct = distinct_aged b.life ss k.distinct;
}

-- the slots after a change, by the items that they have then
pub record Becomes (b : Contents) (ss : List (Option Slot)) (is : List Item) : Type 0 where
  pub items : gathered ss ≡ is
  pub kept : Kept b ss

-- a slot is emptied
pub empties : (b : Contents) (ss : List (Option Slot)) (i : ℕ) (x : Slot) → Kept b ss → i < length ss → get_or ss i None ≡ Some x → Becomes b (set ss i None) (without (gathered ss) x.sender)
empties b ss i x k h e =
    let gone = let_go ss i x h e k.distinct in
    record {
      items = gone;
      kept = record {
        lawful = subst (λ is. Lawful (holding b is)) (sym gone) (lawful_without (holding b (gathered ss)) x.sender k.lawful);
        distinct = distinct_let_go ss i k.distinct;
      };
    }

-- an item is put into an empty slot
pub fills : (b : Contents) (ss : List (Option Slot)) (i : ℕ) (s : Slot) (x : Item) → slot_item s ≡ x → Kept b ss → i < length ss → get_or ss i None ≡ None → holds (gathered ss) x.sender ≡ false → x.sender < 65536
    → length (gathered ss) < b.sender_limit → length x.bytes ≤ longest_item → lasts b.life x.age ≡ true → bytes_held (gathered ss) + length x.bytes ≤ b.byte_limit
    → Becomes b (set ss i (Some s)) (with_item (gathered ss) x)
fills b ss i s x same k h e apart number few fits young room =
    let free : holds (gathered ss) s.sender ≡ false = ap (λ (y : Item). holds (gathered ss) y.sender) same ∙ apart in
    let more = filled_slot ss i s h e free ∙ ap (with_item (gathered ss)) same in
    record {
      items = more;
      kept = record {
        lawful = subst (λ is. Lawful (holding b is)) (sym more) (lawful_with_item (holding b (gathered ss)) x k.lawful apart number few fits young room);
        distinct = distinct_filled ss i s h e free k.distinct;
      };
    }

-- an item is put in place of its sender's earlier one
renews : (b : Contents) (ss : List (Option Slot)) (i : ℕ) (o : Slot) (x : List ℕ) → Kept b ss → i < length ss → get_or ss i None ≡ Some o → length x ≤ longest_item → b.byte_limit ≡ longest_item * b.sender_limit
    → Becomes b (set ss i (renewed_slot x (Some o))) (with_item (without (gathered ss) o.sender) (new_item o.sender x))
renews b ss i o x k h e short r =
    let rest = gathered (set ss i None) in
    let was = put_back ss i o h e k.distinct in
    let gone = empties b ss i o k h e in
    let number = all_of_with (λ j. j.sender < 65536) rest (slot_item o) (subst (AllByRecursion (λ j. j.sender < 65536)) was k.lawful.numbers) in
    let one : length (gathered ss) ≡ suc (length rest) = ap length was ∙ length_with rest (slot_item o) in
    let most = k.lawful.few in
    let few : length rest < b.sender_limit = omega (arith, one) in
    let room : bytes_held rest + length x ≤ b.byte_limit = omega (arith, r, few, bytes_held_le rest gone.kept.lawful.fits) in
    let put = fills b (set ss i None) i (record { sender = o.sender; age = 0; bytes = record { items = x } }) (new_item o.sender x) refl gone.kept (simp length-set h) (get_or-set_same ss i None None h)
    (gone_at ss i o e k.distinct) number few short (lt-ltb 0 b.life k.lawful.lives) room in
    let same = set-set ss i None (renewed_slot x (Some o)) in
    record {
      items = sym (ap gathered same) ∙ put.items ∙ ap (λ is. with_item is (new_item o.sender x)) gone.items;
      kept = subst (Kept b) same put.kept;
    }

kept_in : (b : Contents) (ss : List (Option Slot)) (i : ℕ) (o : Option Slot) (x : List ℕ) → Kept b ss → i < length ss → get_or ss i None ≡ o → length x ≤ longest_item → b.byte_limit ≡ longest_item * b.sender_limit
    → Kept b (set ss i (renewed_slot x o))
kept_in b ss i None x k h e short r = subst (Kept b) (sym (ap (set ss i) (sym e) ∙ set-get_or ss i None)) k
kept_in b ss i (Some o) x k h e short r = (renews b ss i o x k h e short r).kept

pub kept_renewed : (b : Contents) (ss : List (Option Slot)) (i : ℕ) (x : List ℕ) → Kept b ss → i < length ss → length x ≤ longest_item → b.byte_limit ≡ longest_item * b.sender_limit
    → Kept b (set ss i (renewed_slot x (get_or ss i None)))
kept_renewed b ss i x k h short r = kept_in b ss i (get_or ss i None) x k h refl short r

-- ---- what is read of the slots
pub length_by_sender : (ss : List Slot) → length (by_sender ss) ≡ length ss
length_by_sender [] = refl
length_by_sender (s ∷ ss) = length_with (by_sender ss) (slot_item s) ∙ ap suc (length_by_sender ss)

-- a slot that is found by its sender has the sender's item
pub bytes_found : (ss : List Slot) (s : ℕ) → bytes_of (by_sender ss) s ≡ option_map (λ x. (slot_item x).bytes) (find (λ x. eqb x.sender s) ss)
bytes_found [] s = refl
bytes_found (x ∷ ss) s = bytes_of_with (by_sender ss) (slot_item x) s ∙ ⊎_elim
    (λ (e : eqb x.sender s ≡ true). rw e)
    (λ (e : eqb x.sender s ≡ false). rw e (bytes_found ss s))
    (cases_Bool (eqb x.sender s))

-- the smallest sender from k on
fold_min : (a x : ℕ) (xs : List ℕ) → fold min (min a x) xs ≡ min a (fold min x xs)
fold_min a x [] = refl
fold_min a x (y ∷ xs) = ap (λ m. fold min m xs) (let e : min (min a x) y ≡ min a (min x y) = omega arith in e) ∙ fold_min a (min x y) xs

smaller : ℕ → Option ℕ → Option ℕ
smaller x None = Some x
smaller x (Some y) = Some (min x y)

reduce_min : (x : ℕ) (xs : List ℕ) → reduce min (x ∷ xs) ≡ smaller x (reduce min xs)
unfolding smaller
reduce_min x [] = refl
reduce_min x (y ∷ xs) = ap Some (fold_min x y xs)

next_with : (is : List Item) (x : Item) (k : ℕ) → next_sender (with_item is x) k ≡ cond (leb k x.sender) (smaller x.sender (next_sender is k)) (next_sender is k)
unfolding smaller
next_with [] x k = ⊎_elim
    (λ (g : x.sender < k). rw (lt-ltb x.sender k g, lt-leb k x.sender g))
    (λ (g : k ≤ x.sender). rw (le-ltb x.sender k g, le-leb k x.sender g))
    (cases_lt x.sender k)
next_with (i ∷ is) x k = ⊎_elim
    (λ (e : i.sender < x.sender). rw (lt-ltb i.sender x.sender e) (⊎_elim
    (λ (f : i.sender < k). rw (lt-ltb i.sender k f) (next_with is x k))
    (λ (f : k ≤ i.sender). rw (le-ltb i.sender k f, le-leb k x.sender (omega arith)) (ap Some (let m : i.sender ≡ min x.sender i.sender = omega arith in m)))
    (cases_lt i.sender k)))
    (λ (e : x.sender ≤ i.sender). rw (le-ltb i.sender x.sender e) (⊎_elim
    (λ (g : x.sender < k). rw (lt-ltb x.sender k g, lt-leb k x.sender g))
    (λ (g : k ≤ x.sender). rw (le-ltb x.sender k g, le-leb k x.sender g, le-ltb i.sender k (omega arith)) (ap Some (let m : x.sender ≡ min x.sender i.sender = omega arith in m)))
    (cases_lt x.sender k)))
    (cases_lt i.sender x.sender)

pub next_found : (ss : List Slot) (k : ℕ) → next_sender (by_sender ss) k ≡ reduce min (filter (λ n. leb k n) (map (λ (s : Slot). s.sender) ss))
next_found [] k = refl
next_found (s ∷ ss) k = next_with (by_sender ss) (slot_item s) k ∙ ⊎_elim
    (λ (g : s.sender < k). rw (lt-leb k s.sender g) (next_found ss k))
    (λ (g : k ≤ s.sender). rw (le-leb k s.sender g) (ap (smaller s.sender) (next_found ss k) ∙ sym (reduce_min s.sender (filter (λ n. leb k n) (map (λ (t : Slot). t.sender) ss)))))
    (cases_lt s.sender k)

-- ---- places of slots
-- the slot at i has an item of the sender
pub record InSlot (ss : List (Option Slot)) (s i : ℕ) : Type 0 where
  pub slot : Slot
  pub in_range : i < length ss
  pub is : get_or ss i None ≡ Some slot
  pub own : slot.sender ≡ s

own_slot : (ss : List (Option Slot)) (s i : ℕ) (o : Option Slot) → i < length ss → get_or ss i None ≡ o → is_of s o ≡ true → InSlot ss s i
own_slot ss s i None h e t = absurd (true≢false (sym t))
own_slot ss s i (Some x) h e t = record { slot = x; in_range = h; is = e; own = eqb-true x.sender s t }

pub in_slot : (ss : List (Option Slot)) (s i : ℕ) → position (is_of s) ss ≡ Some i → InSlot ss s i
in_slot ss s i e = let k = position-Some (is_of s) ss i None e in own_slot ss s i (get_or ss i None) k.0 refl k.1

pub renewed_in : (b : Contents) (ss : List (Option Slot)) (s i : ℕ) (x : List ℕ) → Kept b ss → InSlot ss s i → length x ≤ longest_item → b.byte_limit ≡ longest_item * b.sender_limit
    → gathered (set ss i (renewed_slot x (get_or ss i None))) ≡ with_item (without (gathered ss) s) (new_item s x)
renewed_in b ss s i x k p short r =
    ap (λ o. gathered (set ss i (renewed_slot x o))) p.is ∙ (renews b ss i p.slot x k p.in_range p.is short r).items ∙ ap (λ t. with_item (without (gathered ss) t) (new_item t x)) p.own

pub held_in : (ss : List (Option Slot)) (s i : ℕ) → InSlot ss s i → holds (gathered ss) s ≡ true
held_in ss s i k = ap (holds (gathered ss)) (sym k.own) ∙ held_at ss i k.slot k.is

ltb-suc : (a b : ℕ) → ltb (1 + a) (suc b) ≡ ltb a b
ltb-suc a b = ⊎_elim
    (λ (l : a < b). lt-ltb (1 + a) (suc b) (omega arith) ∙ sym (lt-ltb a b l))
    (λ (l : b ≤ a). le-ltb (1 + a) (suc b) (omega arith) ∙ sym (le-ltb a b l))
    (cases_lt a b)

holds_before : (ss : List (Option Slot)) (s : ℕ) → holds (gathered ss) s ≡ ltb (position_or_len (is_of s) ss) (length ss)
holds_before [] s = refl
holds_before (None ∷ ss) s = holds_before ss s ∙ sym (ltb-suc (position_or_len (is_of s) ss) (length ss))
holds_before (Some x ∷ ss) s = holds_with (gathered ss) (slot_item x) s ∙ ⊎_elim
    (λ (e : eqb x.sender s ≡ true). rw e (sym (lt-ltb 0 (suc (length ss)) (omega arith))))
    (λ (e : eqb x.sender s ≡ false). rw e (holds_before ss s ∙ sym (ltb-suc (position_or_len (is_of s) ss) (length ss))))
    (cases_Bool (eqb x.sender s))

pub holds_place : (ss : List (Option Slot)) (s : ℕ) → holds (gathered ss) s ≡ is_some (position (is_of s) ss)
holds_place ss s = holds_before ss s ∙ ways (ltb (position_or_len (is_of s) ss) (length ss))
  where
    ways : (b : Bool) → b ≡ is_some (cond b (Some (position_or_len (is_of s) ss)) None)
    ways true = refl
    ways false = refl

-- there is an empty slot where there are fewer items than slots
some_vacant : (ss : List (Option Slot)) → length (taken ss) < length ss → position_or_len is_none ss < length ss
some_vacant [] h = h
some_vacant (None ∷ ss) h = omega arith
some_vacant (Some x ∷ ss) h = let k = some_vacant ss (omega arith) in omega arith

pub vacant_is : (ss : List (Option Slot)) → length (gathered ss) < length ss → position is_none ss ≡ Some (position_or_len is_none ss)
vacant_is ss h = rw (lt-ltb (position_or_len is_none ss) (length ss) (some_vacant ss (omega (arith, length_by_sender (taken ss)))))

no_item : (o : Option Slot) → is_none o ≡ true → o ≡ None
no_item None h = refl
no_item (Some x) h = absurd (true≢false (sym h))

pub vacant_slot : (ss : List (Option Slot)) (i : ℕ) → position is_none ss ≡ Some i → (i < length ss) × (get_or ss i None ≡ None)
vacant_slot ss i e = let k = position-Some is_none ss i None e in (k.0, no_item (get_or ss i None) k.1)

-- ---- a new inbox, and all slots aged
pub none_taken : (ss : List (Option Slot)) → ((i : ℕ) → i < length ss → get_or ss i None ≡ None) → taken ss ≡ []
none_taken [] h = refl
none_taken (None ∷ ss) h = none_taken ss (λ i l. h (suc i) (omega arith))
none_taken (Some x ∷ ss) h = absurd (none-some x (sym (h 0 (omega arith))))

pub aged_all : (life : ℕ) (ss rs : List (Option Slot)) (i : ℕ) → length ss ≤ i → rs ≡ map (aged_slot life) (take i ss) ++ drop i ss → rs ≡ map (aged_slot life) ss
aged_all life ss rs i h e = e ∙ rw (take_all i ss h, drop_all i ss h) (append-nil (map (aged_slot life) ss))
