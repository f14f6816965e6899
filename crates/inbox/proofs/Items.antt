-- Laws of what the calls of an inbox give.
use Rattle.std.proofs.Common.{◌≡◌, ℕ, suc, ◌+◌, ◌*◌, ◌<◌, ◌≤◌, Bool, true, false, cond, not, ◌&&◌, eqb, ltb, leb, List, [], ◌∷◌, ◌++◌, length, get_or, take, drop, set, Some, None, Option, Ok, Err, sym, refl, ap, ◌∙◌, subst, ⊎_elim, add-one, arith}
use Rattle.refusal.specs.declared.cause.Cause.TheVariants.{ItemTooLong, SendersFull, BytesFull, BufferShort}
use Rattle.refusal.specs.Outcomes.{Outcome, refuse, refusal}
use Rattle.refusal.specs.declared.refused.Refusal.{Refusal}
use Rattle.std.specs.List.{AllByRecursion, remove, insert}
use Rattle.std.proofs.ByRecursion.{All-weaker, All-more, All-drop}
use Rattle.std.proofs.lemmas.Bool.{lt-ltb, le-ltb, ne_eqb, eq-eqb, eqb-false, cases_Bool, true≢false, false≢true, cases_lt, ltb-false, leb-false, and_cases, not-false, cond-false}
use Rattle.std.proofs.lemmas.List.{take-append-drop, drop_more, drop_all, get_or_default, set_split, take_more_set, drop-set-lt, append_assoc, append-nil, take_at, drop_at, take_all, length-take-le}
use native.Mathlib.Numerals.{lt_of_le_of_ne}
use Rattle.inbox.specs.Contents.{Item, Contents, Rising, Lawful, lasts, bytes_held, holding, longest_item}
use Rattle.inbox.specs.Calls.{IfRefused, holds, without, with_item, next_sender, bytes_of, buffer_checked, read_answer, buffer_after_read, found_length, at_front, aged, put_answer, put_checked, older}
use Rattle.inbox.specs.Search.{LowerBound, Finds, no_item}

-- all senders are below s, and all are above s
abbrev pub Below : ℕ → List Item → Type 0
Below s is = AllByRecursion (λ i. i.sender < s) is

abbrev pub Above : ℕ → List Item → Type 0
Above s is = AllByRecursion (λ i. s < i.sender) is

-- ---- items of other senders are passed over
abbrev pub Apart : ℕ → List Item → Type 0
Apart s is = AllByRecursion (λ i. i.sender ≡ s → ⊥) is

pub apart_above : (s : ℕ) (is : List Item) → Above s is → Apart s is
apart_above s is h = All-weaker (λ i. s < i.sender) (λ i. i.sender ≡ s → ⊥) (λ i l e. omega arith) is h

pub apart_not_held : (s : ℕ) (is : List Item) → holds is s ≡ false → Apart s is
apart_not_held s [] h = tt
apart_not_held s (i ∷ is) h = ⊎_elim
    (λ (e : eqb i.sender s ≡ true). let z : true ≡ false = rw e at h in absurd (true≢false z))
    (λ (e : eqb i.sender s ≡ false). (eqb-false i.sender s e, apart_not_held s is (rw e at h)))
    (cases_Bool (eqb i.sender s))

pub holds_skip : (p q : List Item) (s : ℕ) → Apart s p → holds (p ++ q) s ≡ holds q s
holds_skip [] q s h = refl
holds_skip (i ∷ p) q s h = rw (ne_eqb i.sender s h.0) (holds_skip p q s h.1)

pub without_skip : (p q : List Item) (s : ℕ) → Apart s p → without (p ++ q) s ≡ p ++ without q s
without_skip [] q s h = refl
without_skip (i ∷ p) q s h = rw (ne_eqb i.sender s h.0) (ap (λ l. i ∷ l) (without_skip p q s h.1))

pub bytes_of_skip : (p q : List Item) (s : ℕ) → Apart s p → bytes_of (p ++ q) s ≡ bytes_of q s
bytes_of_skip [] q s h = refl
bytes_of_skip (i ∷ p) q s h = rw (ne_eqb i.sender s h.0) (bytes_of_skip p q s h.1)

pub holds_apart : (q : List Item) (s : ℕ) → Apart s q → holds q s ≡ false
holds_apart [] s h = refl
holds_apart (i ∷ q) s h = rw (ne_eqb i.sender s h.0) (holds_apart q s h.1)

pub without_apart : (q : List Item) (s : ℕ) → Apart s q → without q s ≡ q
without_apart [] s h = refl
without_apart (i ∷ q) s h = rw (ne_eqb i.sender s h.0) (ap (λ l. i ∷ l) (without_apart q s h.1))

pub bytes_of_apart : (q : List Item) (s : ℕ) → Apart s q → bytes_of q s ≡ None
bytes_of_apart [] s h = refl
bytes_of_apart (i ∷ q) s h = rw (ne_eqb i.sender s h.0) (bytes_of_apart q s h.1)

pub next_skip : (p q : List Item) (s : ℕ) → Below s p → next_sender (p ++ q) s ≡ next_sender q s
next_skip [] q s h = refl
next_skip (i ∷ p) q s h = rw (lt-ltb i.sender s h.0) (next_skip p q s h.1)

pub with_skip : (p q : List Item) (x : Item) → Below x.sender p → with_item (p ++ q) x ≡ p ++ with_item q x
with_skip [] q x h = refl
with_skip (i ∷ p) q x h = rw (lt-ltb i.sender x.sender h.0) (ap (λ l. i ∷ l) (with_skip p q x h.1))

pub with_above : (q : List Item) (x : Item) → Above x.sender q → with_item q x ≡ x ∷ q
with_above [] x h = refl
with_above (i ∷ q) x h = rw (le-ltb i.sender x.sender (omega (arith, h.0)))

-- ---- what always holds, with one item more or less
all_cut : {X : Type 0} (P : X → Type 0) (p q : List X) (x : X) → AllByRecursion P (p ++ x ∷ q) → AllByRecursion P (p ++ q)
all_cut P [] q x h = h.1
all_cut P (i ∷ p) q x h = (h.0, all_cut P p q x h.1)

all_with : {X : Type 0} (P : X → Type 0) (p q : List X) (x : X) → P x → AllByRecursion P (p ++ q) → AllByRecursion P (p ++ x ∷ q)
all_with P [] q x px h = (px, h)
all_with P (i ∷ p) q x px h = (h.0, all_with P p q x px h.1)

all_here : {X : Type 0} (P : X → Type 0) (p q : List X) (x : X) → AllByRecursion P (p ++ x ∷ q) → P x
all_here P [] q x h = h.0
all_here P (i ∷ p) q x h = all_here P p q x h.1

rising_cut : (p q : List Item) (x : Item) → Rising (p ++ x ∷ q) → Rising (p ++ q)
rising_cut [] q x h = h.1
rising_cut (i ∷ p) q x h = (all_cut (λ j. i.sender < j.sender) p q x h.0, rising_cut p q x h.1)

rising_with : (p q : List Item) (x : Item) → Below x.sender p → Above x.sender q → Rising (p ++ q) → Rising (p ++ x ∷ q)
rising_with [] q x low high h = (high, h)
rising_with (i ∷ p) q x low high h = (all_with (λ j. i.sender < j.sender) p q x low.0 h.0, rising_with p q x low.1 high h.1)

-- the senders behind x are above it, and those before below
pub rising_above : (p q : List Item) (x : Item) → Rising (p ++ x ∷ q) → Above x.sender q
rising_above [] q x h = h.0
rising_above (i ∷ p) q x h = rising_above p q x h.1

pub rising_below : (p q : List Item) (x : Item) → Rising (p ++ x ∷ q) → Below x.sender p
rising_below [] q x h = tt
rising_below (i ∷ p) q x h = (all_here (λ j. i.sender < j.sender) p q x h.0, rising_below p q x h.1)

pub bytes_held_split : (p q : List Item) (x : Item) → bytes_held (p ++ x ∷ q) ≡ bytes_held (p ++ q) + length x.bytes
bytes_held_split [] q x = omega arith
bytes_held_split (i ∷ p) q x = omega (arith, bytes_held_split p q x)

pub length_split : (p q : List Item) (x : Item) → length (p ++ x ∷ q) ≡ length (p ++ q) + 1
length_split [] q x = omega arith
length_split (i ∷ p) q x = omega (arith, length_split p q x)

module _ (b : Contents) (p q : List Item) (x : Item) where
  pub lawful_cut : Lawful (holding b (p ++ x ∷ q)) → Lawful (holding b (p ++ q))
  lawful_cut h = record {
    some = h.some;
    most = h.most;
    lives = h.lives;
    short = h.short;
    few = omega (arith, length_split p q x, h.few);
    rising = rising_cut p q x h.rising;
    numbers = all_cut (λ i. i.sender < 65536) p q x h.numbers;
    fits = all_cut (λ i. length i.bytes ≤ longest_item) p q x h.fits;
    young = all_cut (λ i. lasts b.life i.age ≡ true) p q x h.young;
    within = omega (arith, bytes_held_split p q x, h.within);
  }

  pub lawful_with : Lawful (holding b (p ++ q)) → Below x.sender p → Above x.sender q → x.sender < 65536
      → length (p ++ q) < b.sender_limit → length x.bytes ≤ longest_item → lasts b.life x.age ≡ true → bytes_held (p ++ q) + length x.bytes ≤ b.byte_limit
      → Lawful (holding b (p ++ x ∷ q))
  lawful_with h low high number few fits young within = record {
    some = h.some;
    most = h.most;
    lives = h.lives;
    short = h.short;
    few = omega (arith, length_split p q x, few);
    rising = rising_with p q x low high h.rising;
    numbers = all_with (λ i. i.sender < 65536) p q x number h.numbers;
    fits = all_with (λ i. length i.bytes ≤ longest_item) p q x fits h.fits;
    young = all_with (λ i. lasts b.life i.age ≡ true) p q x young h.young;
    within = omega (arith, bytes_held_split p q x, within);
  }

-- ---- at an index
pub split_row : {X : Type 0} (xs : List X) (i : ℕ) (d : X) → i < length xs → xs ≡ take i xs ++ get_or xs i d ∷ drop (suc i) xs
split_row xs i d h = sym (take-append-drop i xs) ∙ ap (λ l. take i xs ++ l) (drop_more xs i d h ∙ ap (λ n. get_or xs i d ∷ drop n xs) (add-one i))

pub lawful_removed : (b : Contents) (i : ℕ) → Lawful b → i < length b.items → Lawful (holding b (remove b.items i))
lawful_removed b i h l =
    let d : Item = record { sender = 0; age = 0; bytes = [] } in
    lawful_cut b (take i b.items) (drop (suc i) b.items) (get_or b.items i d) (subst (λ is. Lawful (holding b is)) (split_row b.items i d l) h)

module _ (is : List Item) (s i : ℕ) (d : Item) (rises : Rising is) (h : i < length is) (low : Apart s (take i is)) (here : (get_or is i d).sender ≡ s) where
  high : Apart s (drop (suc i) is)
  high = apart_above s (drop (suc i) is) (subst (λ t. Above t (drop (suc i) is)) here (rising_above (take i is) (drop (suc i) is) (get_or is i d) (subst Rising (split_row is i d h) rises)))

  pub finds_some : Finds is s (Some i)
  finds_some = record {
    in_range = h;
    held = ap (λ l. holds l s) (split_row is i d h) ∙ holds_skip (take i is) (get_or is i d ∷ drop (suc i) is) s low ∙ rw (eq-eqb (get_or is i d).sender s here);
    gone = ap (λ l. without l s) (split_row is i d h) ∙ without_skip (take i is) (get_or is i d ∷ drop (suc i) is) s low
        ∙ rw (eq-eqb (get_or is i d).sender s here) (ap (λ l. take i is ++ l) (without_apart (drop (suc i) is) s high));
    read = λ e. ap (λ l. bytes_of l s) (split_row is i e h) ∙ bytes_of_skip (take i is) (get_or is i e ∷ drop (suc i) is) s low
        ∙ rw (eq-eqb (get_or is i e).sender s (ap (λ (x : Item). x.sender) (get_or_default is i e d h) ∙ here));
  }

pub finds_none : (is : List Item) (s : ℕ) → Apart s is → Finds is s None
finds_none is s h = record { free = holds_apart is s h; same = without_apart is s h; none = bytes_of_apart is s h }

-- ---- a lower bound
pub below_more : (s : ℕ) (is : List Item) (i : ℕ) (d : Item) → i < length is → Below s (take i is) → (get_or is i d).sender < s → Below s (take (i + 1) is)
below_more s is i d h low here = All-more (λ x. x.sender < s) is i d h low here

-- ---- a new item at its lower bound
module _ (is : List Item) (s i : ℕ) (here : LowerBound is s i) (free : holds is s ≡ false) where
  pub bound_above : Above s (drop i is)
  bound_above = strict (drop i is) here.above (All-drop (λ x. x.sender ≡ s → ⊥) i is (apart_not_held s is free))
    where
      strict : (q : List Item) → AllByRecursion (λ x. s ≤ x.sender) q → Apart s q → Above s q
      strict [] h a = tt
      strict (x ∷ q) h a = (lt_of_le_of_ne h.0 (λ e. a.0 (sym e)), strict q h.1 a.1)

  pub with_bounded : (age : ℕ) (bytes : List ℕ) → with_item is record { sender = s; age = age; bytes = bytes } ≡ insert is i record { sender = s; age = age; bytes = bytes }
  with_bounded age bytes =
      let x : Item = record { sender = s; age = age; bytes = bytes } in
      ap (λ l. with_item l x) (sym (take-append-drop i is)) ∙ with_skip (take i is) (drop i is) x here.below ∙ ap (λ l. take i is ++ l) (with_above (drop i is) x bound_above)

pub lawful_inserted : (b : Contents) (i : ℕ) (x : Item) → Lawful b → LowerBound b.items x.sender i → holds b.items x.sender ≡ false → x.sender < 65536
    → length b.items < b.sender_limit → length x.bytes ≤ longest_item → lasts b.life x.age ≡ true → bytes_held b.items + length x.bytes ≤ b.byte_limit
    → Lawful (holding b (insert b.items i x))
lawful_inserted b i x h here free number few fits young within =
    let e = sym (take-append-drop i b.items) in
    lawful_with b (take i b.items) (drop i b.items) x (subst (λ is. Lawful (holding b is)) e h) here.below (bound_above b.items x.sender i here free) number
    (subst (λ is. length is < b.sender_limit) e few) fits young (subst (λ is. bytes_held is + length x.bytes ≤ b.byte_limit) e within)

-- ---- one age more
pub lawful_older : (b : Contents) (i : ℕ) → Lawful b → i < length b.items → lasts b.life ((get_or b.items i no_item).age + 1) ≡ true
    → Lawful (holding b (set b.items i (older (get_or b.items i no_item))))
lawful_older b i h l young =
    let p = take i b.items in
    let q = drop (suc i) b.items in
    let x = get_or b.items i no_item in
    let e = split_row b.items i no_item l in
    let s : Lawful (holding b (p ++ x ∷ q)) = subst (λ is. Lawful (holding b is)) e h in
    let n = length_split p q x in
    let w = bytes_held_split p q x in
    let few = s.few in
    let in-room = s.within in
    let fit : length x.bytes ≤ longest_item = all_here (λ j. length j.bytes ≤ longest_item) p q x s.fits in
    subst (λ is. Lawful (holding b is)) (sym (set_split b.items i (older x) l))
    (lawful_with b p q (older x) (lawful_cut b p q x s) (rising_below p q x s.rising) (rising_above p q x s.rising) (all_here (λ j. j.sender < 65536) p q x s.numbers) (omega arith) fit young (omega arith))

pub bytes_held_le : (is : List Item) → AllByRecursion (λ i. length i.bytes ≤ longest_item) is → bytes_held is ≤ longest_item * length is
bytes_held_le [] h = omega arith
bytes_held_le (i ∷ is) h = let a = h.0 in omega (arith, bytes_held_le is h.1)

pub next_some : (is : List Item) (k i : ℕ) (d : Item) → LowerBound is k i → i < length is → next_sender is k ≡ Some (get_or is i d).sender
next_some is k i d here h =
    let e : drop i is ≡ get_or is i d ∷ drop (i + 1) is = drop_more is i d h in
    let up : k ≤ (get_or is i d).sender = (subst (AllByRecursion (λ x. k ≤ x.sender)) e here.above).0 in
    ap (λ l. next_sender l k) (sym (take-append-drop i is)) ∙ next_skip (take i is) (drop i is) k here.below ∙ ap (λ l. next_sender l k) e ∙ rw (le-ltb (get_or is i d).sender k up)

pub next_none : (is : List Item) (k i : ℕ) → LowerBound is k i → length is ≤ i → next_sender is k ≡ None
next_none is k i here h =
    ap (λ l. next_sender l k) (sym (take-append-drop i is)) ∙ next_skip (take i is) (drop i is) k here.below ∙ ap (λ l. next_sender l k) (drop_all i is h)

-- ---- passing, with the items below i done
abbrev pub part_aged : ℕ → Contents → Contents
part_aged i b = holding b (take i b.items ++ aged b.life (drop i b.items))

module _ (b : Contents) (i : ℕ) (h : i < length b.items) where
  pub aged_stays : lasts b.life ((get_or b.items i no_item).age + 1) ≡ true → part_aged (i + 1) (holding b (set b.items i (older (get_or b.items i no_item)))) ≡ part_aged i b
  aged_stays young =
      let is = b.items in
      let x = get_or b.items i no_item in
      let r = drop (i + 1) b.items in
      let after : aged b.life (drop i is) ≡ older x ∷ aged b.life r = ap (aged b.life) (drop_more is i no_item h) ∙ rw young in
      ap (holding b) (ap (λ l. l ++ aged b.life (drop (i + 1) (set is i (older x)))) (take_more_set is i (older x) h)
      ∙ ap (λ l. (take i is ++ older x ∷ []) ++ aged b.life l) (drop-set-lt (i + 1) is i (older x) (omega arith))
      ∙ append_assoc (take i is) (older x ∷ []) (aged b.life r)
      ∙ ap (λ l. take i is ++ l) (sym after))

  pub aged_ends : lasts b.life ((get_or b.items i no_item).age + 1) ≡ false → part_aged i (holding b (remove b.items i)) ≡ part_aged i b
  aged_ends old =
      let is = b.items in
      let x = get_or b.items i no_item in
      let n : length (take i is) ≡ i = length-take-le i is (omega arith) in
      let after : aged b.life (drop i is) ≡ aged b.life (drop (suc i) is) = ap (aged b.life) (drop_more is i no_item h) ∙ rw old (ap (λ k. aged b.life (drop k is)) (add-one i)) in
      ap (holding b) (ap (λ l. l ++ aged b.life (drop i (remove is i))) (take_at (take i is) (drop (suc i) is) i n)
      ∙ ap (λ l. take i is ++ aged b.life l) (drop_at (take i is) (drop (suc i) is) i n)
      ∙ ap (λ l. take i is ++ l) (sym after))

pub aged_all : (b : Contents) (i : ℕ) → length b.items ≤ i → part_aged i b ≡ b
aged_all b i h = ap (holding b) (ap (λ l. l ++ aged b.life (drop i b.items)) (take_all i b.items h) ∙ ap (λ l. b.items ++ aged b.life l) (drop_all i b.items h) ∙ append-nil b.items)

-- ---- what a put may count on once the sender's earlier item is gone
pub free_without : (is : List Item) (s : ℕ) → holds (without is s) s ≡ false
free_without [] s = refl
free_without (i ∷ is) s = ⊎_elim
    (λ (e : eqb i.sender s ≡ true). rw e (free_without is s))
    (λ (e : eqb i.sender s ≡ false). rw e (rw e (free_without is s)))
    (cases_Bool (eqb i.sender s))

pub length_without : (is : List Item) (s : ℕ) → length (without is s) ≤ length is
length_without [] s = omega arith
length_without (i ∷ is) s = ⊎_elim
    (λ (e : eqb i.sender s ≡ true). rw e (omega (arith, length_without is s)))
    (λ (e : eqb i.sender s ≡ false). rw e (omega (arith, length_without is s)))
    (cases_Bool (eqb i.sender s))

pub length_without_held : (is : List Item) (s : ℕ) → holds is s ≡ true → length (without is s) < length is
length_without_held [] s h = absurd (false≢true h)
length_without_held (i ∷ is) s h = ⊎_elim
    (λ (e : eqb i.sender s ≡ true). rw e (omega (arith, length_without is s)))
    (λ (e : eqb i.sender s ≡ false). rw e (omega (arith, length_without_held is s (rw e at h))))
    (cases_Bool (eqb i.sender s))

-- a put that is not refused has room
pub record Admitted (b : Contents) (s : ℕ) (x : List ℕ) : Type 0 where
  pub short : length x ≤ longest_item
  pub few : length (without b.items s) < b.sender_limit
  pub room : bytes_held (without b.items s) + length x ≤ b.byte_limit

all_false : (r s t : Bool) → ◌≡◌ {A = Outcome (Unit {0})} (cond r (refuse ItemTooLong 0) (cond s (refuse SendersFull 0) (cond t (refuse BytesFull 0) (Ok tt)))) (Ok tt) → (r ≡ false) × (s ≡ false) × (t ≡ false)
all_false true s t h = absurd (let z : ◌≡◌ {A = ℕ} 0 1 = cc in let y : ⊥ = omega arith in y)
all_false false true t h = absurd (let z : ◌≡◌ {A = ℕ} 0 1 = cc in let y : ⊥ = omega arith in y)
all_false false false true h = absurd (let z : ◌≡◌ {A = ℕ} 0 1 = cc in let y : ⊥ = omega arith in y)
all_false false false false h = (refl, refl, refl)

pub admitted : (b : Contents) (s : ℕ) (x : List ℕ) → Lawful b → put_answer b s x ≡ Ok tt → Admitted b s x
admitted b s x ok h =
    let few = ok.few in
    let t = all_false (ltb longest_item (length x)) (not (holds b.items s) && leb b.sender_limit (length b.items)) (ltb b.byte_limit (bytes_held (without b.items s) + length x)) h in
    record {
      short = ltb-false longest_item (length x) t.0;
      few = ⊎_elim
          (λ (e : not (holds b.items s) ≡ false). omega (arith, length_without_held b.items s (not-false (holds b.items s) e)))
          (λ (e : leb b.sender_limit (length b.items) ≡ false). omega (arith, leb-false b.sender_limit (length b.items) e, length_without b.items s))
          (and_cases (not (holds b.items s)) (leb b.sender_limit (length b.items)) t.1);
      room = ltb-false b.byte_limit (bytes_held (without b.items s) + length x) t.2;
    }

pub bytes_held_without : (is : List Item) (s : ℕ) → bytes_held (without is s) ≤ bytes_held is
bytes_held_without [] s = omega arith
bytes_held_without (i ∷ is) s = ⊎_elim
    (λ (e : eqb i.sender s ≡ true). rw e (omega (arith, bytes_held_without is s)))
    (λ (e : eqb i.sender s ≡ false). rw e (omega (arith, bytes_held_without is s)))
    (cases_Bool (eqb i.sender s))

-- ---- what always holds, of the lists that put and remove give
all_without : (P : Item → Type 0) (is : List Item) (s : ℕ) → AllByRecursion P is → AllByRecursion P (without is s)
all_without P [] s h = tt
all_without P (i ∷ is) s h = ⊎_elim
    (λ (e : eqb i.sender s ≡ true). rw e (all_without P is s h.1))
    (λ (e : eqb i.sender s ≡ false). rw e (h.0, all_without P is s h.1))
    (cases_Bool (eqb i.sender s))

rising_without : (is : List Item) (s : ℕ) → Rising is → Rising (without is s)
rising_without [] s h = tt
rising_without (i ∷ is) s h = ⊎_elim
    (λ (e : eqb i.sender s ≡ true). rw e (rising_without is s h.1))
    (λ (e : eqb i.sender s ≡ false). rw e (all_without (λ j. i.sender < j.sender) is s h.0, rising_without is s h.1))
    (cases_Bool (eqb i.sender s))

pub lawful_without : (b : Contents) (s : ℕ) → Lawful b → Lawful (holding b (without b.items s))
lawful_without b s h = record {
  some = h.some;
  most = h.most;
  lives = h.lives;
  short = h.short;
  few = omega (arith, length_without b.items s, h.few);
  rising = rising_without b.items s h.rising;
  numbers = all_without (λ i. i.sender < 65536) b.items s h.numbers;
  fits = all_without (λ i. length i.bytes ≤ longest_item) b.items s h.fits;
  young = all_without (λ i. lasts b.life i.age ≡ true) b.items s h.young;
  within = omega (arith, bytes_held_without b.items s, h.within);
}

-- where a new item comes to stand
pub record Splits (is : List Item) (x : Item) : Type 0 where
  pub front : List Item
  pub back : List Item
  pub whole : is ≡ front ++ back
  pub low : Below x.sender front
  pub high : Above x.sender back
  pub put : with_item is x ≡ front ++ x ∷ back

pub splits : (is : List Item) (x : Item) → Rising is → Apart x.sender is → Splits is x
splits [] x r a = record { front = []; back = []; whole = refl; low = tt; high = tt; put = refl }
splits (i ∷ is) x r a = ⊎_elim
    (λ (e : i.sender < x.sender). let k = splits is x r.1 a.1 in record {
      front = i ∷ k.front;
      back = k.back;
      whole = ap (λ l. i ∷ l) k.whole;
      low = (e, k.low);
      high = k.high;
      put = rw (lt-ltb i.sender x.sender e) (ap (λ l. i ∷ l) k.put);
    })
    (λ (e : x.sender ≤ i.sender). let l : x.sender < i.sender = lt_of_le_of_ne e (λ z. a.0 (sym z)) in record {
      front = [];
      back = i ∷ is;
      whole = refl;
      low = tt;
      high = (l, All-weaker (λ j. i.sender < j.sender) (λ j. x.sender < j.sender) (λ j m. omega arith) is r.0);
      put = rw (le-ltb i.sender x.sender e);
    })
    (cases_lt i.sender x.sender)

pub rising_with_item : (is : List Item) (x : Item) → Rising is → holds is x.sender ≡ false → Rising (with_item is x)
rising_with_item is x r a =
    let k = splits is x r (apart_not_held x.sender is a) in
    subst Rising (sym k.put) (rising_with k.front k.back x k.low k.high (subst Rising k.whole r))

pub lawful_with_item : (b : Contents) (x : Item) → Lawful b → holds b.items x.sender ≡ false → x.sender < 65536
    → length b.items < b.sender_limit → length x.bytes ≤ longest_item → lasts b.life x.age ≡ true → bytes_held b.items + length x.bytes ≤ b.byte_limit
    → Lawful (holding b (with_item b.items x))
lawful_with_item b x h free number few fits young within =
    let k = splits b.items x h.rising (apart_not_held x.sender b.items free) in
    subst (λ is. Lawful (holding b is)) (sym k.put)
    (lawful_with b k.front k.back x (subst (λ is. Lawful (holding b is)) k.whole h) k.low k.high number
    (subst (λ is. length is < b.sender_limit) k.whole few) fits young (subst (λ is. bytes_held is + length x.bytes ≤ b.byte_limit) k.whole within))

pub all_of_with : (P : Item → Type 0) (is : List Item) (x : Item) → AllByRecursion P (with_item is x) → P x
all_of_with P [] x h = h.0
all_of_with P (i ∷ is) x h = ⊎_elim
    (λ (e : ltb i.sender x.sender ≡ true). let h' : AllByRecursion P (i ∷ with_item is x) = rw e at h in all_of_with P is x h'.1)
    (λ (e : ltb i.sender x.sender ≡ false). let h' : AllByRecursion P (x ∷ (i ∷ is)) = rw e at h in h'.0)
    (cases_Bool (ltb i.sender x.sender))

pub bytes_held_with : (is : List Item) (x : Item) → bytes_held (with_item is x) ≡ bytes_held is + length x.bytes
bytes_held_with [] x = omega arith
bytes_held_with (i ∷ is) x = ⊎_elim
    (λ (e : ltb i.sender x.sender ≡ true). rw e (omega (arith, bytes_held_with is x)))
    (λ (e : ltb i.sender x.sender ≡ false). rw e (omega arith))
    (cases_Bool (ltb i.sender x.sender))

-- ---- a list with one item more, aged
above_aged : (life : ℕ) (is : List Item) (s : ℕ) → Above s is → Above s (aged life is)
above_aged life [] s h = tt
above_aged life (i ∷ is) s h = ⊎_elim
    (λ (e : lasts life (i.age + 1) ≡ true). rw e (h.0, above_aged life is s h.1))
    (λ (e : lasts life (i.age + 1) ≡ false). rw e (above_aged life is s h.1))
    (cases_Bool (lasts life (i.age + 1)))

pub aged_with : (life : ℕ) (is : List Item) (x : Item) → Rising is → Apart x.sender is
    → aged life (with_item is x) ≡ cond (lasts life (x.age + 1)) (with_item (aged life is) (older x)) (aged life is)
aged_with life [] x r a = refl
aged_with life (i ∷ is) x r a = ⊎_elim
    (λ (e : i.sender < x.sender). let f = lt-ltb i.sender x.sender e in
    let k = aged_with life is x r.1 a.1 in
    rw f (rw k (ways (lasts life (i.age + 1)) (lasts life (x.age + 1)) f)))
    (λ (e : x.sender ≤ i.sender).
    let l : x.sender < i.sender = lt_of_le_of_ne e (λ z. a.0 (sym z)) in
    let up : Above x.sender (i ∷ is) = (l, All-weaker (λ j. i.sender < j.sender) (λ j. x.sender < j.sender) (λ j m. omega arith) is r.0) in
    rw (le-ltb i.sender x.sender e)
    (ap (λ l. cond (lasts life (x.age + 1)) l (aged life (i ∷ is))) (sym (with_above (aged life (i ∷ is)) (older x) (above_aged life (i ∷ is) x.sender up)))))
    (cases_lt i.sender x.sender)
  where
    ways : (t u : Bool) → ltb i.sender x.sender ≡ true
        → cond t (older i ∷ cond u (with_item (aged life is) (older x)) (aged life is)) (cond u (with_item (aged life is) (older x)) (aged life is))
        ≡ cond u (with_item (cond t (older i ∷ aged life is) (aged life is)) (older x)) (cond t (older i ∷ aged life is) (aged life is))
    ways true true f = rw f
    ways true false f = refl
    ways false true f = refl
    ways false false f = refl

-- ---- for a loop that ends the items one by one
pub next_held : (is : List Item) (k s : ℕ) → next_sender is k ≡ Some s → holds is s ≡ true
next_held [] k s h = absurd (let z : ◌≡◌ {A = ℕ} 0 1 = cc in let y : ⊥ = omega arith in y)
next_held (i ∷ is) k s h = ⊎_elim
    (λ (e : ltb i.sender k ≡ true). rw (next_held is k s (rw e at h)) (both (eqb i.sender s)))
    (λ (e : ltb i.sender k ≡ false). let f : Some i.sender ≡ Some s = rw e at h in let g : i.sender ≡ s = cc in rw (eq-eqb i.sender s g))
    (cases_Bool (ltb i.sender k))
  where
    both : (b : Bool) → cond b true true ≡ true
    both true = refl
    both false = refl

pub next_empty : (is : List Item) → next_sender is 0 ≡ None → is ≡ []
next_empty [] h = refl
next_empty (i ∷ is) h = let f : Some i.sender ≡ None = rw (le-ltb i.sender 0 (omega arith)) at h in absurd (let z : ◌≡◌ {A = ℕ} 0 1 = cc in let y : ⊥ = omega arith in y)

abbrev full_test : Contents → ℕ → Bool
full_test b s = not (holds b.items s) && leb b.sender_limit (length b.items)

few_left : (b : Contents) (s : ℕ) → Lawful b → full_test b s ≡ false → length (without b.items s) < b.sender_limit
few_left b s ok t = let few = ok.few in ⊎_elim
    (λ (e : not (holds b.items s) ≡ false). omega (arith, length_without_held b.items s (not-false (holds b.items s) e)))
    (λ (e : leb b.sender_limit (length b.items) ≡ false). omega (arith, leb-false b.sender_limit (length b.items) e, length_without b.items s))
    (and_cases (not (holds b.items s)) (leb b.sender_limit (length b.items)) t)

-- where each sender has room for the longest item, the bytes are never too many
pub put_checked_slots : (b : Contents) (s : ℕ) (x : List ℕ) → Lawful b → b.byte_limit ≡ longest_item * b.sender_limit
    → put_checked (length x) (holds b.items s) (length b.items) b.sender_limit 0 longest_item ≡ put_answer b s x
put_checked_slots b s x ok r = ⊎_elim
    (λ (long : longest_item < length x). rw (lt-ltb longest_item (length x) long))
    (λ (short : length x ≤ longest_item). rw (le-ltb longest_item (length x) short) (⊎_elim
    (λ (full : full_test b s ≡ true). rw full)
    (λ (some : full_test b s ≡ false). rw some
    (cond-false (ltb longest_item (0 + length x)) (refuse BytesFull 0) (Ok tt) (le-ltb longest_item (0 + length x) (omega arith))
    ∙ sym (cond-false (ltb b.byte_limit (bytes_held (without b.items s) + length x)) (refuse BytesFull 0) (Ok tt) (le-ltb b.byte_limit (bytes_held (without b.items s) + length x)
    (let few = few_left b s ok some in omega (arith, bytes_held_le (without b.items s) (all_without (λ i. length i.bytes ≤ longest_item) b.items s ok.fits)))))))
    (cases_Bool (full_test b s))))
    (cases_lt longest_item (length x))

pub when_refused : {A P : Type 0} (r : Outcome A) → P → IfRefused r P
when_refused (Ok _) h = tt
when_refused (Err _) h = h

-- the item of a sender, at its index
pub finds_at : (is : List Item) (s i : ℕ) (d : Item) → Rising is → i < length is → (get_or is i d).sender ≡ s → Finds is s (Some i)
finds_at is s i d rises h here =
    let low = rising_below (take i is) (drop (suc i) is) (get_or is i d) (subst Rising (split_row is i d h) rises) in
    finds_some is s i d rises h (All-weaker (λ x. x.sender < (get_or is i d).sender) (λ x. x.sender ≡ s → ⊥) (λ x l e. omega arith) (take i is) low) here

-- ---- what a check of the buffer says of a read
pub any_fits : (n : ℕ) → buffer_checked n ≡ Ok tt → longest_item ≤ n
any_fits n h = ⊎_elim
    (λ (l : n < longest_item). absurd (let e : ◌≡◌ {A = Outcome (Unit {0})} (refuse BufferShort 0) (Ok tt) = rw (lt-ltb n longest_item l) at h in let z : ◌≡◌ {A = ℕ} 0 1 = cc in let y : ⊥ = omega arith in y))
    (λ (l : longest_item ≤ n). l)
    (cases_lt n longest_item)

module _ (c : Contents) (s : ℕ) (buffer : List ℕ) where
  -- the answer to a short buffer, which stays as it was
  pub read_refused : (e : Refusal) → buffer_checked (length buffer) ≡ Err e → (Err e ≡ read_answer c s (length buffer)) × (buffer ≡ buffer_after_read c s buffer)
  read_refused e h = ways (ltb (length buffer) longest_item) h
    where
      ways : (t : Bool) → ◌≡◌ {A = Outcome (Unit {0})} (cond t (refuse BufferShort 0) (Ok tt)) (Err e)
          → ◌≡◌ {A = Outcome (Option ℕ)} (Err e) (cond t (refuse BufferShort 0) (Ok (found_length (bytes_of c.items s)))) × (buffer ≡ cond t buffer (at_front (bytes_of c.items s) buffer))
      ways true h = let g : e ≡ refusal BufferShort 0 = cc in (ap (λ (r : Refusal). Err r) g, refl)
      ways false h = absurd (let z : ◌≡◌ {A = ℕ} 0 1 = cc in let y : ⊥ = omega arith in y)

  -- and the answer to one that any item fits, by what was found
  pub read_taken : (o : Option (List ℕ)) → bytes_of c.items s ≡ o → buffer_checked (length buffer) ≡ Ok tt → (Ok (found_length o) ≡ read_answer c s (length buffer)) × (at_front o buffer ≡ buffer_after_read c s buffer)
  read_taken o f h = ways (ltb (length buffer) longest_item) h
    where
      ways : (t : Bool) → ◌≡◌ {A = Outcome (Unit {0})} (cond t (refuse BufferShort 0) (Ok tt)) (Ok tt)
          → ◌≡◌ {A = Outcome (Option ℕ)} (Ok (found_length o)) (cond t (refuse BufferShort 0) (Ok (found_length (bytes_of c.items s)))) × (at_front o buffer ≡ cond t buffer (at_front (bytes_of c.items s) buffer))
      ways true h = absurd (let z : ◌≡◌ {A = ℕ} 0 1 = cc in let y : ⊥ = omega arith in y)
      ways false h = (sym (ap (λ (p : Option (List ℕ)). Ok (found_length p)) f), sym (ap (λ p. at_front p buffer) f))
