-- A packed inbox's items, by its table.
use Rattle.std.proofs.Common.{◌≡◌, ℕ, ◌+◌, ◌-◌, ◌<◌, ◌≤◌, true, false, List, length, get_or, take, drop, set, Some, None, Ok, Err, Option, Result, sym, refl, ap, ◌∙◌, subst, ⊎_elim, arith, add-one}
use Rattle.std.proofs.lemmas.List.Edits.{length-paste}
use Rattle.std.proofs.lemmas.List.{length-take, length-drop}
use Rattle.std.proofs.lemmas.List.Sorted.{searchable_from_sorted, IsNonDecreasingBy-from_all_adjacent}
use Rattle.std.proofs.lemmas.Cmp.{nat_cmp_total, ranked}
use Rattle.std.proofs.lemmas.Bool.{lt-ltb, cases_lt, ltb-true, ltb-false}
use Rattle.std.proofs.lemmas.Bool.Decides.{nat_tests}
use Rattle.std.specs.List.{remove, insert, slice_get}
use Rattle.std.specs.List.Sorted.{IsBinarySearchResult, IsSearchInRange, IsNonDecreasingBy}
use Rattle.std.specs.Ordering.{nat_cmp, is_lt}
use Rattle.std.specs.Option.{option_map, MatchOption, IsSomeAnd, is_some}
use Rattle.std.specs.Slice.{IsGetResult}
use denote.Ref.{Bor}
use Rattle.std.specs.Result.{result_ok}
use Rattle.std.proofs.lemmas.Option.{slice_get-get_or, slice_get_past}
use Rattle.std.specs.declared.cmp.Ordering.TheVariants.{Less, Equal, Greater}
use lib.Seq.{paste}
use Rattle.inbox.specs.Contents.{lasts, Item, Lawful, holding, bytes_held, longest_item}
use Rattle.inbox.specs.Search.{no_item, LowerBound, Finds}
use Rattle.inbox.specs.Calls.{next_sender, holds, with_item, new_item, older}
use Rattle.inbox.specs.Law.{lawful_of}
use Rattle.inbox.proofs.Items.{lawful_removed, lawful_inserted, lawful_older, with_bounded, bytes_held_le, finds_at, finds_none, next_some, next_none}
use Rattle.packed_inbox.specs.LentMemory.{laid_in}
use Rattle.packed_inbox.specs.Rows.{cut, span, row_item}
use Rattle.packed_inbox.specs.PackedInbox.{rows, lent, contents}
use Rattle.packed_inbox.specs.declared.row.Row.{Row}
use Rattle.packed_inbox.specs.declared.packed_inbox.PackedInbox.{PackedInbox}
use Rattle.packed_inbox.proofs.LaidIn.{laid_front, behind_copy, behind_gap}
use Rattle.packed_inbox.proofs.Cuts.{length_cut, getD_cut, cut_removed, span_removed, span_more, cut_inserted, span_inserted, cut_set, span_set, bytes_held_cut, span_take_le, sender, rising_rows, none_of}

abbrev pub blank : Row
blank = record { sender = 0; age = 0; len = 0 }

pub length_items : (p : PackedInbox) → length (contents p).items ≡ length (rows p)
length_items p = length_cut (rows p) (lent p)

pub few_rows : (p : PackedInbox) → length (rows p) ≤ 16
few_rows p = let few = (lawful_of (contents p) p.lawful).few in let most = p.limits.most in omega (arith, length_items p)

pub item_at : (p : PackedInbox) → (i : ℕ) (d : Item) (e : Row) → i < length (rows p)
    → get_or (contents p).items i d ≡ row_item (get_or (rows p) i e) (drop (span (take i (rows p))) (lent p))
item_at p i d e h = getD_cut (rows p) (lent p) i d e h

-- what a packed inbox's parts are once the row `at` is closed
pub record Closed (p : PackedInbox) (at : ℕ) (m : List ℕ) : Type 0 where
  pub len : length m ≡ length (lent p)
  pub items : cut (remove (rows p) at) m ≡ remove (contents p).items at
  pub spans : span (remove (rows p) at) ≤ length m
  pub lawful : Lawful (holding (contents p) (remove (contents p).items at))
  pub laid : m ≡ laid_in (remove (contents p).items at) (lent p)

pub closes : (p : PackedInbox) (at : ℕ) → at < length (rows p) → (from past used : ℕ)
    → from ≡ span (take at (rows p)) → past ≡ span (take (at + 1) (rows p)) → used ≡ span (rows p)
    → (m : List ℕ) → m ≡ paste (lent p) from (drop past (lent p)) (used - past)
    → Closed p at m
closes p at h from past used f g u m me =
    let b = lent p in
    let sp = p.spans in
    let ms : m ≡ paste b (span (take at (rows p))) (drop (span (take (at + 1) (rows p))) b) (span (rows p) - span (take (at + 1) (rows p))) = simp (me, f, g, u) in
    let less = span_removed (rows p) at blank h in
    let more = span_more (rows p) at blank h in
    let most = span_take_le (rows p) (at + 1) in
    let len : length m ≡ length (lent p) = ap length me ∙ length-paste b from (drop past b) (used - past) (omega arith) (simp length-drop (omega arith)) in
    let same : cut (remove (rows p) at) m ≡ remove (contents p).items at = ap (cut (remove (rows p) at)) ms ∙ cut_removed (rows p) at blank h b sp in
    let spanned : span (remove (rows p) at) ≤ length m = omega arith in
    let behind : drop (span (remove (rows p) at)) m ≡ drop (span (remove (rows p) at)) b =
    ap (drop (span (remove (rows p) at))) ms ∙ behind_copy b (drop (span (take (at + 1) (rows p))) b) (span (take at (rows p))) (span (rows p) - span (take (at + 1) (rows p))) (span (remove (rows p) at)) (omega arith) (simp length-drop (omega arith)) (omega arith) in
    record {
      len = len;
      items = same;
      spans = spanned;
      lawful = lawful_removed (contents p) at (lawful_of (contents p) p.lawful) (omega (arith, length_items p));
      laid = laid_front (remove (rows p) at) b m spanned behind ∙ ap (λ l. laid_in l b) same;
    }

-- the same for a row that is opened
pub record Opened (p : PackedInbox) (s : ℕ) (x m : List ℕ) (es : List Row) : Type 0 where
  pub len : length m ≡ length (lent p)
  pub items : cut es m ≡ with_item (contents p).items (new_item s x)
  pub spans : span es ≤ length m
  pub lawful : Lawful (holding (contents p) (with_item (contents p).items (new_item s x)))
  pub laid : m ≡ laid_in (with_item (contents p).items (new_item s x)) (lent p)

pub opens : (p : PackedInbox) (at s : ℕ) (x : List ℕ) → LowerBound (contents p).items s at
    → holds (contents p).items s ≡ false → s < 65536 → length (contents p).items < (contents p).sender_limit → length x ≤ longest_item → bytes_held (contents p).items + length x ≤ (contents p).byte_limit
    → (from used : ℕ) → from ≡ span (take at (rows p)) → used ≡ span (rows p)
    → (m₁ m : List ℕ)
    → m₁ ≡ paste (lent p) (from + length x) (drop from (lent p)) (used - from)
    → m ≡ paste m₁ from x (length x)
    → Opened p s x m (insert (rows p) at record { sender = s; age = 0; len = length x })
opens p at s x here free number few short room from used f u m₁ m me₁ me =
    let b = lent p in
    let sp = p.spans in
    let ni = length_items p in
    let ok = lawful_of (contents p) p.lawful in
    let e : Row = record { sender = s; age = 0; len = length x } in
    let in_range = here.in_range in
    let most = span_take_le (rows p) at in
    let sums : bytes_held (contents p).items ≡ span (rows p) = bytes_held_cut (rows p) b sp in
    let ms : m ≡ paste (paste b (span (take at (rows p)) + length x) (drop (span (take at (rows p))) b) (span (rows p) - span (take at (rows p)))) (span (take at (rows p))) x (length x) = simp (me, me₁, f, u) in
    let len₁ : length m₁ ≡ length b = ap length me₁ ∙ length-paste b (from + length x) (drop from b) (used - from) (omega arith) (simp length-drop (omega arith)) in
    let len : length m ≡ length b = ap length me ∙ length-paste m₁ from x (length x) (omega arith) (omega arith) ∙ len₁ in
    let put : with_item (contents p).items (new_item s x) ≡ insert (contents p).items at (new_item s x) = with_bounded (contents p).items s at here free 0 x in
    let more = span_inserted (rows p) at e (omega arith) in
    let same : cut (insert (rows p) at e) m ≡ with_item (contents p).items (new_item s x) =
    ap (cut (insert (rows p) at e)) ms ∙ cut_inserted (rows p) at e (omega arith) b x refl (omega arith) ∙ sym put in
    let spanned : span (insert (rows p) at e) ≤ length m = omega arith in
    let behind : drop (span (insert (rows p) at e)) m ≡ drop (span (insert (rows p) at e)) b =
    ap (drop (span (insert (rows p) at e))) ms ∙ behind_gap b x (span (take at (rows p))) (span (rows p) - span (take at (rows p))) (span (insert (rows p) at e)) (omega arith) (omega arith) in
    record {
      len = len;
      items = same;
      spans = spanned;
      laid = laid_front (insert (rows p) at e) b m spanned behind ∙ ap (λ l. laid_in l b) same;
      lawful = subst (λ is. Lawful (holding (contents p) is)) (sym put) (lawful_inserted (contents p) at (new_item s x) ok here free number few short (lt-ltb 0 p.limits.life p.limits.lives) room);
    }

-- and for a row whose age is raised
pub record Raised (p : PackedInbox) (at : ℕ) (es : List Row) : Type 0 where
  pub items : cut es (lent p) ≡ set (contents p).items at (older (get_or (contents p).items at no_item))
  pub spans : span es ≤ length (lent p)
  pub lawful : Lawful (holding (contents p) (set (contents p).items at (older (get_or (contents p).items at no_item))))

abbrev pub aged_row : Row → ℕ → Row
aged_row e age = record { sender = e.sender; age = age; len = e.len }

pub raises : (p : PackedInbox) (at age : ℕ) → at < length (rows p) → age ≡ (get_or (contents p).items at no_item).age + 1 → lasts (contents p).life age ≡ true
    → Raised p at (set (rows p) at (aged_row (get_or (rows p) at blank) age))
raises p at age h up young =
    let b = lent p in
    let e = aged_row (get_or (rows p) at blank) age in
    let sp = p.spans in
    let x = item_at p at no_item blank h in
    record {
      items = cut_set (rows p) at e blank b h refl ∙ (λ i. set (contents p).items at record { sender = (sym x i).sender; age = up i; bytes = (sym x i).bytes });
      spans = omega (arith, span_set (rows p) at e blank h refl);
      lawful = lawful_older (contents p) at (lawful_of (contents p) p.lawful) (omega (arith, length_items p)) (ap (lasts (contents p).life) (sym up) ∙ young);
    }

pub small : (p : PackedInbox) → span (rows p) ≤ 33024
small p =
    let ok = lawful_of (contents p) p.lawful in
    let few = ok.few in
    let most = p.limits.most in
    omega (arith, bytes_held_le (contents p).items ok.fits, bytes_held_cut (rows p) (lent p) p.spans)

pub age_at : (p : PackedInbox) (i : ℕ) (d : Item) → i < length (rows p) → (get_or (contents p).items i d).age ≡ (get_or (rows p) i blank).age
age_at p i d h = ap (λ (x : Item). x.age) (item_at p i d blank h)

pub bytes_at : (p : PackedInbox) (i : ℕ) (d : Item) → i < length (rows p) → (get_or (contents p).items i d).bytes ≡ take (get_or (rows p) i blank).len (drop (span (take i (rows p))) (lent p))
bytes_at p i d h = ap (λ (x : Item). x.bytes) (item_at p i d blank h)

-- a row's bytes lie in memory
pub row_fits : (p : PackedInbox) (i : ℕ) → i < length (rows p) → span (take i (rows p)) + (get_or (rows p) i blank).len ≤ span (rows p)
row_fits p i h = omega (arith, span_more (rows p) i blank h, span_take_le (rows p) (i + 1))

pub length_at : (p : PackedInbox) (i : ℕ) (d : Item) → i < length (rows p) → length (get_or (contents p).items i d).bytes ≡ (get_or (rows p) i blank).len
length_at p i d h =
    let r = row_fits p i h in
    let s = p.spans in
    ap length (bytes_at p i d h) ∙ simp (length-take, length-drop) (omega arith)

-- an untouched memory has the items at its front
pub laid_as_it_stood : (p : PackedInbox) → lent p ≡ laid_in (contents p).items (lent p)
laid_as_it_stood p = laid_front (rows p) (lent p) (lent p) p.spans refl

-- ---- searches in the table
rows_step : (p : PackedInbox) (k : ℕ) (d : Row) → k + 1 < length (rows p) → sender (get_or (rows p) k d) < sender (get_or (rows p) (k + 1) d)
rows_step p k d h = rw add-one (rising_rows (rows p) (lent p) (lawful_of (contents p) p.lawful).rising k d (omega arith))

pub rows_rise : (p : PackedInbox) → IsNonDecreasingBy sender (rows p)
rows_rise p = IsNonDecreasingBy-from_all_adjacent sender (rows p) (λ k d h. let l = rows_step p k d h in omega arith)

not_less : (x y : ℕ) → x < y → is_lt (nat_cmp y x) ≡ false
not_less x y h = grind (arith, nat_tests)

-- what a binary search for the sender finds
pub found : (p : PackedInbox) (s : ℕ) (r : Result ℕ ℕ) → IsSearchInRange r (length (rows p)) → IsBinarySearchResult (λ e. nat_cmp (sender e) s) (rows p) r → Finds (contents p).items s (result_ok r)
found p s (Ok i) h f = finds_at (contents p).items s i no_item (lawful_of (contents p) p.lawful).rising (omega (arith, length_items p))
    (ap (λ (x : Item). x.sender) (item_at p i no_item blank h) ∙ ranked (sender (get_or (rows p) i blank)) s Equal (sym (f blank)))
found p s (Err i) h f =
    let k = f (searchable_from_sorted nat_cmp_total sender (rows p) s (λ k d _ l. not_less (sender (get_or (rows p) k d)) (sender (get_or (rows p) (k + 1) d)) (rows_step p k d l))) in
    finds_none (contents p).items s (none_of (rows p) (lent p) s (λ j d l e. ⊎_elim
    (λ (b : j < i). let m = ranked (sender (get_or (rows p) j d)) s Less (sym (k.0 j d (omega arith) b)) in let z : ⊥ = omega arith in z)
    (λ (b : i ≤ j). let m = ranked (sender (get_or (rows p) j d)) s Greater (sym (k.1 j d b l)) in let z : ⊥ = omega arith in z)
    (cases_lt j i)))

-- the row at the bound has the next sender
pub next_at : (p : PackedInbox) (k at : ℕ) → LowerBound (contents p).items k at → next_sender (contents p).items k ≡ option_map sender (slice_get (rows p) at)
next_at p k at here = ⊎_elim
    (λ (h : at < length (rows p)). next_some (contents p).items k at no_item here (omega (arith, length_items p))
    ∙ ap (λ (x : Item). Some x.sender) (item_at p at no_item blank h) ∙ sym (ap (option_map sender) (slice_get-get_or (rows p) at blank h)))
    (λ (h : length (rows p) ≤ at). next_none (contents p).items k at here (omega (arith, length_items p)) ∙ sym (ap (option_map sender) (slice_get_past (rows p) at h)))
    (cases_lt at (length (rows p)))

-- the sender of a row, read by its index
pub sender_read : {P : Bor Row → ℕ → Type 0} → ((x : Bor Row) (n : ℕ) → P x n → n ≡ sender x.now) → (es : List Row) (at : ℕ) (r : Option (Bor Row)) (m : Option ℕ)
    → IsGetResult es at at r → MatchOption r (m ≡ None) (λ x. IsSomeAnd m (P x)) → m ≡ option_map sender (slice_get es at)
sender_read says es at None m g h = h ∙ sym (ap (option_map sender) (slice_get_past es at (ltb-false at (length es) (sym g.0))))
sender_read says es at (Some x) None g h = absurd h
sender_read says es at (Some x) (Some n) g h =
    ap Some (says x n h ∙ ap sender g.1) ∙ sym (ap (option_map sender) (slice_get-get_or es at x.now (ltb-true at (length es) (sym g.0))))

pub held_found : (is : List Item) (s : ℕ) (r : Option ℕ) → Finds is s r → holds is s ≡ is_some r
held_found is s None f = f.free
held_found is s (Some i) f = f.held
