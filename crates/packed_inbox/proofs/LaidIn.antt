-- Items that are laid into memory.
use Rattle.std.proofs.Common.{◌≡◌, ℕ, suc, ◌+◌, ◌-◌, ◌<◌, ◌≤◌, true, false, List, [], ◌∷◌, ◌++◌, length, get_or, take, drop, set, sym, refl, ap, ◌∙◌, add-one, arith}
use lib.Seq.{paste}
use Rattle.std.specs.List.{remove}
use Rattle.std.proofs.lemmas.List.{take-append-drop, take-take, drop-take, drop-drop, drop_at, take_at, length-drop, length-append, length-take-le, take_more_set, drop-set-lt, drop_more, drop_all}
use Rattle.std.proofs.lemmas.List.Edits.{drop-paste, length-paste}
use Rattle.inbox.specs.Contents.{Item, Contents, lasts, bytes_held, holding}
use Rattle.inbox.specs.Calls.{older}
use Rattle.inbox.specs.Search.{no_item}
use Rattle.packed_inbox.specs.Rows.{cut, span}
use Rattle.packed_inbox.specs.LentMemory.{end_to_end, laid_in, passed}
use Rattle.packed_inbox.specs.declared.row.Row.{Row}
use Rattle.packed_inbox.proofs.Cuts.{bytes_held_cut}

take_plus : (a b : ℕ) (m : List ℕ) → take (a + b) m ≡ take a m ++ take b (drop a m)
take_plus a b m = let h : a ≤ a + b = omega arith in sym (take-append-drop a (take (a + b) m)) ∙ (λ i. take-take a (a + b) m h i ++ drop-take a b m i)

end_to_end_cut : (es : List Row) (m : List ℕ) → span es ≤ length m → end_to_end (cut es m) ≡ take (span es) m
end_to_end_cut [] m h = refl
end_to_end_cut (e ∷ es) m h =
    let j : span es ≤ length (drop e.len m) = simp length-drop (omega arith) in
    ap (λ l. take e.len m ++ l) (end_to_end_cut es (drop e.len m) j) ∙ sym (take_plus e.len (span es) m)

-- the front of memory is what the rows cut from it, so only what lies behind has to be as it was
pub laid_front : (es : List Row) (m m' : List ℕ) → span es ≤ length m' → drop (span es) m' ≡ drop (span es) m → m' ≡ laid_in (cut es m') m
laid_front es m m' h same =
    sym (ap (λ l. l ++ drop (bytes_held (cut es m')) m) (end_to_end_cut es m' h)
    ∙ ap (λ n. take (span es) m' ++ drop n m) (bytes_held_cut es m' h)
    ∙ ap (λ l. take (span es) m' ++ l) (sym same)
    ∙ take-append-drop (span es) m')

length_end_to_end : (is : List Item) → length (end_to_end is) ≡ bytes_held is
length_end_to_end [] = refl
length_end_to_end (i ∷ is) = length-append i.bytes (end_to_end is) ∙ ap (λ n. length i.bytes + n) (length_end_to_end is)

-- what was laid in before more bytes does not show
pub laid_twice : (is js : List Item) (m : List ℕ) → bytes_held is ≤ bytes_held js → laid_in js (laid_in is m) ≡ laid_in js m
laid_twice is js m h =
    let a = bytes_held is in
    let k = bytes_held js - bytes_held is in
    let b : a + k ≡ bytes_held js = omega arith in
    ap (λ l. end_to_end js ++ l) (ap (λ n. drop n (laid_in is m)) (sym b) ∙ sym (drop-drop k a (laid_in is m)) ∙ ap (drop k) (drop_at (end_to_end is) (drop a m) a (length_end_to_end is)) ∙ drop-drop k a m ∙ ap (λ n. drop n m) b)

-- behind what a copy writes
pub behind_copy : (d s : List ℕ) (at n k : ℕ) → at ≤ length d → n ≤ length s → k ≡ at + n → drop k (paste d at s n) ≡ drop k d
behind_copy d s at n k h j e = ap (λ i. drop i (paste d at s n)) e ∙ drop-paste d at s n h j ∙ ap (λ i. drop i d) (sym e)

-- and behind a gap that is opened at `at` and filled with x
pub behind_gap : (d x : List ℕ) (at n k : ℕ) → at + length x + n ≤ length d → k ≡ at + length x + n
    → drop k (paste (paste d (at + length x) (drop at d) n) at x (length x)) ≡ drop k d
behind_gap d x at n k h e =
    let inner = paste d (at + length x) (drop at d) n in
    let j : n ≤ length (drop at d) = simp length-drop (omega arith) in
    let len : length inner ≡ length d = length-paste d (at + length x) (drop at d) n (omega arith) j in
    ap (λ i. drop i (paste inner at x (length x))) e ∙ sym (drop-drop n (at + length x) (paste inner at x (length x)))
    ∙ ap (drop n) (drop-paste inner at x (length x) (omega arith) (omega arith))
    ∙ drop-drop n (at + length x) inner
    ∙ drop-paste d (at + length x) (drop at d) n (omega arith) j
    ∙ ap (λ i. drop i d) (sym e)

-- ---- passing, with the items below i done
abbrev pub part_passed : ℕ → Contents → List ℕ → List ℕ
part_passed i b m = passed b.life (take i b.items) (drop i b.items) m

module _ (b : Contents) (i : ℕ) (m : List ℕ) (h : i < length b.items) where
  pub passed_stays : lasts b.life ((get_or b.items i no_item).age + 1) ≡ true
      → part_passed (i + 1) (holding b (set b.items i (older (get_or b.items i no_item)))) m ≡ part_passed i b m
  passed_stays young =
      let is = b.items in
      let x = get_or b.items i no_item in
      let after : passed b.life (take i is) (drop i is) m ≡ passed b.life (take i is ++ older x ∷ []) (drop (i + 1) is) m =
      ap (λ l. passed b.life (take i is) l m) (drop_more is i no_item h) ∙ rw young in
      ap (λ l. passed b.life l (drop (i + 1) (set is i (older x))) m) (take_more_set is i (older x) h)
      ∙ ap (λ l. passed b.life (take i is ++ older x ∷ []) l m) (drop-set-lt (i + 1) is i (older x) (omega arith))
      ∙ sym after

  pub passed_ends : lasts b.life ((get_or b.items i no_item).age + 1) ≡ false
      → part_passed i (holding b (remove b.items i)) (laid_in (remove b.items i) m) ≡ part_passed i b m
  passed_ends old =
      let is = b.items in
      let x = get_or b.items i no_item in
      let n : length (take i is) ≡ i = length-take-le i is (omega arith) in
      let after : passed b.life (take i is) (drop i is) m ≡ passed b.life (take i is) (drop (suc i) is) (laid_in (remove is i) m) =
      ap (λ l. passed b.life (take i is) l m) (drop_more is i no_item h) ∙ rw old (ap (λ k. passed b.life (take i is) (drop k is) (laid_in (take i is ++ drop k is) m)) (add-one i)) in
      ap (λ l. passed b.life l (drop i (remove is i)) (laid_in (remove is i) m)) (take_at (take i is) (drop (suc i) is) i n)
      ∙ ap (λ l. passed b.life (take i is) l (laid_in (remove is i) m)) (drop_at (take i is) (drop (suc i) is) i n)
      ∙ sym after

pub passed_all : (b : Contents) (i : ℕ) (m : List ℕ) → length b.items ≤ i → part_passed i b m ≡ m
passed_all b i m h = ap (λ l. passed b.life (take i b.items) l m) (drop_all i b.items h)
