-- Items that lie end to end.
use Rattle.std.proofs.Common.{◌≡◌, ℕ, zero, suc, ◌+◌, ◌-◌, ◌<◌, ◌≤◌, true, false, eqb, List, [], ◌∷◌, ◌++◌, length, get_or, take, drop, set, sym, refl, ap, ◌∙◌, ⊎_elim, add-zero, zero-add, add-one, arith}
use Rattle.std.proofs.lemmas.List.{drop-drop, drop-append-le, take-append-le, length-drop, length-take, take_at, drop_at, append_assoc, take-append-drop, take_more}
use Rattle.std.specs.List.{remove, insert}
use lib.Seq.{paste}
use Rattle.inbox.proofs.Items.{split_row, Apart}
use Rattle.inbox.specs.Calls.{without}
use Rattle.inbox.specs.Search.{LowerBound}
use Rattle.std.specs.List.{AllByRecursion, sum_by}
use Rattle.std.proofs.lemmas.List.Sums.{sum_by-cons}
use Rattle.std.proofs.lemmas.Bool.{cases_Bool}
use Rattle.packed_inbox.proofs.Gaps.{filled}
use Rattle.inbox.specs.Contents.{Item, Rising, bytes_held}
use Rattle.packed_inbox.specs.Rows.{cut, span, span_without, row_item}
use Rattle.packed_inbox.specs.declared.row.Row.{Row}

pub span_append : (p q : List Row) → span (p ++ q) ≡ span p + span q
span_append [] q = sym (zero-add (span q))
span_append (e ∷ p) q = omega (arith, span_append p q)

pub length_cut : (es : List Row) (m : List ℕ) → length (cut es m) ≡ length es
length_cut [] m = refl
length_cut (e ∷ es) m = ap suc (length_cut es (drop e.len m))

pub cut_append : (p q : List Row) (m : List ℕ) → cut (p ++ q) m ≡ cut p m ++ cut q (drop (span p) m)
cut_append [] q m = refl
cut_append (e ∷ p) q m = ap (λ l. row_item e m ∷ l) (cut_append p q (drop e.len m) ∙ rw drop-drop)

-- what lies behind does not matter
pub cut_front : (es : List Row) (a b : List ℕ) → span es ≤ length a → cut es (a ++ b) ≡ cut es a
cut_front [] a b h = refl
cut_front (e ∷ es) a b h =
    let i : e.len ≤ length a = omega arith in
    let j : span es ≤ length (drop e.len a) = simp length-drop (omega arith) in
    rw (take-append-le, drop-append-le) (ap (λ l. row_item e a ∷ l) (cut_front es (drop e.len a) b j))

pub bytes_held_cut : (es : List Row) (m : List ℕ) → span es ≤ length m → bytes_held (cut es m) ≡ span es
bytes_held_cut [] m h = refl
bytes_held_cut (e ∷ es) m h =
    let j : span es ≤ length (drop e.len m) = simp length-drop (omega arith) in
    let t : length (take e.len m) ≡ e.len = simp length-take (omega arith) in
    omega (arith, bytes_held_cut es (drop e.len m) j)

-- the rows in memory that is laid out as they say
module _ (p q : List Row) (a c : List ℕ) (la : length a ≡ span p) where
  pub cut_laid : cut (p ++ q) (a ++ c) ≡ cut p a ++ cut q c
  cut_laid = cut_append p q (a ++ c) ∙ rw (drop_at a c (span p) la) (ap (λ l. l ++ cut q c) (cut_front p a c (omega arith)))

pub cut_take : (es : List Row) (m : List ℕ) → span es ≤ length m → cut es (take (span es) m) ≡ cut es m
cut_take es m h =
    let l : span es ≤ length (take (span es) m) = simp length-take (omega arith) in
    sym (cut_front es (take (span es) m) (drop (span es) m) l) ∙ ap (cut es) (take-append-drop (span es) m)

-- an item's bytes are gone, and what lay behind it moved up
pub cut_closed : (p q : List Row) (e : Row) (m : List ℕ) (n : ℕ) → span p + e.len + span q ≤ length m → n ≡ span q
    → cut (p ++ q) (paste m (span p) (drop (span p + e.len) m) n) ≡ cut p m ++ cut q (drop (span p + e.len) m)
cut_closed p q e m n h same =
    let la : length (take (span p) m) ≡ span p = simp length-take (omega arith) in
    let b : span q ≤ length (drop (span p + e.len) m) = simp length-drop (omega arith) in
    let lb : span q ≤ length (take (span q) (drop (span p + e.len) m)) = simp (length-take, length-drop) (omega arith) in
    rw same (rw append_assoc (cut_laid p q (take (span p) m) (take (span q) (drop (span p + e.len) m) ++ drop (span p + span q) m) la
    ∙ ap (λ l. l ++ cut q (take (span q) (drop (span p + e.len) m) ++ drop (span p + span q) m)) (cut_take p m (omega arith))
    ∙ ap (λ l. cut p m ++ l) (cut_front q (take (span q) (drop (span p + e.len) m)) (drop (span p + span q) m) lb ∙ cut_take q (drop (span p + e.len) m) b)))

pub cut_split : (p q : List Row) (e : Row) (m : List ℕ) → cut (p ++ e ∷ q) m ≡ cut p m ++ row_item e (drop (span p) m) ∷ cut q (drop (span p + e.len) m)
cut_split p q e m = cut_append p (e ∷ q) m ∙ rw drop-drop

pub removed_split : {X : Type 0} (p q : List X) (x : X) (n : ℕ) → length p ≡ n → remove (p ++ x ∷ q) n ≡ p ++ q
removed_split p q x n h = rw (take_at p (x ∷ q) n h) (ap (λ l. p ++ l) (sym (drop-drop 1 n (p ++ x ∷ q) ∙ rw add-one) ∙ rw (drop_at p (x ∷ q) n h)))

-- the item of a row
pub getD_cut : (es : List Row) (m : List ℕ) (i : ℕ) (d : Item) (e : Row) → i < length es → get_or (cut es m) i d ≡ row_item (get_or es i e) (drop (span (take i es)) m)
getD_cut [] m i d e h = absurd (let z : ⊥ = omega arith in z)
getD_cut (x ∷ es) m zero d e h = refl
getD_cut (x ∷ es) m (suc i) d e h = getD_cut es (drop x.len m) i d e (omega arith) ∙ rw drop-drop

pub span_more : (es : List Row) (i : ℕ) (d : Row) → i < length es → span (take (i + 1) es) ≡ span (take i es) + (get_or es i d).len
span_more es i d h = ap span (take_more es i d h) ∙ span_append (take i es) (get_or es i d ∷ []) ∙ ap (λ n. span (take i es) + n) (add-zero (get_or es i d).len)

-- a row ends
module _ (rows : List Row) (at : ℕ) (d : Row) (h : at < length rows) where
  pub span_removed : span (remove rows at) + (get_or rows at d).len ≡ span rows
  span_removed = omega (arith, ap span (split_row rows at d h), span_append (take at rows) (get_or rows at d ∷ drop (suc at) rows), span_append (take at rows) (drop (suc at) rows))

  pub cut_removed : (m : List ℕ) → span rows ≤ length m
      → cut (remove rows at) (paste m (span (take at rows)) (drop (span (take (at + 1) rows)) m) (span rows - span (take (at + 1) rows))) ≡ remove (cut rows m) at
  cut_removed m room =
      let p = take at rows in
      let q = drop (suc at) rows in
      let e = get_or rows at d in
      let past : span (take (at + 1) rows) ≡ span p + e.len = span_more rows at d h in
      let all : span rows ≡ span p + (e.len + span q) = ap span (split_row rows at d h) ∙ span_append p (e ∷ q) in
      let n : span rows - span (take (at + 1) rows) ≡ span q = omega arith in
      let len : length (cut p m) ≡ at = length_cut p m ∙ simp length-take (omega arith) in
      ap (λ k. cut (p ++ q) (paste m (span p) (drop k m) (span rows - span (take (at + 1) rows)))) past
      ∙ cut_closed p q e m (span rows - span (take (at + 1) rows)) (omega arith) n
      ∙ sym (ap (λ l. remove (cut l m) at) (split_row rows at d h)
      ∙ ap (λ l. remove l at) (cut_split p q e m)
      ∙ removed_split (cut p m) (cut q (drop (span p + e.len) m)) (row_item e (drop (span p) m)) at len)

pub span_take_le : (es : List Row) (i : ℕ) → span (take i es) ≤ span es
span_take_le es i = omega (arith, ap span (take-append-drop i es), span_append (take i es) (drop i es))

-- a row begins
module _ (rows : List Row) (at : ℕ) (e : Row) (h : at ≤ length rows) where
  pub span_inserted : span (insert rows at e) ≡ span rows + e.len
  span_inserted = omega (arith, ap span (take-append-drop at rows), span_append (take at rows) (e ∷ drop at rows), span_append (take at rows) (drop at rows))

  pub cut_inserted : (m x : List ℕ) → e.len ≡ length x → span rows + length x ≤ length m
      → cut (insert rows at e) (paste (paste m (span (take at rows) + length x) (drop (span (take at rows)) m) (span rows - span (take at rows))) (span (take at rows)) x (length x))
      ≡ insert (cut rows m) at record { sender = e.sender; age = e.age; bytes = x }
  cut_inserted m x same room =
      let p = take at rows in
      let q = drop at rows in
      let a = span (take at rows) in
      let y : Item = record { sender = e.sender; age = e.age; bytes = x } in
      let all : span rows ≡ span p + span q = ap span (sym (take-append-drop at rows)) ∙ span_append p q in
      let n : span rows - span p ≡ span q = omega arith in
      let rest : List ℕ = drop (a + length x + span q) m in
      let back : List ℕ = take (span q) (drop a m) ++ rest in
      let la : length (take a m) ≡ span p = simp length-take (omega arith) in
      let lb : span q ≤ length (drop a m) = simp length-drop (omega arith) in
      let lc : span q ≤ length (take (span q) (drop a m)) = simp (length-take, length-drop) (omega arith) in
      let len : length (cut p m) ≡ at = length_cut p m ∙ simp length-take (omega arith) in
      let row : cut (e ∷ q) (x ++ back) ≡ y ∷ cut q (drop a m) =
      ap (λ l. record { sender = e.sender; age = e.age; bytes = l } ∷ cut q (drop e.len (x ++ back))) (take_at x back e.len (sym same))
      ∙ ap (λ l. y ∷ cut q l) (drop_at x back e.len (sym same))
      ∙ ap (λ l. y ∷ l) (cut_front q (take (span q) (drop a m)) rest lc ∙ cut_take q (drop a m) lb) in
      ap (λ k. cut (p ++ e ∷ q) (paste (paste m (a + length x) (drop a m) k) a x (length x))) n
      ∙ ap (cut (p ++ e ∷ q)) (filled m x a (span q) (omega arith))
      ∙ cut_laid p (e ∷ q) (take a m) (x ++ back) la
      ∙ ap (λ l. l ++ cut (e ∷ q) (x ++ back)) (cut_take p m (omega arith))
      ∙ ap (λ l. cut p m ++ l) row
      ∙ sym (ap (λ l. insert l at y) (ap (λ r. cut r m) (sym (take-append-drop at rows)) ∙ cut_append p q m)
      ∙ ap (λ l. l ++ y ∷ drop at (cut p m ++ cut q (drop a m))) (take_at (cut p m) (cut q (drop a m)) at len)
      ∙ ap (λ l. cut p m ++ y ∷ l) (drop_at (cut p m) (cut q (drop a m)) at len))

-- a row of the same length in place of another
pub cut_set : (rows : List Row) (at : ℕ) (e d : Row) (m : List ℕ) → at < length rows → e.len ≡ (get_or rows at d).len
    → cut (set rows at e) m ≡ set (cut rows m) at (row_item e (drop (span (take at rows)) m))
cut_set [] at e d m h same = refl
cut_set (x ∷ rows) zero e d m h same = ap (λ n. row_item e m ∷ cut rows (drop n m)) same
cut_set (x ∷ rows) (suc at) e d m h same = ap (λ l. row_item x m ∷ l)
    (cut_set rows at e d (drop x.len m) (omega arith) same ∙ ap (λ l. set (cut rows (drop x.len m)) at (row_item e l)) (drop-drop (span (take at rows)) x.len m))

pub span_set : (rows : List Row) (at : ℕ) (e d : Row) → at < length rows → e.len ≡ (get_or rows at d).len → span (set rows at e) ≡ span rows
span_set [] at e d h same = refl
span_set (x ∷ rows) zero e d h same = ap (λ n. n + span rows) same
span_set (x ∷ rows) (suc at) e d h same = ap (λ n. x.len + n) (span_set rows at e d (omega arith) same)

-- ---- sums over rows
pub span_sum : (es : List Row) → sum_by (λ (e : Row). e.len) es ≡ span es
span_sum [] = refl
span_sum (e ∷ es) = sum_by-cons (λ (e : Row). e.len) e es ∙ ap (λ n. e.len + n) (span_sum es)

pub span_without_held : (s : ℕ) (es : List Row) (m : List ℕ) → span es ≤ length m → bytes_held (without (cut es m) s) ≡ span_without s es
span_without_held s [] m h = refl
span_without_held s (e ∷ es) m h =
    let j : span es ≤ length (drop e.len m) = simp length-drop (omega arith) in
    let t : length (take e.len m) ≡ e.len = simp length-take (omega arith) in
    let k = span_without_held s es (drop e.len m) j in
    ⊎_elim
    (λ (f : eqb e.sender s ≡ true). rw f k)
    (λ (f : eqb e.sender s ≡ false). rw f (omega arith))
    (cases_Bool (eqb e.sender s))

-- ---- rows by rising sender
abbrev pub sender : Row → ℕ
sender e = e.sender

pub rising_rows : (es : List Row) (m : List ℕ) → Rising (cut es m) → (k : ℕ) (d : Row) → suc k < length es → sender (get_or es k d) < sender (get_or es (suc k) d)
rising_rows [] m r k d h = absurd (let z : ⊥ = omega arith in z)
rising_rows (e ∷ []) m r k d h = absurd (let z : ⊥ = omega arith in z)
rising_rows (e ∷ f ∷ es) m r zero d h = r.0.0
rising_rows (e ∷ f ∷ es) m r (suc k) d h = rising_rows (f ∷ es) (drop e.len m) r.1 k d (omega arith)

-- the first rows are below s, and those behind are not
pub bound_of : (es : List Row) (m : List ℕ) (s i : ℕ) → i ≤ length es
    → ((k : ℕ) (d : Row) → k < i → sender (get_or es k d) < s) → ((k : ℕ) (d : Row) → i ≤ k → k < length es → s ≤ sender (get_or es k d))
    → LowerBound (cut es m) s i
bound_of es m s i h low high = record { in_range = omega (arith, length_cut es m); below = lows es m i h low; above = highs es m i h high }
  where
    lows : (es : List Row) (m : List ℕ) (i : ℕ) → i ≤ length es → ((k : ℕ) (d : Row) → k < i → sender (get_or es k d) < s) → AllByRecursion (λ x. x.sender < s) (take i (cut es m))
    lows [] m zero h low = tt
    lows [] m (suc i) h low = tt
    lows (e ∷ es) m zero h low = tt
    lows (e ∷ es) m (suc i) h low = (low 0 e (omega arith), lows es (drop e.len m) i (omega arith) (λ k d l. low (suc k) d (omega arith)))

    all_high : (es : List Row) (m : List ℕ) → ((k : ℕ) (d : Row) → k < length es → s ≤ sender (get_or es k d)) → AllByRecursion (λ x. s ≤ x.sender) (cut es m)
    all_high [] m high = tt
    all_high (e ∷ es) m high = (high 0 e (omega arith), all_high es (drop e.len m) (λ k d l. high (suc k) d (omega arith)))

    highs : (es : List Row) (m : List ℕ) (i : ℕ) → i ≤ length es → ((k : ℕ) (d : Row) → i ≤ k → k < length es → s ≤ sender (get_or es k d)) → AllByRecursion (λ x. s ≤ x.sender) (drop i (cut es m))
    highs [] m zero h high = tt
    highs [] m (suc i) h high = tt
    highs (e ∷ es) m zero h high = all_high (e ∷ es) m (λ k d l. high k d (omega arith) l)
    highs (e ∷ es) m (suc i) h high = highs es (drop e.len m) i (omega arith) (λ k d j l. high (suc k) d (omega arith) (omega arith))

pub none_of : (es : List Row) (m : List ℕ) (s : ℕ) → ((k : ℕ) (d : Row) → k < length es → sender (get_or es k d) ≡ s → ⊥) → Apart s (cut es m)
none_of [] m s h = tt
none_of (e ∷ es) m s h = (h 0 e (omega arith), none_of es (drop e.len m) s (λ k d l. h (suc k) d (omega arith)))
