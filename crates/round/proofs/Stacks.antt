-- Rows that stay and rows that are laid.
use Rattle.std.proofs.Common.{◌≡◌, ℕ, zero, suc, ◌+◌, ◌-◌, ◌<◌, ◌≤◌, Bool, false, cond, List, [], ◌∷◌, ◌++◌, map, length, get_or, take, drop, replicate, sym, refl, ap, ◌∙◌, subst, ⊎_elim, append_assoc, arith, length-take, take-take, take_at}
use lib.Seq.{paste, length-paste, take-paste}
use Rattle.std.proofs.lemmas.List.{drop-take, length-map, length_push, get_or_append_left, get_or_push}
use Rattle.std.proofs.lemmas.Bool.{cases_lt}
use Rattle.kind.specs.Kind.{Meaning}
use Rattle.row_stack.specs.declared.row_stack.RowStack.{RowStack}
use Rattle.row_stack.specs.Rows.{row, Laid, applied, chosen, gathered}
use Rattle.row_stack.proofs.Laying.{row_cell}
use Rattle.rules.specs.Rules.{Spot, at, Field, Sender, Given, senders, everywhere, folded}
use Rattle.record.specs.Trees.{Rec, place_of}
use Rattle.cursor.specs.Cursors.{Stands}
use Rattle.hearing.specs.declared.inputs.Inputs.{Inputs}
use Rattle.hearing.specs.declared.cursors.Cursors.{Cursors}
use Rattle.hearing.specs.Hearing.{spots, Standing}
use Rattle.std.proofs.ByRecursion.{All-weaker}
use Rattle.steps.specs.declared.frame.Frame.{Frame}
use Rattle.steps.specs.Frames.{row_of, row_after, Longer, Below, Framed}
use Rattle.round.specs.Machines.{Kept, RowsAt}

-- a part below a cut
pub part_below : {A : Type 0} (w a b : ℕ) (xs : List A) → a + w ≤ b → take w (drop a (take b xs)) ≡ take w (drop a xs)
part_below w a b xs h =
    let e : b ≡ a + (b - a) = omega arith in
    ap (λ (n : ℕ). take w (drop a (take n xs))) e
    ∙ ap (take w) (drop-take a (b - a) xs)
    ∙ take-take w (b - a) (drop a xs) (omega arith)

module _ {V : Type 0} where
  pub kept_same : (s : RowStack V) (base : ℕ) → Kept s s base
  kept_same s base = record { lender = refl; width = refl; long = refl; below = refl }

  pub kept_lower : {s t : RowStack V} {b : ℕ} (a : ℕ) → Kept s t b → a ≤ b → Kept s t a
  kept_lower {s} {t} {b} a h l = record {
    lender = h.lender;
    width = h.width;
    long = h.long;
    below = sym (take-take a b t.cells.now l) ∙ ap (take a) h.below ∙ take-take a b s.cells.now l;
  }

  pub kept_then : {s t u : RowStack V} {a b : ℕ} → Kept s t a → Kept t u b → a ≤ b → Kept s u a
  kept_then {s} {t} {u} {a} {b} h k l = let j = kept_lower a k l in record {
    lender = k.lender ∙ h.lender;
    width = k.width ∙ h.width;
    long = k.long ∙ h.long;
    below = j.below ∙ h.below;
  }

  -- a row below the cut stays
  pub row_kept : {s t : RowStack V} {b : ℕ} (a : ℕ) → Kept s t b → a + s.width ≤ b → row t a ≡ row s a
  row_kept {s} {t} {b} a h l =
      ap (λ (w : ℕ). take w (drop a t.cells.now)) h.width
      ∙ sym (part_below s.width a b t.cells.now l)
      ∙ ap (λ (xs : List V). take s.width (drop a xs)) h.below
      ∙ part_below s.width a b s.cells.now l

  rows_far : (t : RowStack V) (base : ℕ) (xss : List (List V)) → base ≤ row_after t.width base (length xss)
  rows_far t base [] = omega arith
  rows_far t base (xs ∷ xss) = let h = rows_far t (base + t.width) xss in omega arith

  -- rows below the cut stay
  pub rows_kept : {s t : RowStack V} {b : ℕ} (base : ℕ) (xss : List (List V)) → Kept s t b → row_after s.width base (length xss) ≤ b → RowsAt s base xss → RowsAt t base xss
  rows_kept {s} {t} {b} base [] h l r = tt
  rows_kept {s} {t} {b} base (xs ∷ xss) h l r =
      let far = rows_far s (base + s.width) xss in
      let e : base + s.width ≡ base + t.width = ap (λ (w : ℕ). base + w) (sym h.width) in
      (row_kept base h (omega arith) ∙ r.0, subst (λ (n : ℕ). RowsAt t n xss) e (rows_kept (base + s.width) xss h l r.1))

  -- a row that was laid
  pub laid_kept : {s t : RowStack V} {a : ℕ} {xs : List V} → Laid s t a xs → a + s.width ≤ length s.cells.now → length xs ≡ s.width → Kept s t a
  laid_kept {s} {t} {a} {xs} h room long =
      let w = s.width in
      let c = s.cells.now in
      let n : w ≤ length xs = omega arith in
      let la : length (take a c) ≡ a = simp length-take (omega arith) in
      record {
        lender = h.lender;
        width = h.width;
        long = ap length h.cells ∙ length-paste c a xs w room n;
        below = ap (take a) h.cells ∙ ap (take a) (append_assoc (take a c) (take w xs) (drop (a + w) c)) ∙ take_at (take a c) (take w xs ++ drop (a + w) c) a la;
      }

  pub laid_row : {s t : RowStack V} {a : ℕ} {xs : List V} → Laid s t a xs → a + s.width ≤ length s.cells.now → length xs ≡ s.width → row t a ≡ xs
  laid_row {s} {t} {a} {xs} h room long =
      let w = s.width in
      let c = s.cells.now in
      let n : w ≤ length xs = omega arith in
      let la : length (take a c) ≡ a = simp length-take (omega arith) in
      let all : take w xs ≡ xs = take_whole w xs (omega arith) in
      ap (λ (v : ℕ). take v (drop a t.cells.now)) h.width
      ∙ ap (λ (l : List V). take w (drop a l)) h.cells
      ∙ sym (drop-take a w (paste c a xs w))
      ∙ ap (drop a) (take-paste c a xs w (omega arith) n)
      ∙ drop_front (take a c) (take w xs) a la
      ∙ all
    where
      take_whole : (w : ℕ) (xs : List V) → length xs ≤ w → take w xs ≡ xs
      take_whole zero [] l = refl
      take_whole zero (x ∷ xs) l = absurd (omega arith)
      take_whole (suc w) [] l = refl
      take_whole (suc w) (x ∷ xs) l = ap (λ (r : List V). x ∷ r) (take_whole w xs (omega arith))

      drop_front : (xs ys : List V) (n : ℕ) → length xs ≡ n → drop n (xs ++ ys) ≡ ys
      drop_front [] ys zero e = refl
      drop_front [] ys (suc n) e = absurd (omega arith)
      drop_front (x ∷ xs) ys zero e = absurd (omega arith)
      drop_front (x ∷ xs) ys (suc n) e = drop_front xs ys n (omega arith)

-- ROWS OF FIELDS
module _ {V : Type 0} where
  pub row_everywhere : (v : V) (sp : List Spot) (w : ℕ) → length sp ≡ w → replicate w v ≡ map (everywhere v) sp
  row_everywhere v [] w e = ap (λ (n : ℕ). replicate n v) (sym e)
  row_everywhere v (s ∷ sp) w e = ap (λ (n : ℕ). replicate n v) (sym e) ∙ ap (λ (l : List V). v ∷ l) (row_everywhere v sp (length sp) refl)

  pub row_applied : (f : V → V → V) (x y : Field V) (sp : List Spot) → applied f (map x sp) (map y sp) ≡ map (λ s. f (x s) (y s)) sp
  row_applied f x y [] = refl
  row_applied f x y (s ∷ sp) = ap (λ (l : List V). f (x s) (y s) ∷ l) (row_applied f x y sp)

  pub row_chosen : (truth : V → Bool) (x y z : Field V) (sp : List Spot) → chosen truth (map x sp) (map y sp) (map z sp) ≡ map (λ s. cond (truth (x s)) (y s) (z s)) sp
  row_chosen truth x y z [] = refl
  row_chosen truth x y z (s ∷ sp) = ap (λ (l : List V). cond (truth (x s)) (y s) (z s) ∷ l) (row_chosen truth x y z sp)

  -- the cell of the own number
  pub own_at : (s : RowStack V) (base : ℕ) (g : Given V) (f : Field V) (d : V) → 2 ≤ s.width → row s base ≡ row_of g f → get_or s.cells.now (base + 1) d ≡ f (at g.number)
  own_at s base g f d w e = sym (row_cell s base 1 d (omega arith)) ∙ ap (λ (l : List V). get_or l 1 d) e

-- how many cells a row has
pub senders_long : {V : Type 0} (ss : List (Sender V)) → length (senders ss) ≡ length ss
senders_long [] = refl
senders_long (s ∷ ss) = ap suc (senders_long ss)

pub spots_long : {V : Type 0} (g : Given V) → length (spots g) ≡ 2 + length g.held
spots_long g = let a = length-map (senders g.held) at in let b = senders_long g.held in omega arith

-- gathering over the flags is folding over the aligned senders
pub row_gathered : {V : Type 0} (o : V → V → V) (al : ℕ → Bool) (f : Field V) (ss : List (Sender V)) (flags : List Bool) (v : V)
    → ((j : ℕ) (d : Sender V) → j < length ss → get_or flags j false ≡ al (get_or ss j d).number)
    → length ss ≤ length flags
    → gathered o flags (map f (map at (senders ss))) v ≡ folded o al f v (senders ss)
row_gathered o al f [] flags v h l = refl
row_gathered o al f (s ∷ ss) [] v h l = absurd (omega arith)
row_gathered o al f (s ∷ ss) (b ∷ flags) v h l =
    let e : b ≡ al s.number = h 0 s (omega arith) in
    ap (λ (c : Bool). gathered o flags (map f (map at (senders ss))) (cond c (o v (f (at s.number))) v)) e
    ∙ row_gathered o al f ss flags _ (λ j d k. h (suc j) d (omega arith)) (omega arith)

-- FRAMES
pub below_later : {f : Frame} {a w : ℕ} (b v : ℕ) → Below f a w → a ≤ b → v ≡ w → Below f b v
below_later b v h l e = record { rows = λ i lt. let k = h.rows i lt in omega arith }

pub below_longer : {f f' : Frame} {a w : ℕ} (b v : ℕ) → Below f a w → Longer f f' a → a + w ≤ b → v ≡ w → Below f' b v
below_longer {f} {f'} {a} {w} b v h lo l e = record {
  rows = λ i lt.
      ⊎_elim
      (λ (n : i < f.count). let o = lo.old i n in let k = h.rows i n in omega arith)
      (λ (n : f.count ≤ i). let q : i ≡ f.count = omega arith in let o = ap (λ (j : ℕ). get_or f'.rows j 0) q ∙ lo.new in omega arith)
      (cases_lt i f.count);
}

module _ {V : Type 0} (k : Meaning V) (g : Given V) where
  pub framed_kept : {f : Frame} {s t : RowStack V} {b : ℕ} {env : List (Field V)} → Framed k g f s env → Below f b s.width → Kept s t b → Framed k g f t env
  framed_kept {f} {s} {t} {b} {env} fr lo h = record {
    count_is = fr.count_is;
    rows = λ i lt. let c = fr.count_is in row_kept (get_or f.rows i 0) h (lo.rows i (omega arith)) ∙ fr.rows i lt;
  }

  pub framed_longer : {f f' : Frame} {s t : RowStack V} {b : ℕ} {env : List (Field V)} (x : Field V)
      → Framed k g f s env → Below f b s.width → Kept s t b → Longer f f' b → row t b ≡ row_of g x → Framed k g f' t (env ++ (x ∷ []))
  framed_longer {f} {f'} {s} {t} {b} {env} x fr lo h ln e =
      let d : Field V = everywhere k.own in
      let all = length_push env x in
      let old = framed_kept fr lo h in
      record {
        count_is = omega arith;
        rows = λ i lt. ⊎_elim
            (λ (n : i < length env). ap (row t) (ln.old i (omega arith)) ∙ old.rows i n ∙ ap (row_of g) (sym (get_or_append_left env (x ∷ []) d i n)))
            (λ (n : length env ≤ i).
            let q : i ≡ f.count = omega arith in
            let l : length env ≡ i = omega arith in
            ap (row t) (ap (λ (j : ℕ). get_or f'.rows j 0) q ∙ ln.new) ∙ e ∙ ap (row_of g) (sym (get_or_push env x d i l)))
            (cases_lt i (length env));
      }

-- CURSORS stand at every later place too
stands_later : {V : Type 0} {k : Meaning V} {m : List ℕ} {rs : List (Rec V)} {low from : ℕ} (high : ℕ) → low ≤ high → Stands k m rs low from → Stands k m rs high from
stands_later {low = low} high l t = record {
  passed = t.passed;
  ahead = t.ahead;
  split = t.split;
  here = t.here;
  below = All-weaker (λ r. place_of r < low) (λ r. place_of r < high) (λ r h. omega arith) t.passed t.below;
}

pub standing_later : {V : Type 0} {k : Meaning V} {x : Inputs} {g : Given V} {low : ℕ} {c : Cursors} (high : ℕ) → Standing k x g low c → low ≤ high → Standing k x g high c
standing_later high s l = record { senders = λ j d h. stands_later high l (s.senders j d h); own = stands_later high l s.own }
