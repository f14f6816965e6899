-- The cells of rows, and rows made cell by cell.
use Rattle.std.proofs.Common.{◌≡◌, ℕ, ◌+◌, ◌<◌, ◌≤◌, Bool, List, [], ◌∷◌, length, get_or, drop, sym, refl, ◌∙◌, subst, arith, length-drop, length-take-le, get_or-drop, get_or-take}
use Rattle.row_stack.specs.declared.row_stack.RowStack.{RowStack}
use Rattle.row_stack.specs.Rows.{row, applied, chosen}

-- the cells of a row
pub row_long : {V : Type 0} (s : RowStack V) (at : ℕ) → at + s.width ≤ length s.cells.now → length (row s at) ≡ s.width
row_long s at room = length-take-le s.width (drop at s.cells.now) (subst (λ (n : ℕ). s.width ≤ n) (sym (length-drop at s.cells.now)) (omega arith))

pub row_cell : {V : Type 0} (s : RowStack V) (at i : ℕ) (d : V) → i < s.width → get_or (row s at) i d ≡ get_or s.cells.now (at + i) d
row_cell s at i d h = get_or-take s.width (drop at s.cells.now) i d h ∙ get_or-drop at s.cells.now i d

-- rows made cell by cell
module _ {V : Type 0} (f : V → V → V) where
  pub applied_long : (xs ys : List V) → length xs ≡ length ys → length (applied f xs ys) ≡ length xs
  applied_long [] ys e = refl
  applied_long (x ∷ xs) [] e = absurd (omega (arith, e))
  applied_long (x ∷ xs) (y ∷ ys) e = let i = applied_long xs ys (omega (arith, e)) in omega (arith, i)

module _ {V : Type 0} (truth : V → Bool) where
  pub chosen_long : (xs ys zs : List V) → length xs ≡ length ys → length xs ≡ length zs → length (chosen truth xs ys zs) ≡ length xs
  chosen_long [] ys zs e f = refl
  chosen_long (x ∷ xs) [] zs e f = absurd (omega (arith, e))
  chosen_long (x ∷ xs) (y ∷ ys) [] e f = absurd (omega (arith, f))
  chosen_long (x ∷ xs) (y ∷ ys) (z ∷ zs) e f = let i = chosen_long xs ys zs (omega (arith, e)) (omega (arith, f)) in omega (arith, i)

-- the same of rows of a stack
module _ {V : Type 0} (s : RowStack V) (a b : ℕ) (ra : a + s.width ≤ length s.cells.now) (rb : b + s.width ≤ length s.cells.now) where
  pub rows_applied_long : (f : V → V → V) → length (applied f (row s a) (row s b)) ≡ s.width
  rows_applied_long f = applied_long f (row s a) (row s b) (row_long s a ra ∙ sym (row_long s b rb)) ∙ row_long s a ra

  pub rows_chosen_long : (truth : V → Bool) (c : ℕ) → c + s.width ≤ length s.cells.now → length (chosen truth (row s a) (row s b) (row s c)) ≡ s.width
  rows_chosen_long truth c rc =
      chosen_long truth (row s a) (row s b) (row s c) (row_long s a ra ∙ sym (row_long s b rb)) (row_long s a ra ∙ sym (row_long s c rc)) ∙ row_long s a ra
