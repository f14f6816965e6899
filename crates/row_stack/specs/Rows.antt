-- Rows of cells, and what laying a row does. Assumes nothing.
use Rattle.std.specs.Prelude.{◌≡◌, ℕ, ◌+◌, Bool, cond, List, [], ◌∷◌, take, drop, slice_index_or}
use Rattle.std.proofs.Math.Seq.{paste}
use Rattle.kind.specs.Kind.{Meaning}
use Rattle.row_stack.specs.declared.row_stack.RowStack.{RowStack}

-- the row whose first cell has this index
abbrev pub row : {V : Type 0} → RowStack V → ℕ → List V
row s at = take s.width (drop at s.cells.now)

-- s has become t: xs lies in the cells of the row at `at`, and all other cells are as they were. The cells are still
-- those that were lent
pub record Laid {V : Type 0} (s t : RowStack V) (at : ℕ) (xs : List V) : Type 0 where
  pub lender : t.cells.ghost_name ≡ s.cells.ghost_name
  pub width : t.width ≡ s.width
  pub cells : t.cells.now ≡ paste s.cells.now at xs s.width

-- cell by cell: a function of two rows, and one of two rows by the truth of a third
abbrev pub applied : {V : Type 0} → (V → V → V) → List V → List V → List V
applied f [] ys = []
applied f (x ∷ xs) [] = []
applied f (x ∷ xs) (y ∷ ys) = f x y ∷ applied f xs ys

abbrev pub chosen : {V : Type 0} → (V → Bool) → List V → List V → List V → List V
chosen truth [] ys zs = []
chosen truth (x ∷ xs) [] zs = []
chosen truth (x ∷ xs) (y ∷ ys) [] = []
chosen truth (x ∷ xs) (y ∷ ys) (z ∷ zs) = cond (truth x) y z ∷ chosen truth xs ys zs

-- the cell of the own number (every row has it), and the cells of the senders
abbrev pub own_cell : {V : Type 0} → Meaning V → RowStack V → ℕ → V
own_cell k s at = slice_index_or s.cells.now (at + 1) k.own

abbrev pub sender_cells : {V : Type 0} → RowStack V → ℕ → List V
sender_cells s at = drop 2 (row s at)

-- v, and then what f makes of it and of each cell whose flag is set, one after the other
abbrev pub gathered : {V : Type 0} → (V → V → V) → List Bool → List V → V → V
gathered f flags [] v = v
gathered f [] (x ∷ xs) v = v
gathered f (b ∷ flags) (x ∷ xs) v = gathered f flags xs (cond b (f v x) v)
