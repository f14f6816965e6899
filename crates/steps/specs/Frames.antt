-- The rows of the variables in sight. Assumes nothing.
use Rattle.std.specs.Prelude.{◌≡◌, ℕ, zero, suc, ◌+◌, ◌<◌, ◌≤◌, cond, List, map, length, get_or, Some, None, Option, nat_lt, slice_index, slice_index_or}
use Rattle.kind.specs.Kind.{Meaning}
use Rattle.row_stack.specs.declared.row_stack.RowStack.{RowStack}
use Rattle.row_stack.specs.Rows.{row}
use Rattle.rules.specs.Rules.{Field, Given, everywhere}
use Rattle.hearing.specs.Hearing.{spots}
use Rattle.steps.specs.declared.frame.Frame.{Frame}

-- the row of a field
abbrev pub row_of : {V : Type 0} → Given V → Field V → List V
row_of g f = map f (spots g)

-- the row of a variable, if there is one of this number
abbrev pub found_row : Frame → ℕ → Option ℕ
found_row f i = cond (nat_lt i f.count) (Some (slice_index f.rows i)) None

-- f' is f with one row more
pub record Longer (f f' : Frame) (new_row : ℕ) : Type 0 where
  pub count : f'.count ≡ f.count + 1
  pub new : get_or f'.rows f.count 0 ≡ new_row
  pub old : (i : ℕ) → i < f.count → slice_index f'.rows i ≡ slice_index f.rows i

-- where the n-th of the rows of w cells from `base` on lies
abbrev pub row_after : ℕ → ℕ → ℕ → ℕ
row_after w base zero = base
row_after w base (suc n) = row_after w (base + w) n

-- the frame of a called body: its variables are the c rows from `base` on
pub record Arguments (f : Frame) (w base c : ℕ) : Type 0 where
  pub count : f.count ≡ c
  pub rows : (i : ℕ) → i < c → slice_index f.rows i ≡ row_after w base i

-- the row of each variable, of w cells, lies below `base`
pub record Below (f : Frame) (base w : ℕ) : Type 0 where
  pub rows : (i : ℕ) → i < f.count → slice_index f.rows i + w ≤ base

-- the row of each variable has its value
pub record Framed {V : Type 0} (k : Meaning V) (g : Given V) (f : Frame) (s : RowStack V) (env : List (Field V)) : Type 0 where
  pub count_is : f.count ≡ length env
  pub rows : (i : ℕ) → i < length env → row s (slice_index f.rows i) ≡ map (slice_index_or env i (everywhere k.own)) (spots g)
