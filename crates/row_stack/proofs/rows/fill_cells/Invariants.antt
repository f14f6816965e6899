use Rattle.std.proofs.Common.{◌≡◌, ◌-◌, ◌++◌, length, replicate, take}
use Rattle.row_stack.proofs.rows.fill_cells.Given as goal

abbrev pub invariant-loop-cell : goal.invariant-loop-cell
invariant-loop-cell g l = take l.cell-index l.cells ++ replicate (length l.cells - l.cell-index) l.v ≡ replicate (length l.initial.cells) l.v
