use Rattle.std.proofs.Common.{sym, ◌∙◌, arith}
use Rattle.row_stack.proofs.Cells.{filled_step, filled_end}
use Rattle.row_stack.proofs.rows.fill_cells.Goals as goal

pub loop-cell-preserved : goal.loop-cell-preserved
loop-cell-preserved g c = filled_step c.loop-cell.cells c.loop-cell.cell-index c.args.v (omega arith) ∙ c.loop-cell.invariant

pub returns : goal.returns
returns g c = sym (filled_end c.loop-cell.cells c.loop-cell.cell-index c.args.v (omega arith)) ∙ c.loop-cell.invariant
