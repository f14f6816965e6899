use Rattle.std.proofs.Common.{ℕ, ◌<◌, get_or}
use Rattle.hearing.proofs.rows.lay.Given as goal

abbrev pub invariant-loop-j : goal.invariant-loop-j
invariant-loop-j g l = (i : ℕ) (d : g.row.V.Denot) → i < l.j → goal.F-post g l.sender i (get_or l.cell-items i d)
