use Rattle.std.proofs.Common.{◌≡◌, ◌++◌, take, drop}
use Rattle.row_stack.specs.Rows.{chosen}
use Rattle.row_stack.proofs.rows.choose_cells.Given as goal

abbrev pub invariant-loop-i : goal.invariant-loop-i
invariant-loop-i g l =
    let truth = g.K.Kind.meaning.truth in
    take l.i l.cells ++ chosen truth (drop l.i l.cells) (drop l.i l.yes) (drop l.i l.no) ≡ chosen truth l.initial.cells l.yes l.no
