use Rattle.std.proofs.Common.{◌≡◌, ◌++◌, take, drop}
use Rattle.row_stack.specs.Rows.{applied}
use Rattle.row_stack.proofs.rows.combine_cells.Given as goal

abbrev pub invariant-loop-i : goal.invariant-loop-i
invariant-loop-i g l =
    let f = g.K.Kind.meaning.apply l.op in
    take l.i l.cells ++ applied f (drop l.i l.cells) (drop l.i l.others) ≡ applied f l.initial.cells l.others
