use Rattle.std.proofs.Common.{get_or, sym, ap, ◌∙◌, arith}
use Rattle.row_stack.proofs.Cells.{applied_step, applied_end}
use Rattle.row_stack.proofs.rows.combine_cells.Goals as goal

pub loop-i-preserved : goal.loop-i-preserved
loop-i-preserved g c =
    let f = g.K.Kind.meaning.apply c.args.op in
    applied_step f c.loop-i.cells c.args.others.now c.loop-i.i c.index-cells-i.result c.index-others-i.result c.apply.result (omega arith) (omega arith) (c.apply.ensures ∙ ap (λ y. f (get_or c.loop-i.cells c.loop-i.i c.index-cells-i.result) y) c.index-others-i.is)
    ∙ c.loop-i.invariant

pub returns : goal.returns
returns g c = sym (applied_end (g.K.Kind.meaning.apply c.args.op) c.loop-i.cells c.args.others.now c.loop-i.i (omega arith)) ∙ c.loop-i.invariant
