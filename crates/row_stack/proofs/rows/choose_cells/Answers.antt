use Rattle.std.proofs.Common.{◌≡◌, Bool, cond, get_or, sym, ap, ◌∙◌, arith}
use Rattle.row_stack.proofs.Cells.{chosen_step, chosen_end}
use Rattle.row_stack.proofs.rows.choose_cells.Goals.{then-truth, else-truth}
use Rattle.row_stack.proofs.rows.choose_cells.Goals as goal

pub loop-i-preserved : goal.loop-i-preserved
loop-i-preserved g c =
    let truth = g.K.Kind.meaning.truth in
    let i = c.loop-i.i in
    let v = c.if-truth.cell in
    let ys = c.args.yes.now in
    let ns = c.args.no.now in
    let is : v ≡ cond c.truth.result (get_or ys i v) (get_or ns i v) =
    elim c.if-truth.branch [
      | then-truth w ↦ let t = w.if-truth.true in let e = w.cell-is in let h = w.index-yes-i.is in rw t (e ∙ h ∙ ap (λ d. get_or ys i d) (sym e))
      | else-truth w ↦ let t = w.if-truth.false in let e = w.cell-is in let h = w.index-no-i.is in rw t (e ∙ h ∙ ap (λ d. get_or ns i d) (sym e))
    ] in
    chosen_step truth c.loop-i.cells ys ns i c.index-cells-i.result v (omega arith) (omega arith) (omega arith) (is ∙ ap (λ (b : Bool). cond b (get_or ys i v) (get_or ns i v)) c.truth.ensures)
    ∙ c.loop-i.invariant

pub returns : goal.returns
returns g c = sym (chosen_end g.K.Kind.meaning.truth c.loop-i.cells c.args.yes.now c.args.no.now c.loop-i.i (omega arith)) ∙ c.loop-i.invariant
