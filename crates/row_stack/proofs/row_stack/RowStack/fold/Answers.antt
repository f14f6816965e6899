use Rattle.std.proofs.Common.{replicate, ap, ◌∙◌, subst}
use Rattle.row_stack.specs.Rows.{Laid, gathered, own_cell}
use Rattle.row_stack.proofs.Cells.{gathered_is, senders_are}
use Rattle.row_stack.proofs.row_stack.RowStack.fold.Goals as goal

pub returns : goal.returns
returns g c =
    let s = c.args.self.now in
    let f = g.K.Kind.meaning.apply c.args.op in
    let flags = c.args.aligned.now in
    let own = own_cell g.K.Kind.meaning s c.args.second in
    subst (λ v. Laid s c.fill.new.self c.args.at (replicate s.width v))
    (c.gather-v.ensures ∙ gathered_is f flags _ own ∙ ap (λ xs. gathered f flags xs own) (senders_are s.cells.now c.args.at s.width c.requires.wide))
    c.fill.ensures
