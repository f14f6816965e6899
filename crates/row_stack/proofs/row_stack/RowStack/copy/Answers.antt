use Rattle.std.proofs.Common.{◌≡◌, ℕ, ◌+◌, ◌-◌, List, ◌++◌, take, drop, sym, refl, ap, ◌∙◌, arith, take-take}
use lib.Seq.{paste}
use Rattle.row_stack.proofs.row_stack.RowStack.copy.Goals as goal

pub returns : goal.returns
returns g c =
    let s = c.args.self.now in
    let cells = s.cells.now in
    let from = c.args.from in
    let at = c.args.at in
    let w = s.width in
    let long : from + w - from ≡ w = omega arith in
    record {
      lender = refl;
      width = refl;
      cells =
          c.copy_within.ensures.after
          ∙ ap (λ (n : ℕ). paste cells at (drop from cells) n) long
          ∙ ap (λ (r : List _). take at cells ++ r ++ drop (at + w) cells) (sym (take-take w w (drop from cells) (omega arith)));
    }
