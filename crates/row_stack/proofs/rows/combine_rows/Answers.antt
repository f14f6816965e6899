use Rattle.std.proofs.Common.{◌+◌, ◌-◌, take, drop, refl, ◌∙◌, sym, arith, length-drop, length-take-le}
use Rattle.row_stack.specs.Rows.{applied}
use Rattle.row_stack.proofs.Laying.{applied_long}
use Rattle.row_stack.proofs.Cells.{piece_is, fellow_is, put_front}
use Rattle.row_stack.proofs.rows.combine_rows.Goals as goal

pub returns : goal.returns
returns g c =
    let f = g.K.Kind.meaning.apply c.args.op in
    let cells = c.args.cells.now in
    let at = c.args.at in
    let second = c.args.second in
    let w = c.args.width in
    let s = c.split_at_mut-front in
    let front = s.result.0.now in
    let back = s.result.1.now in
    let long = length-take-le w (drop at cells) (let l = length-drop at cells in omega arith) in
    let other = length-take-le w (drop second cells) (let l = length-drop second cells in omega arith) in
    put_front cells front back s.ensures.value at w (at + w - at) c.combine_cells.new.cells
    (applied f (take w (drop at cells)) (take w (drop second cells)))
    (omega arith) (omega arith)
    (c.combine_cells.ensures ∙ (λ j. applied f (piece_is cells front back s.ensures.value at w (at + w - at) (omega arith) (omega arith) j) (fellow_is cells front back s.ensures.value second 0 w w (omega arith) refl j)))
    (applied_long f (take w (drop at cells)) (take w (drop second cells)) (long ∙ sym other) ∙ long)
