use Rattle.std.proofs.Common.{◌+◌, ◌-◌, take, drop, ◌∙◌, sym, arith, length-drop, length-take-le}
use Rattle.row_stack.specs.Rows.{chosen}
use Rattle.row_stack.proofs.Laying.{chosen_long}
use Rattle.row_stack.proofs.Cells.{piece_is, fellow_is, put_front}
use Rattle.row_stack.proofs.rows.choose_rows.Goals as goal

pub returns : goal.returns
returns g c =
    let truth = g.K.Kind.meaning.truth in
    let cells = c.args.cells.now in
    let at = c.args.at in
    let end = at + c.args.width in
    let y = c.args.yes in
    let z = c.args.no in
    let w = c.args.width in
    let s = c.split_at_mut-front in
    let front = s.result.0.now in
    let back = s.result.1.now in
    let split = s.ensures.value in
    let long = length-take-le w (drop at cells) (let l = length-drop at cells in omega arith) in
    let one = length-take-le w (drop y cells) (let l = length-drop y cells in omega arith) in
    let other = length-take-le w (drop z cells) (let l = length-drop z cells in omega arith) in
    put_front cells front back split at w (end - at) c.choose_cells.new.cells
    (chosen truth (take w (drop at cells)) (take w (drop y cells)) (take w (drop z cells)))
    (omega arith) (omega arith)
    (c.choose_cells.ensures
    ∙ (λ j. chosen truth
    (piece_is cells front back split at w (end - at) (omega arith) (omega arith) j)
    (fellow_is cells front back split y (y - end) w (y - end + w - (y - end)) (omega arith) (omega arith) j)
    (fellow_is cells front back split z (z - end) w (z - end + w - (z - end)) (omega arith) (omega arith) j)))
    (chosen_long truth (take w (drop at cells)) (take w (drop y cells)) (take w (drop z cells)) (long ∙ sym one) (long ∙ sym other) ∙ long)
