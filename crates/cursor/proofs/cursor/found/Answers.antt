use Rattle.std.proofs.Common.{option_map, option_and_then, sym, ap, ◌∙◌, eq-eqb, ne_eqb}
use Rattle.record.specs.Forms.{reads_at}
use Rattle.record.specs.Shapes.{shown, shape_at}
use Rattle.cursor.specs.Cursors.{head_has, said_value, said_choice, chooses}
use Rattle.cursor.proofs.Saying.{made_of, nothing_said, value_said, choice_said}
use Rattle.cursor.proofs.cursor.found.Goals as goal

pub returns-in_err-here-clause-value : goal.returns-in_err-here-clause-value
returns-in_err-here-clause-value g c = λ rs low number readable stands le body.
    let here = c.seek-at.ensures.stands rs low readable stands le in
    let silent = nothing_said g.K.Kind.meaning g.met.K.Kind.lawful readable here c.seek-at.ensures.stops (ap (head_has c.args.place) c.in_err-here.ensures.is) number in
    ap (λ r. option_and_then (reads_at g.K.Kind.meaning number) (option_map shown r)) c.from_residual.ensures ∙ sym (ap said_value silent)

pub returns-in_err-here-clause-choice : goal.returns-in_err-here-clause-choice
returns-in_err-here-clause-choice g c = λ rs low number readable stands le body.
    let here = c.seek-at.ensures.stands rs low readable stands le in
    let silent = nothing_said g.K.Kind.meaning g.met.K.Kind.lawful readable here c.seek-at.ensures.stops (ap (head_has c.args.place) c.in_err-here.ensures.is) number in
    ap (λ r. option_and_then chooses (option_map shown r)) c.from_residual.ensures ∙ sym (ap said_choice silent)

pub returns-then-here-place-clause-value : goal.returns-then-here-place-clause-value
returns-then-here-place-clause-value g c = λ rs low number readable stands le body.
    let here = c.seek-at.ensures.stands rs low readable stands le in
    let apart = sym (ne_eqb c.in_ok-here.here c.args.place c.if-here-place.true) ∙ ap (head_has c.args.place) c.in_ok-here.ensures.is in
    sym (ap said_value (nothing_said g.K.Kind.meaning g.met.K.Kind.lawful readable here c.seek-at.ensures.stops apart number))

pub returns-then-here-place-clause-choice : goal.returns-then-here-place-clause-choice
returns-then-here-place-clause-choice g c = λ rs low number readable stands le body.
    let here = c.seek-at.ensures.stands rs low readable stands le in
    let apart = sym (ne_eqb c.in_ok-here.here c.args.place c.if-here-place.true) ∙ ap (head_has c.args.place) c.in_ok-here.ensures.is in
    sym (ap said_choice (nothing_said g.K.Kind.meaning g.met.K.Kind.lawful readable here c.seek-at.ensures.stops apart number))

pub returns-clause-value : goal.returns-clause-value
returns-clause-value g c = λ rs low number readable stands le body.
    let here = c.seek-at.ensures.stands rs low readable stands le in
    let has = sym (eq-eqb c.in_ok-here.here c.args.place c.if-here-place.false) ∙ ap (head_has c.args.place) c.in_ok-here.ensures.is in
    let read = reads_at g.K.Kind.meaning number in
    ap (λ r. option_and_then read (option_map shown r)) c.ok.ensures.value ∙ made_of read c.record_at.result
    ∙ value_said g.K.Kind.meaning g.met.K.Kind.lawful readable here c.seek-at.ensures.stops has number _ (c.WIDTH.ensures ∙ g.met.K.Kind.width_is) _ (c.record_at.ensures.is ∙ ap (λ b. shape_at b c.WIDTH.result c.args.tree.now c.seek-at.result) body)

pub returns-clause-choice : goal.returns-clause-choice
returns-clause-choice g c = λ rs low number readable stands le body.
    let here = c.seek-at.ensures.stands rs low readable stands le in
    let has = sym (eq-eqb c.in_ok-here.here c.args.place c.if-here-place.false) ∙ ap (head_has c.args.place) c.in_ok-here.ensures.is in
    ap (λ r. option_and_then chooses (option_map shown r)) c.ok.ensures.value ∙ made_of chooses c.record_at.result
    ∙ choice_said g.K.Kind.meaning g.met.K.Kind.lawful readable here c.seek-at.ensures.stops has number _ (c.WIDTH.ensures ∙ g.met.K.Kind.width_is) _ (c.record_at.ensures.is ∙ ap (λ b. shape_at b c.WIDTH.result c.args.tree.now c.seek-at.result) body)
