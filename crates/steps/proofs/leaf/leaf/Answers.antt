use Rattle.std.proofs.Common.{ℕ, List, sym, ap, ◌∙◌}
use Rattle.hearing.specs.Cells.{value_in}
use Rattle.steps.proofs.Leaves.{literal_laid, sensor_laid, missing_laid, variable_laid}
use Rattle.steps.proofs.leaf.leaf.Goals as goal

pub returns-in-Literal : goal.returns-in-Literal
returns-in-Literal g c =
    let k = g.K.Kind.meaning in
    literal_laid k c.args.x.now c.args.frame.now c.args.rows.now c.fill.new.self c.args.base c.requires.wide
    c.args.e c.in-Literal.from c.value_in.result c.in-Literal.is c.requires.width
    (c.value_in.ensures ∙ ap (λ (bs : List ℕ). value_in k bs c.in-Literal.from) c.block.ensures) c.fill.ensures

pub returns-in-Some : goal.returns-in-Some
returns-in-Some g c =
    variable_laid g.K.Kind.meaning c.args.x.now c.args.frame.now c.args.rows.now c.copy.new.self c.args.base c.requires.wide
    c.args.e c.in-Variable.n c.in-Some.row c.in-Variable.is (sym c.row.ensures ∙ c.in-Some.is) c.requires.below c.requires.room c.copy.ensures

pub returns-in-None : goal.returns-in-None
returns-in-None g c =
    missing_laid g.K.Kind.meaning c.args.x.now c.args.frame.now c.args.rows.now c.fill-in-None.new.self c.args.base c.requires.wide
    c.args.e c.in-Variable.n c.OWN.result c.in-Variable.is (sym c.row.ensures ∙ c.in-None.is) (c.OWN.ensures ∙ g.met.K.Kind.own_is) c.fill-in-None.ensures

pub returns-in-Sensor : goal.returns-in-Sensor
returns-in-Sensor g c =
    sensor_laid g.K.Kind.meaning c.args.x.now c.args.frame.now c.args.rows.now c.fill-in-Sensor.new.self c.args.base c.requires.wide
    c.args.e c.in-Sensor.n c.reading.result c.in-Sensor.is c.reading.ensures c.fill-in-Sensor.ensures
