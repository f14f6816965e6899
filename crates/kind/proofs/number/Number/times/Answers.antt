use Rattle.std.proofs.Common.{ap, ◌∙◌}
use Rattle.kind.specs.Numbers.{nearest}
use Rattle.kind.proofs.Integers.{mag_range, product_is}
use Rattle.kind.proofs.number.Number.times.Goals as goal

pub returns : goal.returns
returns c =
    let a = c.args.self in
    let b = c.args.other in
    c.nearest.ensures ∙ ap nearest (product_is a.value b.value (mag_range a.value a.range) (mag_range b.value b.range))
