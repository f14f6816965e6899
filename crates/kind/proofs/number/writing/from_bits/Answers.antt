use Rattle.std.proofs.Common.{refl}
use Rattle.kind.specs.NumberLaws.{in_range_none, in_range_some}
use Rattle.kind.proofs.number.writing.from_bits.Goals as goal

pub returns-then-value : goal.returns-then-value
returns-then-value c = in_range_none c.args.bits c.cast_signed-value.result c.ranges.bits.fits c.cast_signed-value.ensures c.if-value.true

pub returns-else-value : goal.returns-else-value
returns-else-value c = in_range_some c.args.bits c.cast_signed-value.result _ c.ranges.bits.fits c.cast_signed-value.ensures c.if-value.false refl
