use Rattle.std.proofs.Common.{refl}
use Rattle.kind.specs.LabelSetLaws.{in_sixty_some}
use Rattle.kind.proofs.label_set.LabelSet.from_bits.Goals as goal

pub returns-then-bits-lt-NEXT_BIT : goal.returns-then-bits-lt-NEXT_BIT
returns-then-bits-lt-NEXT_BIT c = in_sixty_some c.args.bits _ c.if-bits-lt-NEXT_BIT.true refl
