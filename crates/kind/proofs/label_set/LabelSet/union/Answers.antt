use lib.Bits.{or_lt}
use Rattle.kind.proofs.label_set.LabelSet.union.Goals as goal

pub labelled-requires : goal.labelled-requires
labelled-requires c = or_lt 60 c.args.self.bits c.args.other.bits c.args.self.sixty c.args.other.sixty
