use lib.Bits.{bit_and, xor_lt, and_lt}
use Rattle.kind.proofs.label_set.LabelSet.without.Goals as goal

pub labelled-requires : goal.labelled-requires
labelled-requires c =
    let a = c.args.self in
    let b = c.args.other in
    xor_lt 60 a.bits (bit_and a.bits b.bits) a.sixty (and_lt 60 a.bits b.bits a.sixty b.sixty)
