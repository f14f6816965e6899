use Rattle.std.proofs.Common.{refl}
use Rattle.kind.specs.LabelSetLaws.{labelled_is}
use Rattle.kind.proofs.label_set.operators.labelled.Goals as goal

pub returns : goal.returns
returns c = labelled_is c.args.bits _ c.requires refl
