use Rattle.std.proofs.Common.{refl}
use Rattle.node.proofs.Arriving.{two_parts}
use Rattle.node.proofs.node.delivery.join.Goals as goal

pub returns : goal.returns
returns c = record {
  long = refl;
  joined = two_parts c.args.link.now c.args.message.now c.copy_from_slice.new.self c.copy_from_slice-2.new.self _ c.copy_from_slice.ensures.after c.copy_from_slice-2.ensures.after;
}
