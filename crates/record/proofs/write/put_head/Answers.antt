use Rattle.std.proofs.Common.{◌+◌, ◌*◌, ap, ◌∙◌}
use Rattle.record.specs.Fields.{pair_of}
use Rattle.record.proofs.Grows.{puts_after, puts_is}
use Rattle.record.proofs.write.put_head.Goals as goal

pub returns : goal.returns
returns g c = puts_after (puts_is (ap (λ w. pair_of (3 + w + c.args.count * (2 + w))) (c.WIDTH-width.ensures ∙ g.met.K.Kind.width_is)) c.pair.ensures) (puts_after c.pair-2.ensures (puts_after c.put_value.ensures c.put.ensures))
