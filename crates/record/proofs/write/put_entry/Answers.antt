use Rattle.record.proofs.Grows.{puts_after}
use Rattle.record.proofs.write.put_entry.Goals as goal

pub returns : goal.returns
returns g c = puts_after c.pair.ensures c.put_value.ensures
