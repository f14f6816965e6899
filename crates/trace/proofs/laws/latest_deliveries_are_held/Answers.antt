use Rattle.trace.proofs.Held.{latest_deliveries_held}
use Rattle.trace.proofs.laws.latest_deliveries_are_held.Goals as goal

pub returns : goal.returns
returns g c = latest_deliveries_held g.row.K-Value.Denot
