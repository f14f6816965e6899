use Rattle.rules.proofs.Holding.{held_orderly}
use Rattle.rules.proofs.laws.held_senders_are_orderly.Goals as goal

pub returns : goal.returns
returns g c = held_orderly g.row.K-Value.Denot
