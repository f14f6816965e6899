use Rattle.rules.proofs.Isolation.{isolation}
use Rattle.rules.proofs.laws.one_round_is_isolated.Goals as goal

pub returns : goal.returns
returns g c = isolation g.row.K-Value.Denot
