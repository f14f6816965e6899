use Rattle.rules.proofs.Elsewhere.{values_same_elsewhere}
use Rattle.rules.proofs.laws.values_are_same_elsewhere.Goals as goal

pub returns : goal.returns
returns g c = values_same_elsewhere g.row.K-Value.Denot
