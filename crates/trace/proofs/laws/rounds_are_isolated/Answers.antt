use Rattle.trace.proofs.Isolated.{rounds_isolated}
use Rattle.trace.proofs.laws.rounds_are_isolated.Goals as goal

pub returns : goal.returns
returns g c = rounds_isolated g.row.K-Value.Denot
