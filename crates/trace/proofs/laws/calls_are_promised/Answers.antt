use Rattle.trace.proofs.Promised.{calls_promised}
use Rattle.trace.proofs.laws.calls_are_promised.Goals as goal

pub returns : goal.returns
returns g c = calls_promised g.row.K-Value.Denot
