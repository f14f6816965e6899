use Rattle.rules.proofs.Cases.{worked_cases}
use Rattle.rules.proofs.laws.worked_cases_hold.Goals as goal

pub returns : goal.returns
returns g c = worked_cases g.row.K-Value.Denot
