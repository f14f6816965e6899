use Rattle.trace.proofs.Stays.{limits_stay_lem}
use Rattle.trace.proofs.laws.limits_stay.Goals as goal

pub returns : goal.returns
returns g c = limits_stay_lem g.row.K-Value.Denot
