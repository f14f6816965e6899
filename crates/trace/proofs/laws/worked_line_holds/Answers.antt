use Rattle.trace.proofs.Cases.{worked_line}
use Rattle.trace.proofs.laws.worked_line_holds.Goals as goal

pub returns : goal.returns
returns g c = worked_line g.row.K-Value.Denot
