use Rattle.trace.proofs.Layers.{no_program_refused}
use Rattle.trace.proofs.laws.programs_are_accepted.Goals as goal

pub returns : goal.returns
returns g c = no_program_refused g.row.K-Value.Denot
