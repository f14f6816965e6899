use Rattle.record.proofs.Agreement.{agrees_as_said}
use Rattle.record.proofs.laws.agreement_is_by_what_is_said.Goals as goal

pub returns : goal.returns
returns g c = agrees_as_said
