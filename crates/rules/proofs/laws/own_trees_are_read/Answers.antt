use Rattle.rules.proofs.Followed.{records_due, records_rise, own_trees_read}
use Rattle.rules.proofs.laws.own_trees_are_read.Goals as goal

pub returns : goal.returns
returns g c = record { due = records_due g.row.K-Value.Denot; rising = records_rise g.row.K-Value.Denot; read = own_trees_read g.row.K-Value.Denot }
