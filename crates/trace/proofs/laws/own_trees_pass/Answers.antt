use Rattle.trace.proofs.Own.{own_trees_pass_lem}
use Rattle.trace.proofs.laws.own_trees_pass.Goals as goal

pub returns : goal.returns
returns g c = own_trees_pass_lem g.row.K-Value.Denot
