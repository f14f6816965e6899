use Rattle.record.proofs.Weights.{weight_bounds, tree_fits}
use Rattle.record.proofs.laws.trees_fit.Goals as goal

pub returns : goal.returns
returns g c = record { weight = λ k laws. weight_bounds k laws; fits = λ k laws. tree_fits k laws }
