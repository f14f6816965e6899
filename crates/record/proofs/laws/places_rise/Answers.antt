use Rattle.record.proofs.Places.{places_rise_lem}
use Rattle.record.proofs.laws.places_rise.Goals as goal

pub returns : goal.returns
returns g c = λ k. places_rise_lem k
