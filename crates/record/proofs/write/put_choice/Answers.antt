use Rattle.std.proofs.Common.{ℕ, [], ◌∷◌, ap}
use Rattle.record.proofs.Grows.{puts_after, puts_is, bit_is}
use Rattle.record.proofs.write.put_choice.Goals as goal

pub returns : goal.returns
returns g c = puts_after c.pair.ensures (puts_after c.pair-2.ensures (puts_is (ap (λ (z : ℕ). z ∷ []) (bit_is c.args.first)) c.put.ensures))
