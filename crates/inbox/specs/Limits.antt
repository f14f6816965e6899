-- The check of a sender limit and a life. Assumes nothing.
use Rattle.std.specs.Prelude.{ℕ, cond, ◌&&◌, Ok, nat_le}
use Rattle.refusal.specs.declared.cause.Cause.TheVariants.{LimitRefused}
use Rattle.refusal.specs.Outcomes.{Outcome, refuse}
use Rattle.inbox.specs.Contents.{most_senders, longest_life}
use Rattle.inbox.specs.declared.limits.Limits.{Limits}

-- a checked pair: its sender limit and its life
abbrev pub pair : Limits → ℕ × ℕ
pair l = (l.senders, l.life)

abbrev pub limits_checked : ℕ → ℕ → Outcome (ℕ × ℕ)
limits_checked senders life =
    cond (nat_le 1 senders && nat_le senders most_senders)
    (cond (nat_le 1 life && nat_le life longest_life) (Ok (senders, life)) (refuse LimitRefused 0))
    (refuse LimitRefused 0)
