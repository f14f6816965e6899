-- Reading a message. Assumes nothing.
use Rattle.std.specs.Prelude.{ℕ, cond, List, [], ◌∷◌, ◌++◌, length, Ok, ◌==◌}
use Rattle.refusal.specs.Outcomes.{Outcome, after, must}
use Rattle.refusal.specs.declared.cause.Cause.TheVariants as cause
use Rattle.kind.specs.Kind.{Meaning}
use Rattle.record.specs.Headers.{header, header_length}
use Rattle.record.specs.Records.{record_at}
use Rattle.record.specs.Trees.{Rec, Tree, is_first}
use Rattle.record.specs.Plans.{Plan, nothing, sent_at, choice_at, ◌⨾◌}
use Rattle.record.specs.declared.record.Body.TheVariants as body

-- one record, or records behind records, and where they end
abbrev pub alone : {V : Type 0} → Rec V × ℕ → Outcome (List (Rec V) × ℕ)
alone r = Ok (r.0 ∷ [], r.1)

abbrev pub behind_records : {V : Type 0} → List (Rec V) → List (Rec V) × ℕ → Outcome (List (Rec V) × ℕ)
behind_records rs y = Ok (rs ++ y.0, y.1)

module _ {V : Type 0} (k : Meaning V) (m : List ℕ) where
  -- the records that a plan has from a position on, and where they end
  abbrev pub records : Plan → ℕ → Outcome (List (Rec V) × ℕ)
  records nothing at = Ok ([], at)
  records (sent_at p) at = after (record_at k body.Exchange p m at) alone
  records (choice_at p a b) at =
      after (record_at k body.Choice p m at) (λ r.
      after (cond (is_first r.0) (records a r.1) (records b r.1)) (behind_records (r.0 ∷ [])))
  records (a ⨾ b) at =
      after (records a at) (λ x.
      after (records b x.1) (behind_records x.0))

-- the tree in a message to the node `me`, along a plan
abbrev pub message : {V : Type 0} → Meaning V → Plan → ℕ → ℕ → List ℕ → Outcome (Tree V)
message k plan program me m =
    after (header program me m) (λ sender.
    after (records k m plan header_length) (λ t.
    after (must (t.1 == length m) cause.MessageLeftover t.1) (λ _.
    Ok (record { sender = sender; records = t.0 }))))
