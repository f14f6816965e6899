-- Working out a round of a node: from its program, what its inbox holds, its last own tree and its readings to result
-- and tree, or the first refusal. Assumes nothing.
use Rattle.std.specs.Prelude.{ℕ, zero, suc, ◌+◌, ◌*◌, cond, ◌&&◌, List, [], ◌∷◌, ◌++◌, length, drop, Some, None, Ok, Err, Option, ◌==◌, nat_le}
use Rattle.refusal.specs.declared.cause.Cause.TheVariants as cause
use Rattle.refusal.specs.Outcomes.{Outcome, refuse, after, must}
use Rattle.kind.specs.Kind.{Meaning}
use Rattle.program.specs.declared.program.Program.{Program}
use Rattle.program.specs.Verdict.{suits}
use Rattle.program.specs.Programs.{shown, run_of}
use Rattle.record.specs.Fields.{part}
use Rattle.record.specs.Headers.{most_bytes}
use Rattle.record.specs.Messages.{message}
use Rattle.record.specs.Plans.{Plan, due}
use Rattle.record.specs.Trees.{Rec, Tree}
use Rattle.record.specs.Writing.{written_tree}
use Rattle.inbox.specs.Contents.{Item}
use Rattle.rules.specs.Held.{held_in}
use Rattle.rules.specs.Rules.{Given, result, tree}

-- READINGS: W bytes for each sensor, each a value of the kind; or refusal 30
abbrev pub allowed_reading : {V : Type 0} → ℕ → Option V → Outcome V
allowed_reading at None = refuse cause.ReadingsRefused at
allowed_reading at (Some v) = Ok v

module _ {V : Type 0} (k : Meaning V) where
  -- n readings from a position on
  abbrev pub readings_from : ℕ → ℕ → List ℕ → Outcome (List V)
  readings_from zero at bs = Ok []
  readings_from (suc n) at bs =
      after (allowed_reading at (k.read (part bs at k.width))) (λ v.
      after (readings_from n (at + k.width) bs) (λ vs.
      Ok (v ∷ vs)))

  abbrev pub readings_in : ℕ → List ℕ → Outcome (List V)
  readings_in sensors bs = after (must (length bs == sensors * k.width) cause.ReadingsRefused 0) (λ _. readings_from sensors 0 bs)

-- THE LAST OWN TREE, from bytes: they count where another node accepts them as a tree of this one. No bytes are no tree
abbrev pub other_node : ℕ → ℕ
other_node me = cond (me == 0) 1 0

abbrev pub records_by : {V : Type 0} → ℕ → Outcome (Tree V) → List (Rec V)
records_by me (Err e) = []
records_by me (Ok t) = cond (t.sender == me) t.records []

abbrev pub last_in : {V : Type 0} → Meaning V → Plan → ℕ → ℕ → List ℕ → List (Rec V)
last_in k plan program me bs = records_by me (message k plan program (other_node me) bs)

-- MEMORY: the values and bytes to work with
abbrev pub working_values : ℕ
working_values = 5184

abbrev pub working_bytes : ℕ
working_bytes = 36864

-- what a round of the node `me` is given: what its inbox holds, the bytes of its last own tree, and its readings
module _ {V : Type 0} (k : Meaning V) (p : Program) (me : ℕ) (items : List Item) (last : List ℕ) where
  abbrev pub given_in : List V → Given V
  given_in vs = record {
    number = me;
    readings = vs;
    held = held_in k (due (run_of p) 0) (shown p).header.number me items;
    last = last_in k (due (run_of p) 0) (shown p).header.number me last;
  }

  -- its result, and its tree in bytes
  abbrev pub outcome_of : List V → V × List ℕ
  outcome_of vs = (result k (given_in vs) (run_of p), written_tree k (shown p).header.number (tree k (given_in vs) (run_of p)))

  -- 30, 31 and 32, in this order. A program of another kind is refused first: no program that the check of this kind
  -- gave is
  abbrev pub worked_out : List ℕ → ℕ → ℕ → ℕ → Outcome (V × List ℕ)
  worked_out readings values bytes output =
      after (must (suits k (shown p)) cause.OtherKind 7) (λ _.
      after (readings_in k (shown p).header.sensors readings) (λ vs.
      after (must (nat_le working_values values && nat_le working_bytes bytes) cause.MemoryShort 0) (λ _.
      after (must (nat_le most_bytes output) cause.OutputShort 0) (λ _.
      Ok (outcome_of vs)))))

-- WHAT THE CALLER GETS: the result and the tree's length; and on the output the tree, with all behind it as it was
abbrev pub told : {V : Type 0} → V × List ℕ → V × ℕ
told x = (x.0, length x.1)

abbrev pub on_output : {V : Type 0} → Outcome (V × List ℕ) → List ℕ → List ℕ
on_output (Err e) out = out
on_output (Ok x) out = x.1 ++ drop (length x.1) out
