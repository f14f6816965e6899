-- Reading a message for a program in hand. Assumes nothing.
use Rattle.std.specs.Prelude.{◌≡◌, ℕ, ◌<◌, ◌≤◌, true, ◌≢◌, List, length, Ok}
use Rattle.refusal.specs.declared.cause.Cause.TheVariants as cause
use Rattle.refusal.specs.Outcomes.{Outcome, after, must}
use Rattle.kind.specs.Kind.{Meaning}
use Rattle.program.specs.declared.program.Program.{Program}
use Rattle.program.specs.Verdict.{suits}
use Rattle.program.specs.Programs.{shown, run_of}
use Rattle.record.specs.Headers.{most_bytes}
use Rattle.record.specs.Trees.{Tree}
use Rattle.record.specs.Plans.{Plan, due}
use Rattle.record.specs.Messages.{message}
use Rattle.record.specs.Writing.{Follows, written_tree}
use Rattle.record.specs.Laws.{Canonical}

-- the records that are due in a tree of the program, under the choices read so far
abbrev pub plan_of : Program → Plan
plan_of p = due (run_of p) 0

-- the tree in a message to the node `me`, or the first refusal. A program of another kind is refused first: no program
-- that the check of this kind gave is
abbrev pub tree_in : {V : Type 0} → Meaning V → Program → ℕ → List ℕ → Outcome (Tree V)
tree_in k p me m =
    after (must (suits k (shown p)) cause.OtherKind 7) (λ _.
    message k (plan_of p) (shown p).header.number me m)

abbrev pub sender_of : {V : Type 0} → Tree V → ℕ
sender_of t = t.sender

-- READING AND WRITING of the messages to a node
pub record RoundTrips {V : Type 0} (k : Meaning V) (p : Program) (me : ℕ) (m : List ℕ) : Type 0 where
  -- an accepted message is the one that writing its choices and values gives, and its records are those that are due
  pub canonical : (t : Tree V) → tree_in k p me m ≡ Ok t → Canonical k (plan_of p) (shown p).header.number me m t
  -- the message that writing a tree of due records gives, from another node, is accepted and read as that tree
  pub back : suits k (shown p) ≡ true → (t : Tree V) → m ≡ written_tree k (shown p).header.number t → t.sender < 65536 → t.sender ≢ me → Follows k (plan_of p) t.records → tree_in k p me m ≡ Ok t
  -- a tree of due records fits a message, header included
  pub fits : suits k (shown p) ≡ true → (t : Tree V) → Follows k (plan_of p) t.records → length (written_tree k (shown p).header.number t) ≤ most_bytes
