-- What each call on a node answers, and the state that it leaves. Assumes nothing.
use Rattle.std.specs.Prelude.{ℕ, Bool, List, ◌++◌, Some, None, Ok, Err, Option}
use Rattle.refusal.specs.declared.cause.Cause.TheVariants as cause
use Rattle.refusal.specs.Outcomes.{Outcome, refuse, after, must}
use Rattle.kind.specs.Kind.{Meaning}
use Rattle.program.specs.Verdict.{suits}
use Rattle.program.specs.Programs.{shown, run_of}
use Rattle.record.specs.Messages.{message}
use Rattle.record.specs.Plans.{due}
use Rattle.record.specs.Trees.{Tree}
use Rattle.inbox.specs.Calls.{holds, put_answer, after_put, after_remove}
use Rattle.rules.specs.Working.{worked_out}
use Rattle.trace.specs.States.{State, with_inbox, passed}

-- a call: link bytes and a message; a sender; readings, and how many working values, working bytes and output bytes were lent
pub data Call : Type 0 where
  delivery : List ℕ → List ℕ → Call
  drop_of : ℕ → Call
  round_on : List ℕ → ℕ → ℕ → ℕ → Call

-- DROP: the inbox's remove. It is never refused
abbrev pub drop_answer : State → ℕ → Bool
drop_answer s n = holds s.inbox.items n

abbrev pub after_drop : State → ℕ → State
after_drop s n = with_inbox s (after_remove s.inbox n)

-- a link: bytes that are no value of the kind, too many or too few among them, draw 14
abbrev pub allowed_link : {V : Type 0} → Option V → Outcome V
allowed_link None = refuse cause.LinkRefused 0
allowed_link (Some v) = Ok v

-- the state that an answer leaves: a refusal changes nothing
abbrev pub put_so : Outcome ℕ → State → List ℕ → State
put_so (Err e) s x = s
put_so (Ok n) s x = with_inbox s (after_put s.inbox n x)

abbrev pub passed_so : {V : Type 0} → Outcome (V × List ℕ) → State → State
passed_so (Err e) s = s
passed_so (Ok x) s = passed s x.1

module _ {V : Type 0} (k : Meaning V) where
  -- DELIVERY. What arrives: 14, then 15 to 26, or the tree. A program of another kind is refused first: no program that
  -- the check of this kind gave is
  abbrev pub arriving : State → List ℕ → List ℕ → Outcome (Tree V)
  arriving s link m =
      after (must (suits k (shown s.program)) cause.OtherKind 7) (λ _.
      after (allowed_link (k.read link)) (λ _.
      message k (due (run_of s.program) 0) (shown s.program).header.number s.number m))

  -- link and message are put as one item, which draws 27 to 29; the answer is the sender
  abbrev pub deliver_answer : State → List ℕ → List ℕ → Outcome ℕ
  deliver_answer s link m =
      after (arriving s link m) (λ t.
      after (put_answer s.inbox t.sender (link ++ m)) (λ _.
      Ok t.sender))

  abbrev pub after_deliver : State → List ℕ → List ℕ → State
  after_deliver s link m = put_so (deliver_answer s link m) s (link ++ m)

  -- ROUND: result and tree, or 30 to 32
  abbrev pub round_answer : State → List ℕ → ℕ → ℕ → ℕ → Outcome (V × List ℕ)
  round_answer s readings values bytes output =
      worked_out k s.program s.number s.inbox.items s.last readings values bytes output

  abbrev pub after_round : State → List ℕ → ℕ → ℕ → ℕ → State
  after_round s readings values bytes output = passed_so (round_answer s readings values bytes output) s

  -- ANY CALL
  abbrev pub after_call : State → Call → State
  after_call s (delivery link m) = after_deliver s link m
  after_call s (drop_of n) = after_drop s n
  after_call s (round_on readings values bytes output) = after_round s readings values bytes output
