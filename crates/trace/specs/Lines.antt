-- Lines (in the field: traces): a node fresh from its making, and calls on it one after another. Assumes nothing.
use Rattle.std.specs.Prelude.{ℕ, ◌<◌, List, [], ◌∷◌, ◌++◌, Ok, Err}
use Rattle.std.specs.List.{AllByRecursion}
use Rattle.refusal.specs.Outcomes.{Outcome}
use Rattle.kind.specs.Kind.{Meaning}
use Rattle.program.specs.declared.program.Program.{Program}
use Rattle.program.specs.Programs.{shown, run_of}
use Rattle.record.specs.Fields.{Bytes}
use Rattle.record.specs.Trees.{Rec}
use Rattle.inbox.specs.Contents.{Contents, Lawful}
use Rattle.rules.specs.Rules.{Given, round}
use Rattle.rules.specs.Working.{readings_in, given_in, outcome_of}
use Rattle.trace.specs.States.{State, made}
use Rattle.trace.specs.Calls.{Call, delivery, drop_of, round_on, deliver_answer, round_answer, after_call}

-- an accepted round: the state and the readings that it found, and the result and the tree that it gave
pub record Round (V : Type 0) : Type 0 where
  pub found : State
  pub readings : List ℕ
  pub result : V
  pub tree : List ℕ

-- what an accepted call did. It delivered a sender's link and message, dropped a sender, or was a round
pub data Event (V : Type 0) : Type 0 where
  delivered : ℕ → List ℕ → List ℕ → Event V
  dropped : ℕ → Event V
  worked : Round V → Event V

-- the rounds among events
abbrev pub rounds_in : {V : Type 0} → List (Event V) → List (Round V)
rounds_in [] = []
rounds_in (delivered n link m ∷ es) = rounds_in es
rounds_in (dropped n ∷ es) = rounds_in es
rounds_in (worked r ∷ es) = r ∷ rounds_in es

-- A LINE: the program, the number and the inbox that a node is made of, and the calls that follow
pub record Line : Type 0 where
  pub program : Program
  pub number : ℕ
  pub inbox : Contents
  pub calls : List Call

abbrev pub start : Line → State
start l = made l.program l.number l.inbox

-- the line one call longer
abbrev pub then_call : Line → Call → Line
then_call l c = record { program = l.program; number = l.number; inbox = l.inbox; calls = l.calls ++ (c ∷ []) }

-- a delivered message is a list of bytes
abbrev pub OfBytes : Call → Type 0
OfBytes (delivery link m) = Bytes m
OfBytes (drop_of n) = Unit {0}
OfBytes (round_on readings values bytes output) = Unit {0}

-- what the types of the calls ask of every line: node numbers have 16 bits and program numbers 32, messages are bytes,
-- and the inbox is one
pub record Possible (l : Line) : Type 0 where
  pub node : l.number < 65536
  pub program : (shown l.program).header.number < 4294967296
  pub inbox : Lawful l.inbox
  pub messages : AllByRecursion OfBytes l.calls

module _ {V : Type 0} (k : Meaning V) where
  -- what a call did; a refused one did nothing
  abbrev pub delivered_so : Outcome ℕ → List ℕ → List ℕ → List (Event V)
  delivered_so (Err e) link m = []
  delivered_so (Ok n) link m = delivered n link m ∷ []

  abbrev pub worked_so : Outcome (V × List ℕ) → State → List ℕ → List (Event V)
  worked_so (Err e) s readings = []
  worked_so (Ok x) s readings = worked (record { found = s; readings = readings; result = x.0; tree = x.1 }) ∷ []

  abbrev pub done_by : State → Call → List (Event V)
  done_by s (delivery link m) = delivered_so (deliver_answer k s link m) link m
  done_by s (drop_of n) = dropped n ∷ []
  done_by s (round_on readings values bytes output) = worked_so (round_answer k s readings values bytes output) s readings

  -- the state that calls leave, each made on what the one before left; and what they did
  abbrev pub after_calls : State → List Call → State
  after_calls s [] = s
  after_calls s (c ∷ cs) = after_calls (after_call k s c) cs

  abbrev pub history : State → List Call → List (Event V)
  history s [] = []
  history s (c ∷ cs) = done_by s c ++ history (after_call k s c) cs

  -- of a line: the state that it leaves, what its accepted calls did, and its accepted rounds, in their order
  abbrev pub end : Line → State
  end l = after_calls (start l) l.calls

  abbrev pub events : Line → List (Event V)
  events l = history (start l) l.calls

  abbrev pub rounds : Line → List (Round V)
  rounds l = rounds_in (events l)

  -- WHAT A ROUND FOUND, as the rules take it: the values of its readings, the senders that it held when it began, and
  -- the records of the last own tree
  abbrev pub values_or_none : Outcome (List V) → List V
  values_or_none (Err e) = []
  values_or_none (Ok vs) = vs

  abbrev pub values_of : Round V → List V
  values_of r = values_or_none (readings_in k (shown r.found.program).header.sensors r.readings)

  abbrev pub given_of : Round V → Given V
  given_of r = given_in k r.found.program r.found.number r.found.inbox.items r.found.last (values_of r)

  -- the records of the places that it visits, by the rules
  abbrev pub records_of : Round V → List (Rec V)
  records_of r = (round k (given_of r) (run_of r.found.program)).records

  -- the result and the tree that the rules give
  abbrev pub by_rules : Round V → V × List ℕ
  by_rules r = outcome_of k r.found.program r.found.number r.found.inbox.items r.found.last (values_of r)
