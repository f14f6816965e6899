-- What is promised of lines: isolation, who is held, and that own trees pass. Assumes nothing.
use Rattle.std.specs.Prelude.{◌≡◌, ℕ, ◌<◌, Bool, true, cond, ◌≢◌, List, [], ◌∷◌, ◌++◌, map, length, take, is_some, Some, None, Ok, Err, Option, ◌==◌}
use Rattle.std.specs.List.{AllByRecursion}
use Rattle.refusal.specs.Causes.{listed}
use Rattle.refusal.specs.Outcomes.{Outcome}
use Rattle.kind.specs.Kind.{Meaning, Lawful}
use Rattle.program.specs.declared.program.Program.{Program}
use Rattle.program.specs.Verdict.{suits}
use Rattle.program.specs.Programs.{shown, run_of}
use Rattle.record.specs.Messages.{message}
use Rattle.record.specs.Plans.{due}
use Rattle.record.specs.Trees.{Rec, Tree}
use Rattle.inbox.specs.Contents.{Item}
use Rattle.inbox.specs.Calls.{bytes_of}
use Rattle.rules.specs.Held.{sender_in, held_in}
use Rattle.rules.specs.Isolation.{Visits, AllMatched}
use Rattle.rules.specs.Rules.{Sender, senders}
use Rattle.trace.specs.States.{State}
use Rattle.trace.specs.Calls.{Call, arriving, deliver_answer, round_answer, after_call}
use Rattle.trace.specs.Lines.{Round, Event, delivered, dropped, worked, rounds_in, Line, start, then_call, OfBytes, Possible, done_by, end, events, rounds, given_of, records_of, by_rules}

-- ISOLATION

-- what a round gave: its result, and its tree in every byte
abbrev pub gift : {V : Type 0} → Round V → V × List ℕ
gift r = (r.result, r.tree)

module _ {V : Type 0} (k : Meaning V) where
  -- two rounds find the same, so far as the node can tell at the places that the first visits: equal readings, the same
  -- senders with equal links, and for each sender two trees that agree for the node at every such place
  pub record Alike (r q : Round V) : Type 0 where
    pub readings : r.readings ≡ q.readings
    pub held : AllMatched r.found.number (λ n. true) (λ p. Visits p (records_of k r)) (given_of k r).held (given_of k q).held

  pub data AllAlike : List (Round V) → List (Round V) → Type 0 where
    no_round : AllAlike [] []
    round_then : {r q : Round V} {rs qs : List (Round V)} → Alike r q → AllAlike rs qs → AllAlike (r ∷ rs) (q ∷ qs)

  -- a round of a node, whose last own tree has these records, gave what the rules give
  pub record Ruled (p : Program) (me : ℕ) (last : List (Rec V)) (r : Round V) : Type 0 where
    pub program : r.found.program ≡ p
    pub number : r.found.number ≡ me
    pub last_own : (given_of k r).last ≡ last
    pub gives : gift r ≡ by_rules k r

  -- all rounds, each with the tree of the round before as the last own one
  pub data AllRuled (p : Program) (me : ℕ) : List (Rec V) → List (Round V) → Type 0 where
    no_round : {last : List (Rec V)} → AllRuled p me last []
    round_then : {last : List (Rec V)} {r : Round V} {rs : List (Round V)} → Ruled p me last r → AllRuled p me (records_of k r) rs → AllRuled p me last (r ∷ rs)

  -- of two lines: as long as their first n accepted rounds, paired, find the same, they give the same, and that is what
  -- the rules give
  pub record Isolated (l m : Line) : Type 0 where
    pub same : (n : ℕ) → AllAlike (take n (rounds k l)) (take n (rounds k m)) → map gift (take n (rounds k l)) ≡ map gift (take n (rounds k m))
    pub ruled : AllRuled l.program l.number [] (rounds k l)

-- two lines of one kind, one program and one node number; their inboxes, limits, lives and calls may differ
abbrev pub RoundsIsolated : Type 0 → Type 0
RoundsIsolated V =
    (k : Meaning V) → Lawful k → (l m : Line) → Possible l → Possible m
    → m.program ≡ l.program → m.number ≡ l.number → Isolated k l m

-- HELD EXACTLY

-- events that neither deliver nor drop the sender n
pub data Quiet {V : Type 0} (n : ℕ) : List (Event V) → Type 0 where
  still : Quiet n []
  other_delivered : {s : ℕ} {link m : List ℕ} {es : List (Event V)} → s ≢ n → Quiet n es → Quiet n (delivered s link m ∷ es)
  other_dropped : {s : ℕ} {es : List (Event V)} → s ≢ n → Quiet n es → Quiet n (dropped s ∷ es)
  round_went : {r : Round V} {es : List (Event V)} → Quiet n es → Quiet n (worked r ∷ es)

-- link and message came in the latest accepted delivery of the sender n; no drop of n followed, and fewer accepted
-- rounds than the life
pub record Latest {V : Type 0} (life n : ℕ) (link m : List ℕ) (es : List (Event V)) : Type 0 where
  pub before : List (Event V)
  pub since : List (Event V)
  pub whole : es ≡ before ++ (delivered n link m ∷ since)
  pub quiet : Quiet n since
  pub young : length (rounds_in since) < life

-- the senders that a round would hold, and whether it would count an item
abbrev pub held_at : {V : Type 0} → Meaning V → State → List (Sender V)
held_at k s = held_in k (due (run_of s.program) 0) (shown s.program).header.number s.number s.inbox.items

abbrev pub counts : {V : Type 0} → Meaning V → State → Item → Bool
counts k s i = is_some (sender_in k (due (run_of s.program) 0) (shown s.program).header.number s.number i)

abbrev pub sender_of : Item → ℕ
sender_of i = i.sender

-- what a round would hold of the sender n
abbrev pub held_of : {V : Type 0} → ℕ → List (Sender V) → Option (Sender V)
held_of n [] = None
held_of n (y ∷ ys) = cond (y.number == n) (Some y) (held_of n ys)

-- the sender n is held with this link and this message as its tree: they are its item in the inbox, and a round would
-- hold n with the value of the link and the records of the tree
pub record HeldWith {V : Type 0} (k : Meaning V) (s : State) (n : ℕ) (link m : List ℕ) : Type 0 where
  pub item : bytes_of s.inbox.items n ≡ Some (link ++ m)
  pub value : V
  pub tree : Tree V
  pub linked : k.read link ≡ Some value
  pub reads : message k (due (run_of s.program) 0) (shown s.program).header.number s.number m ≡ Ok tree
  pub own : tree.sender ≡ n
  pub held : held_of n (held_at k s) ≡ Some (record { number = n; link = value; tree = tree.records })

pub record HeldExactly {V : Type 0} (k : Meaning V) (l : Line) : Type 0 where
  pub only : (n : ℕ) (link m : List ℕ) → HeldWith k (end k l) n link m → Latest l.inbox.life n link m (events k l)
  pub always : (n : ℕ) (link m : List ℕ) → Latest l.inbox.life n link m (events k l) → HeldWith k (end k l) n link m
  -- no delivery leaves an item that a round would not count: inbox and round hold the same senders
  pub counted : AllByRecursion (λ i. counts k (end k l) i ≡ true) (end k l).inbox.items
  pub same_senders : senders (held_at k (end k l)) ≡ map sender_of (end k l).inbox.items

abbrev pub LatestDeliveriesHeld : Type 0 → Type 0
LatestDeliveriesHeld V = (k : Meaning V) → Lawful k → (l : Line) → Possible l → HeldExactly k l

-- OWN TREES PASS
pub data Among {V : Type 0} (r : Round V) : List (Round V) → Type 0 where
  this : {rs : List (Round V)} → Among r (r ∷ rs)
  later : {q : Round V} {rs : List (Round V)} → Among r rs → Among r (q ∷ rs)

-- the tree of every accepted round is accepted, with its node as the sender and as what the rules gave, at the end of
-- every line of the program with another number; together with any link that is a value of the kind
pub record OwnTreesAccepted {V : Type 0} (k : Meaning V) (l : Line) : Type 0 where
  pub accepted :
      (r : Round V) → Among r (rounds k l) → (m : Line) → m.program ≡ l.program → m.number ≢ l.number
      → (link : List ℕ) (v : V) → k.read link ≡ Some v
      → arriving k (end k m) link r.tree ≡ Ok (record { sender = l.number; records = records_of k r })

abbrev pub OwnTreesPass : Type 0 → Type 0
OwnTreesPass V = (k : Meaning V) → Lawful k → (l : Line) → Possible l → OwnTreesAccepted k l

-- NO CALL IS REFUSED FOR ITS PROGRAM, if that is for the kind: none draws 1 to 13
abbrev pub NotForProgram : {A : Type 0} → Outcome A → Type 0
NotForProgram (Ok a) = Unit {0}
NotForProgram (Err e) = ◌≢◌ {A = ℕ} (listed e.cause).layer 1

pub record ProgramsAccepted {V : Type 0} (k : Meaning V) (l : Line) : Type 0 where
  pub deliveries : (link m : List ℕ) → NotForProgram (deliver_answer k (end k l) link m)
  pub rounds : (readings : List ℕ) (values bytes output : ℕ) → NotForProgram (round_answer k (end k l) readings values bytes output)

abbrev pub NoProgramRefused : Type 0 → Type 0
NoProgramRefused V = (k : Meaning V) (l : Line) → suits k (shown l.program) ≡ true → ProgramsAccepted k l

-- WHAT STAYS: program, number, limits and life
pub record Stays (s t : State) : Type 0 where
  pub program : t.program ≡ s.program
  pub number : t.number ≡ s.number
  pub sender_limit : t.inbox.sender_limit ≡ s.inbox.sender_limit
  pub byte_limit : t.inbox.byte_limit ≡ s.inbox.byte_limit
  pub life : t.inbox.life ≡ s.inbox.life

abbrev pub LimitsStay : Type 0 → Type 0
LimitsStay V = (k : Meaning V) (l : Line) → Stays (start l) (end k l)

-- THE CALL AT HAND

-- what is promised of a line
pub record Keeps {V : Type 0} (k : Meaning V) (l : Line) : Type 0 where
  pub isolated : (m : Line) → Possible m → m.program ≡ l.program → m.number ≡ l.number → Isolated k l m
  pub held_exactly : HeldExactly k l
  pub own_trees : OwnTreesAccepted k l

-- a call on a node, the results and trees that its caller sees (none, or one), and the states before and after it: it
-- ends every line that leaves the state before it one longer, what is seen is what the line's last round gave, and what
-- is promised holds of that line
pub record Promise {V : Type 0} (k : Meaning V) (before : State) (c : Call) (seen : List (V × List ℕ)) (now : State) : Type 0 where
  pub ends : (l : Line) → Possible l → end k l ≡ before → end k (then_call l c) ≡ now
  pub gives : (l : Line) → Possible l → end k l ≡ before → map gift (rounds k (then_call l c)) ≡ map gift (rounds k l) ++ seen
  pub keeps : (l : Line) → Possible l → end k l ≡ before → Keeps k (then_call l c)

-- what a call gave: none, or the one result and tree of an accepted round
abbrev pub given_by : {V : Type 0} → Meaning V → State → Call → List (V × List ℕ)
given_by k s c = map gift (rounds_in (done_by k s c))

-- every call on every node keeps the promise
abbrev pub CallsPromised : Type 0 → Type 0
CallsPromised V = (k : Meaning V) → Lawful k → (s : State) (c : Call) → OfBytes c → Promise k s c (given_by k s c) (after_call k s c)

-- what the caller of a round sees: none, or one result and tree
abbrev pub seen_in : {V : Type 0} → Outcome (V × ℕ) → List ℕ → List (V × List ℕ)
seen_in (Err e) out = []
seen_in (Ok x) out = (x.0, take x.1 out) ∷ []
