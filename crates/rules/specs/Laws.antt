-- What holds of the rules of a round. Assumes nothing.
use Rattle.std.specs.Prelude.{◌≡◌, ℕ, ◌+◌, ◌<◌, ◌≤◌, Bool, ◌≢◌, List, [], ◌∷◌, length, Ok}
use Rattle.kind.specs.Kind.{Meaning, Lawful}
use Rattle.program.specs.Expressions.{Expr}
use Rattle.program.specs.Measures.{places, weight}
use Rattle.record.specs.Headers.{most_bytes, header_length}
use Rattle.record.specs.Messages.{message}
use Rattle.record.specs.Plans.{Plan, due}
use Rattle.record.specs.Trees.{RisingPlaces}
use Rattle.record.specs.Writing.{Follows, written_tree}
use Rattle.inbox.specs.Contents.{Contents}
use Rattle.inbox.specs.Contents as holds
use Rattle.rules.specs.Held.{held_in}
use Rattle.rules.specs.Rules.{Field, at, elsewhere, Given, senders, work, round, tree}

-- numbers rise, each is at least `low` and a node's
pub data RisingNumbers : ℕ → List ℕ → Type 0 where
  no_number : {low : ℕ} → RisingNumbers low []
  number_then : {low n : ℕ} {ns : List ℕ} → low ≤ n → n < 65536 → RisingNumbers (n + 1) ns → RisingNumbers low (n ∷ ns)

-- a number is none of these
pub data Apart (n : ℕ) : List ℕ → Type 0 where
  alone : Apart n []
  from : {m : ℕ} {ms : List ℕ} → n ≢ m → Apart n ms → Apart n (m ∷ ms)

-- what a node gives to its round: at most sixteen senders, rising, and itself not among them
pub record Orderly {V : Type 0} (g : Given V) : Type 0 where
  pub own : g.number < 65536
  pub few : length (senders g.held) ≤ 16
  pub rising : RisingNumbers 0 (senders g.held)
  pub apart : Apart g.number (senders g.held)

-- a value is the same at all numbers that are neither own nor held
pub record SameElsewhere {V : Type 0} (g : Given V) (f : Field V) : Type 0 where
  pub is : (n : ℕ) → n ≢ g.number → Apart n (senders g.held) → f (at n) ≡ f elsewhere

abbrev pub ValuesSameElsewhere : Type 0 → Type 0
ValuesSameElsewhere V = (k : Meaning V) (g : Given V) (e : Expr) → SameElsewhere g (round k g e).value

-- the records of a round, or of a part of it, are those that the expression has due
abbrev pub RecordsDue : Type 0 → Type 0
RecordsDue V =
    (k : Meaning V) (g : Given V) → Orderly g → (e : Expr) (env : List (Field V)) (al : ℕ → Bool) (p : ℕ)
    → p + places e ≤ 65536 → Follows k (due e p) (work k g e env al p).records

-- their places rise, and are places of the expression
abbrev pub RecordsRise : Type 0 → Type 0
RecordsRise V =
    (k : Meaning V) (g : Given V) → Orderly g → (e : Expr)
    → places e ≤ 65536 → RisingPlaces (places e) 0 (round k g e).records

-- the tree of a round, written, is accepted and read as itself by every other node with the program
abbrev pub OwnTreesRead : Type 0 → Type 0
OwnTreesRead V =
    (k : Meaning V) → Lawful k → (g : Given V) → Orderly g → (e : Expr) (program me : ℕ)
    → places e ≤ 65536 → weight k.width e + header_length ≤ most_bytes → program < 4294967296 → g.number ≢ me
    → message k (due e 0) program me (written_tree k program (tree k g e)) ≡ Ok (tree k g e)

-- what an inbox holds, whatever the bytes of its items, is in order for the round of a node
abbrev pub HeldOrderly : Type 0 → Type 0
HeldOrderly V =
    (k : Meaning V) (plan : Plan) (program : ℕ) (c : Contents) → holds.Lawful c
    → (g : Given V) → g.number < 65536 → g.held ≡ held_in k plan program g.number c.items → Orderly g
