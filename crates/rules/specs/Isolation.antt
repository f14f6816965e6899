-- What a round learns of other nodes: isolation, stated. Assumes nothing.
use Rattle.std.specs.Prelude.{◌≡◌, ℕ, Bool, true, List, [], ◌∷◌}
use Rattle.kind.specs.Kind.{Meaning}
use Rattle.program.specs.Expressions.{Expr}
use Rattle.record.specs.Trees.{Rec, place_of, Agree}
use Rattle.rules.specs.Rules.{Field, Sender, Given, work}

-- a round that gives these records visits the place p
pub data Visits {V : Type 0} (p : ℕ) : List (Rec V) → Type 0 where
  here : {r : Rec V} {rs : List (Rec V)} → place_of r ≡ p → Visits p (r ∷ rs)
  later : {r : Rec V} {rs : List (Rec V)} → Visits p rs → Visits p (r ∷ rs)

-- two senders have one number and one link, and, if that number is among those of A, their trees agree for the node n at each place of P
pub record Matched {V : Type 0} (n : ℕ) (A : ℕ → Bool) (P : ℕ → Type 0) (s t : Sender V) : Type 0 where
  pub number : s.number ≡ t.number
  pub link : s.link ≡ t.link
  pub trees : A s.number ≡ true → (p : ℕ) → P p → Agree n p s.tree t.tree

pub data AllMatched {V : Type 0} (n : ℕ) (A : ℕ → Bool) (P : ℕ → Type 0) : List (Sender V) → List (Sender V) → Type 0 where
  none : AllMatched n A P [] []
  more : {s t : Sender V} {ss ts : List (Sender V)} → Matched n A P s t → AllMatched n A P ss ts → AllMatched n A P (s ∷ ss) (t ∷ ts)

-- two rounds are given the same, but that the trees of held senders may differ:
-- those of senders outside A in any way, the others where they agree for the node at the places of P
pub record SameFor {V : Type 0} (A : ℕ → Bool) (P : ℕ → Type 0) (g h : Given V) : Type 0 where
  pub number : g.number ≡ h.number
  pub readings : g.readings ≡ h.readings
  pub held : AllMatched g.number A P g.held h.held
  pub last : g.last ≡ h.last

-- Isolation: what a round, or a part of it, gives depends on the trees of the held senders only so far as
-- the sender is aligned where that part begins, and its trees differ for this node at a place that is visited.
-- (At the outset every sender is aligned.)
abbrev pub Isolation : Type 0 → Type 0
Isolation V = (k : Meaning V) (g h : Given V) (e : Expr) (env : List (Field V)) (al : ℕ → Bool) (p : ℕ)
    → SameFor al (λ q. Visits q (work k g e env al p).records) g h
    → work k g e env al p ≡ work k h e env al p
