-- Which senders a round holds: the items of its inbox that are a link and a tree of their sender. Assumes nothing.
use Rattle.std.specs.Prelude.{ℕ, cond, List, [], ◌∷◌, take, drop, Some, None, Ok, Err, Option, ◌==◌}
use Rattle.refusal.specs.Outcomes.{Outcome}
use Rattle.kind.specs.Kind.{Meaning}
use Rattle.record.specs.Messages.{message}
use Rattle.record.specs.Plans.{Plan}
use Rattle.record.specs.Trees.{Tree}
use Rattle.inbox.specs.Contents.{Item}
use Rattle.rules.specs.Rules.{Sender}

-- the sender of the item under the number n with this link and this tree, if both are there and the tree is the sender's
abbrev pub sender_with : {V : Type 0} → ℕ → Option V → Outcome (Tree V) → Option (Sender V)
sender_with n None t = None
sender_with n (Some v) (Err r) = None
sender_with n (Some v) (Ok t) = cond (t.sender == n) (Some (record { number = n; link = v; tree = t.records })) None

abbrev pub before : {V : Type 0} → Option (Sender V) → List (Sender V) → List (Sender V)
before None ss = ss
before (Some s) ss = s ∷ ss

-- for the node `me` with a program of this plan and number. An item is a link of W bytes and a message behind it.
-- Fewer bytes than W read as no value, by the laws of kinds
module _ {V : Type 0} (k : Meaning V) (plan : Plan) (program me : ℕ) where
  abbrev pub sender_in : Item → Option (Sender V)
  sender_in i = sender_with i.sender (k.read (take k.width i.bytes)) (message k plan program me (drop k.width i.bytes))

  abbrev pub held_in : List Item → List (Sender V)
  held_in [] = []
  held_in (i ∷ is) = before (sender_in i) (held_in is)
