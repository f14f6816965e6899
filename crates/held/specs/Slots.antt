-- The items of held senders, as they lie in lent bytes. Assumes nothing.
use Rattle.std.specs.Prelude.{◌≡◌, ℕ, ◌*◌, ◌<◌, ◌≤◌, List, length, drop, Some, slice_index, slice_index_or}
use Rattle.kind.specs.Kind.{Meaning}
use Rattle.program.specs.declared.program.Program.{Program}
use Rattle.program.specs.Programs.{shown, run_of}
use Rattle.record.specs.Fields.{part}
use Rattle.record.specs.Plans.{due}
use Rattle.inbox.specs.Contents.{Item, longest_item}
use Rattle.rules.specs.Held.{sender_in}
use Rattle.rules.specs.Rules.{Sender}
use Rattle.held.specs.declared.slots.Slots.{Slots}

-- the item in slot j, and the tree behind its link of w bytes
abbrev pub slot_bytes : List ℕ → Slots → ℕ → List ℕ
slot_bytes bytes s j = part bytes (j * longest_item) (slice_index s.lengths j)

abbrev pub slot_item : List ℕ → Slots → ℕ → Item
slot_item bytes s j = record { sender = slice_index s.numbers j; age = 0; bytes = slot_bytes bytes s j }

abbrev pub slot_tree : ℕ → List ℕ → Slots → ℕ → List ℕ
slot_tree w bytes s j = drop w (slot_bytes bytes s j)

-- the slots hold these senders, one behind the other, for the node `me` with the program p
pub record Loaded {V : Type 0} (k : Meaning V) (p : Program) (me : ℕ) (bytes : List ℕ) (s : Slots) (ss : List (Sender V)) : Type 0 where
  pub many : length ss ≡ s.count
  pub slots : (j : ℕ) (d : Sender V) → j < s.count → sender_in k (due (run_of p) 0) (shown p).header.number me (slot_item bytes s j) ≡ Some (slice_index_or ss j d)
  pub fits : (j : ℕ) → j < s.count → slice_index s.lengths j ≤ longest_item
