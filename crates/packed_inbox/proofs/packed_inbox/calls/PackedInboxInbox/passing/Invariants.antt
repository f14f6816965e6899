use Rattle.std.proofs.Common.{◌≡◌, ◌-◌, length}
use Rattle.packed_inbox.specs.PackedInbox.{lent, contents}
use Rattle.inbox.proofs.Items.{part_aged}
use Rattle.packed_inbox.proofs.LaidIn.{part_passed}
use Rattle.packed_inbox.proofs.packed_inbox.calls.PackedInboxInbox.passing.Given as goal

abbrev pub invariant-loop-at : goal.invariant-loop-at
invariant-loop-at l = (part_aged l.at (contents l.self) ≡ part_aged 0 (contents l.initial.self))
    × (part_passed l.at (contents l.self) (lent l.self) ≡ part_passed 0 (contents l.initial.self) (lent l.initial.self))
    × (l.self.memory.bytes.ghost_name ≡ l.initial.self.memory.bytes.ghost_name)

abbrev pub decreases-loop-at : goal.decreases-loop-at
decreases-loop-at l = length (contents l.self).items - l.at
