use Rattle.std.proofs.Common.{◌≡◌, ◌++◌, map, take, drop}
use Rattle.slot_inbox.specs.Slots.{aged_slot}
use Rattle.slot_inbox.proofs.slot_inbox.calls.SlotInboxInbox.passing.Given as goal

abbrev pub invariant-loop-slot : goal.invariant-loop-slot
invariant-loop-slot l =
    l.slot-items ≡ map (aged_slot l.fn.self.limits.life) (take l.slot-index l.fn.self.slots) ++ drop l.slot-index l.fn.self.slots
