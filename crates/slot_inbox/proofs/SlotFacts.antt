-- A slot inbox by its slots.
use Rattle.slot_inbox.specs.SlotInbox.{contents, slot_inbox_lawful, distinct_of}
use Rattle.slot_inbox.specs.declared.slot_inbox.SlotInbox.{SlotInbox}
use Rattle.slot_inbox.proofs.Gathers.{Kept}

pub kept_of : (p : SlotInbox) → Kept (contents p) p.slots
kept_of p = record { lawful = slot_inbox_lawful p; distinct = distinct_of p.slots p.distinct }
