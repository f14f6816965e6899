-- Items in slots, in any order. Assumes nothing.
use Rattle.std.specs.Prelude.{◌≡◌, ℕ, ◌+◌, Bool, false, cond, ◌==◌, List, [], ◌∷◌, Some, None, Option}
use Rattle.std.specs.List.{flat_map}
use Rattle.std.specs.Option.{option_to_list}
use Rattle.inbox.specs.Contents.{Item, lasts}
use Rattle.inbox.specs.Calls.{with_item, holds}
use Rattle.slot_inbox.specs.declared.slot.Slot.{Slot}

-- the item that a slot holds
abbrev pub slot_item : Slot → Item
slot_item s = record { sender = s.sender; age = s.age; bytes = s.bytes.items }

-- the slots that hold an item
abbrev pub taken : List (Option Slot) → List Slot
taken ss = flat_map option_to_list ss

-- the items of these slots, by rising sender
abbrev pub by_sender : List Slot → List Item
by_sender [] = []
by_sender (s ∷ ss) = with_item (by_sender ss) (slot_item s)

abbrev pub gathered : List (Option Slot) → List Item
gathered ss = by_sender (taken ss)

-- no sender has two slots
abbrev pub Apart : List Slot → Type 0
Apart [] = Unit {0}
Apart (s ∷ ss) = (holds (by_sender ss) s.sender ≡ false) × Apart ss

abbrev pub Distinct : List (Option Slot) → Type 0
Distinct ss = Apart (taken ss)

-- whether a slot holds an item of the sender
abbrev pub is_of : ℕ → Option Slot → Bool
is_of sender None = false
is_of sender (Some s) = s.sender == sender

-- a slot whose item is older
abbrev pub older_slot : Slot → Slot
older_slot s = record s { age = s.age + 1 }

-- a slot after the inbox has passed
abbrev pub aged_slot : ℕ → Option Slot → Option Slot
aged_slot life None = None
aged_slot life (Some s) = cond (lasts life (s.age + 1)) (Some (older_slot s)) None

-- a slot with this item at age 0 in place of its own
abbrev pub renewed_slot : List ℕ → Option Slot → Option Slot
renewed_slot x None = None
renewed_slot x (Some s) = Some (record { sender = s.sender; age = 0; bytes = record { items = x } })
