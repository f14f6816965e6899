-- What a slot inbox holds. Assumes nothing.
use Rattle.std.specs.Prelude.{◌*◌, List, [], ◌∷◌, Option}
use mathlib.Core.HLevel.{×_prop, Unit-prop}
use Rattle.std.proofs.Math.Logic.{∥∥₁_elim}
use Rattle.std.proofs.Math.Bool.{Bool-set}
use Rattle.inbox.specs.Contents.{Contents, Lawful, longest_item}
use Rattle.inbox.specs.Law.{lawful_of}
use Rattle.slot_inbox.specs.declared.slot.Slot.{Slot}
use Rattle.slot_inbox.specs.declared.slot_inbox.SlotInbox.{SlotInbox}
use Rattle.slot_inbox.specs.Slots.{taken, gathered, Apart, Distinct}

-- its byte limit has room for the longest item of every sender
abbrev pub contents : SlotInbox → Contents
contents p = record {
  sender_limit = p.limits.senders;
  byte_limit = longest_item * p.limits.senders;
  life = p.limits.life;
  items = gathered p.slots;
}

pub slot_inbox_lawful : (p : SlotInbox) → Lawful (contents p)
slot_inbox_lawful p = lawful_of (contents p) p.lawful

apart_prop : (ss : List Slot) → IsProp (Apart ss)
apart_prop [] = Unit-prop
apart_prop (s ∷ ss) = ×_prop (Bool-set _ _) (apart_prop ss)

pub distinct_of : (ss : List (Option Slot)) → ∥ Distinct ss ∥₁ → Distinct ss
distinct_of ss k = ∥∥₁_elim k (apart_prop (taken ss)) (λ x. x)
