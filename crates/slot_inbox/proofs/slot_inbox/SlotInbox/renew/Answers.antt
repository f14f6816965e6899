use Rattle.std.proofs.Common.{◌≡◌, ◌<◌, set, length, None, get_or, refl, ap, ◌∙◌, arith}
use Rattle.std.proofs.lemmas.List.{length-set, get_or_default}
use Rattle.inbox.specs.Contents.{holding}
use Rattle.slot_inbox.specs.Slots.{gathered, renewed_slot}
use Rattle.slot_inbox.specs.SlotInbox.{contents}
use Rattle.slot_inbox.proofs.Gathers.{Kept, kept_renewed, in_slot, renewed_in}
use Rattle.slot_inbox.proofs.SlotFacts.{kept_of}
use Rattle.slot_inbox.proofs.slot_inbox.SlotInbox.renew.Goals as goal
use Rattle.slot_inbox.proofs.slot_inbox.SlotInbox.renew.Goals.{After-renew}

in_row : (c : goal.After-renew) → c.args.at < length c.args.self.now.slots
in_row c =
    let f = c.args.self.now.full in
    let r = c.requires.row in
    omega arith

becomes : (c : goal.After-renew) → c.renew.new.slot ≡ renewed_slot c.args.item.now (get_or c.args.self.now.slots c.args.at None)
becomes c = c.renew.ensures ∙ ap (renewed_slot c.args.item.now) (get_or_default c.args.self.now.slots c.args.at c.index-self-at.result None (in_row c))

pub invariant_of-self : goal.invariant_of-self
invariant_of-self c =
    let p = c.args.self.now in
    let k : Kept (contents p) (set p.slots c.args.at c.renew.new.slot) = rw (becomes c) (kept_renewed (contents p) p.slots c.args.at c.args.item.now (kept_of p) (in_row c) c.requires.short refl) in
    record {
      full = simp length-set p.full;
      lawful = ∣ k.lawful ∣₁;
      distinct = ∣ k.distinct ∣₁;
    }

pub returns : goal.returns
returns c s e =
    let p = c.args.self.now in
    let d = (goal.at.returns c).After-renew in
    ap (holding (contents p)) (ap (λ o. gathered (set p.slots c.args.at o)) (becomes d)
    ∙ renewed_in (contents p) p.slots s c.args.at c.args.item.now (kept_of p) (in_slot p.slots s c.args.at e) c.requires.short refl)
