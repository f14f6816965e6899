use Rattle.std.proofs.Common.{set, refl, ap, sym, ◌∙◌, subst, arith}
use Rattle.std.proofs.lemmas.List.{length-set}
use Rattle.std.proofs.lemmas.Bool.{lt-ltb}
use Rattle.std.specs.Option.{IsSome}
use Rattle.inbox.specs.Contents.{Item, holding}
use Rattle.inbox.specs.Calls.{with_item, new_item}
use Rattle.inbox.proofs.Items.{bytes_held_le}
use Rattle.slot_inbox.specs.Slots.{gathered}
use Rattle.slot_inbox.specs.SlotInbox.{contents, slot_inbox_lawful}
use Rattle.slot_inbox.proofs.Gathers.{Becomes, fills, vacant_is, vacant_slot}
use Rattle.slot_inbox.proofs.SlotFacts.{kept_of}
use Rattle.slot_inbox.proofs.slot_inbox.SlotInbox.insert.Goals as goal
use Rattle.slot_inbox.proofs.slot_inbox.SlotInbox.insert.Goals.{After-renew}

pub unwrap-vacant-requires : goal.unwrap-vacant-requires
unwrap-vacant-requires c =
    let p = c.args.self.now in
    let f = p.full in
    let most = p.limits.most in
    subst IsSome (sym (c.vacant.ensures ∙ vacant_is p.slots (omega (arith, c.requires.few)))) refl

put_in : (c : goal.After-renew) → Becomes (contents c.args.self.now) (set c.args.self.now.slots c.unwrap-vacant.result c.renew.new.slot) (with_item (gathered c.args.self.now.slots) (new_item c.args.sender c.args.item.now))
put_in c =
    let p = c.args.self.now in
    let x = c.args.item.now in
    let few = c.requires.few in
    let short = c.requires.short in
    let v = vacant_slot p.slots c.unwrap-vacant.result (sym c.vacant.ensures ∙ c.unwrap-vacant.ensures) in
    rw c.renew.ensures
    (fills (contents p) p.slots c.unwrap-vacant.result (record { sender = c.new.result.sender; age = 0; bytes = record { items = x } }) (new_item c.args.sender x)
    (ap (λ (i : Item). new_item i.sender x) c.new.ensures) (kept_of p) v.0 v.1 c.requires.free (omega arith) few short
    (lt-ltb 0 p.limits.life p.limits.lives) (omega (arith, bytes_held_le (gathered p.slots) (slot_inbox_lawful p).fits)))

pub invariant_of-self : goal.invariant_of-self
invariant_of-self c =
    let p = c.args.self.now in
    let k = put_in (goal.at.invariant_of-self c).After-renew in
    record {
      full = simp length-set p.full;
      lawful = ∣ k.kept.lawful ∣₁;
      distinct = ∣ k.kept.distinct ∣₁;
    }

pub returns : goal.returns
returns c = ap (holding (contents c.args.self.now)) (put_in (goal.at.returns c).After-renew).items
