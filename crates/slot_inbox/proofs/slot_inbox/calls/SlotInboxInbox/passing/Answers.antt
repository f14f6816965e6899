use Rattle.std.proofs.Common.{set, length, ap, sym, ◌∙◌, arith}
use Rattle.std.proofs.lemmas.List.{length-map}
use Rattle.std.proofs.lemmas.List.Edits.{map_over_more}
use Rattle.inbox.specs.Contents.{holding}
use Rattle.slot_inbox.specs.Slots.{gathered, aged_slot}
use Rattle.slot_inbox.specs.SlotInbox.{contents}
use Rattle.slot_inbox.proofs.Gathers.{Kept, kept_aged, aged_gathered, aged_all}
use Rattle.slot_inbox.proofs.SlotFacts.{kept_of}
use Rattle.slot_inbox.proofs.slot_inbox.calls.SlotInboxInbox.passing.Goals as goal

pub loop-slot-preserved : goal.loop-slot-preserved
loop-slot-preserved c =
    let p = c.args.self.now in
    let l = c.loop-slot in
    let f = p.full in
    let t = c.loop-slot-test.true in
    ap (set l.slot-items l.slot-index) (c.age.ensures ∙ ap (aged_slot p.limits.life) (sym c.slot-item.is))
    ∙ map_over_more (aged_slot p.limits.life) p.slots l.slot-items l.slot-index c.slot-item.result (omega arith) l.invariant c.slot-item.is

pub invariant_of-self : goal.invariant_of-self
invariant_of-self c =
    let p = c.args.self.now in
    let f = p.full in
    let t = c.loop-slot-test.false in
    let e = aged_all p.limits.life p.slots c.loop-slot.slot-items c.loop-slot.slot-index (omega arith) c.loop-slot.invariant in
    let k : Kept (contents p) c.loop-slot.slot-items = rw e (kept_aged (contents p) p.slots (kept_of p)) in
    record {
      full = ap length e ∙ simp length-map p.full;
      lawful = ∣ k.lawful ∣₁;
      distinct = ∣ k.distinct ∣₁;
    }

pub returns : goal.returns
returns c =
    let p = c.args.self.now in
    let f = p.full in
    let t = c.loop-slot-test.false in
    ap (holding (contents p)) (ap gathered (aged_all p.limits.life p.slots c.loop-slot.slot-items c.loop-slot.slot-index (omega arith) c.loop-slot.invariant)
    ∙ aged_gathered p.limits.life p.slots (kept_of p).distinct)
