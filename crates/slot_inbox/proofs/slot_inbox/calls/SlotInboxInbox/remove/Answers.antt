use Rattle.std.proofs.Common.{sym, refl, ap, ◌∙◌}
use Rattle.std.proofs.lemmas.Bool.{true≢false}
use Rattle.std.proofs.lemmas.List.{length-set}
use Rattle.std.specs.Option.{is_some}
use Rattle.inbox.specs.Contents.{holding}
use Rattle.inbox.specs.Calls.{without}
use Rattle.inbox.proofs.Items.{apart_not_held, without_apart}
use Rattle.slot_inbox.specs.Slots.{gathered}
use Rattle.slot_inbox.specs.SlotInbox.{contents}
use Rattle.slot_inbox.proofs.Gathers.{in_slot, held_in, holds_place, empties}
use Rattle.slot_inbox.proofs.SlotFacts.{kept_of}
use Rattle.slot_inbox.proofs.slot_inbox.calls.SlotInboxInbox.remove.Goals as goal

pub invariant_of-self : goal.invariant_of-self
invariant_of-self c =
    let p = c.args.self.now in
    let k = in_slot p.slots c.args.sender c.in-Some.at (sym c.in-Some.ensures) in
    let e = empties (contents p) p.slots c.in-Some.at k.slot (kept_of p) k.in_range k.is in
    record {
      full = simp length-set p.full;
      lawful = ∣ e.kept.lawful ∣₁;
      distinct = ∣ e.kept.distinct ∣₁;
    }

pub returns-in-Some : goal.returns-in-Some
returns-in-Some c =
    let p = c.args.self.now in
    let k = in_slot p.slots c.args.sender c.in-Some.at (sym c.in-Some.ensures) in
    let e = empties (contents p) p.slots c.in-Some.at k.slot (kept_of p) k.in_range k.is in
    record {
      value = sym (held_in p.slots c.args.sender c.in-Some.at k);
      after = ap (holding (contents p)) (e.items ∙ ap (without (gathered p.slots)) k.own);
      untouched = λ e. absurd (true≢false e);
    }

pub returns-in-None : goal.returns-in-None
returns-in-None c =
    let p = c.args.self.now in
    let k = holds_place p.slots c.args.sender ∙ sym (ap is_some c.in-None.ensures) in
    record {
      value = sym k;
      after = sym (ap (holding (contents p)) (without_apart (gathered p.slots) c.args.sender (apart_not_held c.args.sender (gathered p.slots) k)));
      untouched = λ _. refl;
    }
