use Rattle.std.proofs.Common.{◌≡◌, ℕ, ◌<◌, false, List, length, None, Option, position, Err, sym, refl, ap, ◌∙◌, subst}
use Rattle.std.proofs.lemmas.Result.{err_from_is_err_and}
use Rattle.std.specs.Option.{is_some}
use Rattle.inbox.specs.Contents.{Item, holding, longest_item}
use Rattle.inbox.specs.Calls.{put_checked, holds, without, with_item, new_item, put_answer, put_so}
use Rattle.refusal.specs.declared.refused.Refusal.{Refusal}
use Rattle.slot_inbox.specs.declared.slot.Slot.{Slot}
use Rattle.slot_inbox.specs.Slots.{gathered, is_of}
use Rattle.slot_inbox.specs.SlotInbox.{contents, slot_inbox_lawful}
use Rattle.inbox.proofs.Items.{Admitted, admitted, apart_not_held, without_apart, when_refused, put_checked_slots}
use Rattle.slot_inbox.proofs.Gathers.{holds_place}
use Rattle.slot_inbox.proofs.slot_inbox.calls.SlotInboxInbox.put.Goals as goal
use Rattle.slot_inbox.proofs.slot_inbox.calls.SlotInboxInbox.put.Goals.{After-check}

held : (c : goal.After-check) → c.is_some.result ≡ holds (contents c.args.self.now).items c.args.sender
held c = c.is_some.ensures ∙ ap is_some c.place-place.ensures ∙ sym (holds_place c.args.self.now.slots c.args.sender)

answer : (c : goal.After-check) → c.check.result ≡ put_answer (contents c.args.self.now) c.args.sender c.args.item.now
answer c =
    let p = c.args.self.now in
    c.check.ensures ∙ (λ i. put_checked (length c.args.item.now) (held c i) (c.count.ensures i) (c.sender_limit.ensures i) 0 longest_item) ∙ put_checked_slots (contents p) c.args.sender c.args.item.now (slot_inbox_lawful p) refl

pub returns-in_err-check : goal.returns-in_err-check
returns-in_err-check c =
    let p = err_from_is_err_and c.from_residual.result c.from_residual.ensures.1 in
    let v = p.1 ∙ ap (λ (e : Refusal). Err e) p.2 ∙ sym c.in_err-check.was ∙ answer (goal.at.returns-in_err-check c).After-check in
    record {
      value = v;
      after = sym (ap (λ r. put_so r (contents c.args.self.now) c.args.sender c.args.item.now) (sym v ∙ p.1));
      untouched = when_refused c.from_residual.result refl;
    }

free : (ss : List (Option Slot)) (s : ℕ) → position (is_of s) ss ≡ None → holds (gathered ss) s ≡ false
free ss s e = holds_place ss s ∙ ap is_some e

same : (ss : List (Option Slot)) (s : ℕ) → position (is_of s) ss ≡ None → without (gathered ss) s ≡ gathered ss
same ss s e = without_apart (gathered ss) s (apart_not_held s (gathered ss) (free ss s e))

pub insert-requires : goal.insert-requires
insert-requires c =
    let p = c.args.self.now in
    let s = c.args.sender in
    let x = c.args.item.now in
    let e = sym c.place-place.ensures ∙ c.in-None.is in
    let a : Admitted (contents p) s x = admitted (contents p) s x (slot_inbox_lawful p) (sym (answer (goal.at.insert-requires c).After-check) ∙ c.in_ok-check.was) in
    record {
      free = free p.slots s e;
      few = subst (λ (is : List Item). length is < (contents p).sender_limit) (same p.slots s e) a.few;
      short = a.short;
    }

pub returns-in-Some : goal.returns-in-Some
returns-in-Some c =
    let s = c.args.sender in
    let k = sym (answer (goal.at.returns-in-Some c).After-check) ∙ c.in_ok-check.was in
    record {
      value = sym k;
      after = c.renew.ensures s (sym c.place-place.ensures ∙ c.in-Some.is) ∙ sym (ap (λ r. put_so r (contents c.args.self.now) s c.args.item.now) k);
      untouched = tt;
    }

pub returns-in-None : goal.returns-in-None
returns-in-None c =
    let p = c.args.self.now in
    let s = c.args.sender in
    let x = c.args.item.now in
    let k = sym (answer (goal.at.returns-in-None c).After-check) ∙ c.in_ok-check.was in
    record {
      value = sym k;
      after = c.insert.ensures ∙ ap (λ is. holding (contents p) (with_item is (new_item s x))) (sym (same p.slots s (sym c.place-place.ensures ∙ c.in-None.is)))
          ∙ sym (ap (λ r. put_so r (contents p) s x) k);
      untouched = tt;
    }
