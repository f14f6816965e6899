use Rattle.std.proofs.Common.{◌≡◌, ◌+◌, ◌<◌, ◌≤◌, length, Err, sym, refl, ap, ◌∙◌, subst, arith}
use Rattle.std.proofs.lemmas.Result.{err_from_is_err_and}
use Rattle.inbox.specs.Contents.{Contents, holding, bytes_held}
use Rattle.inbox.specs.Calls.{put_checked, holds, with_item, new_item, put_answer, put_so}
use Rattle.inbox.specs.Law.{lawful_of}
use Rattle.refusal.specs.declared.refused.Refusal.{Refusal}
use Rattle.packed_inbox.specs.PackedInbox.{lent, contents}
use Rattle.inbox.proofs.Items.{Admitted, admitted, free_without, when_refused, bytes_held_with}
use Rattle.packed_inbox.specs.LentMemory.{laid_in}
use Rattle.packed_inbox.proofs.LaidIn.{laid_twice}
use Rattle.packed_inbox.proofs.PackedFacts.{length_items, held_found, laid_as_it_stood}
use Rattle.packed_inbox.proofs.packed_inbox.calls.PackedInboxInbox.put.Goals as goal
use Rattle.packed_inbox.proofs.packed_inbox.calls.PackedInboxInbox.put.Goals.{After-check}

held : (c : goal.After-check) → c.is_some.result ≡ holds (contents c.args.self.now).items c.args.sender
held c = c.is_some.ensures ∙ sym (held_found (contents c.args.self.now).items c.args.sender c.find.result c.find.ensures)

answer : (c : goal.After-check) → c.check.result ≡ put_answer (contents c.args.self.now) c.args.sender c.args.item.now
answer c =
    let p = c.args.self.now in
    c.check.ensures ∙ (λ i. put_checked (length c.args.item.now) (held c i) ((c.len.ensures.value ∙ sym (length_items p)) i) (c.sender_limit.ensures i) (c.others.ensures i) (c.size.ensures i))

pub returns-in_err-check : goal.returns-in_err-check
returns-in_err-check c =
    let p = err_from_is_err_and c.from_residual.result c.from_residual.ensures.1 in
    let v = p.1 ∙ ap (λ (e : Refusal). Err e) p.2 ∙ sym c.in_err-check.was ∙ answer (goal.at.returns-in_err-check c).After-check in
    record {
      value = v;
      after = sym (ap (λ r. put_so r (contents c.args.self.now) c.args.sender c.args.item.now) (sym v ∙ p.1));
      untouched = when_refused c.from_residual.result refl;
      memory = record { lender = refl; after = laid_as_it_stood c.args.self.now };
    }

pub insert-requires : goal.insert-requires
insert-requires c =
    let p = c.args.self.now in
    let s = c.args.sender in
    let x = c.args.item.now in
    let gone = c.remove.ensures.after in
    let a : Admitted (contents p) s x = admitted (contents p) s x (lawful_of (contents p) p.lawful) (sym (answer (goal.at.insert-requires c).After-check) ∙ c.in_ok-check.was) in
    record {
      free = ap (λ (b : Contents). holds b.items s) gone ∙ free_without (contents p).items s;
      few = subst (λ (b : Contents). length b.items < b.sender_limit) (sym gone) a.few;
      short = a.short;
      room = subst (λ (b : Contents). bytes_held b.items + length x ≤ b.byte_limit) (sym gone) a.room;
    }

pub returns : goal.returns
returns c =
    let p = c.args.self.now in
    let s = c.args.sender in
    let x = c.args.item.now in
    let k = sym (answer (goal.at.returns c).After-check) ∙ c.in_ok-check.was in
    let q = c.remove.new.self in
    let is = (contents q).items in
    let js = with_item is (new_item s x) in
    let more = bytes_held_with is (new_item s x) in
    record {
      value = sym k;
      after = c.insert.ensures.after ∙ ap (λ (b : Contents). holding b (with_item b.items (new_item s x))) c.remove.ensures.after
          ∙ sym (ap (λ r. put_so r (contents p) s x) k);
      untouched = tt;
      memory = record {
        lender = c.insert.ensures.memory.lender ∙ c.remove.ensures.memory.lender;
        after = c.insert.ensures.memory.after ∙ ap (laid_in js) c.remove.ensures.memory.after ∙ laid_twice is js (lent p) (omega arith)
            ∙ sym (ap (λ (b : Contents). laid_in b.items (lent p)) c.insert.ensures.after);
      };
    }
