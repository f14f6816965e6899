use Rattle.std.proofs.Common.{◌≡◌, ℕ, ◌≤◌, true, false, eqb, List, [], ◌∷◌, ◌++◌, length, drop, Some, None, Ok, Err, sym, ap, ◌∙◌, subst, ⊎_elim, arith}
use Rattle.std.proofs.lemmas.Bool.{cases_Bool}
use Rattle.std.proofs.lemmas.Option.{none-some, same_Some}
use Rattle.std.proofs.lemmas.Result.{err_from_is_err_and}
use Rattle.std.specs.List.{AllByRecursion}
use Rattle.std.specs.Option.{option_map}
use Rattle.refusal.specs.declared.refused.Refusal.{Refusal}
use Rattle.inbox.specs.Contents.{Item, longest_item}
use Rattle.inbox.specs.Calls.{bytes_of}
use Rattle.inbox.proofs.Items.{any_fits, read_refused, read_taken}
use Rattle.slot_inbox.specs.Slots.{taken, gathered, slot_item}
use Rattle.slot_inbox.specs.SlotInbox.{contents, slot_inbox_lawful}
use Rattle.slot_inbox.specs.declared.slot.Slot.{Slot}
use Rattle.slot_inbox.proofs.Gathers.{bytes_found}
use Rattle.slot_inbox.proofs.slot_inbox.calls.SlotInboxInbox.read.Goals as goal

-- an item that is found is no longer than the longest
found_fits : (is : List Item) (s : ℕ) (x : List ℕ) → AllByRecursion (λ (i : Item). length i.bytes ≤ longest_item) is → bytes_of is s ≡ Some x → length x ≤ longest_item
found_fits [] s x h e = absurd (none-some x e)
found_fits (i ∷ is) s x h e = ⊎_elim
    (λ (t : eqb i.sender s ≡ true). subst (λ y. length y ≤ longest_item) (same_Some i.bytes x (rw t at e)) h.0)
    (λ (t : eqb i.sender s ≡ false). found_fits is s x h.1 (rw t at e))
    (cases_Bool (eqb i.sender s))

pub read-requires : goal.read-requires
read-requires c =
    let p = c.args.self.now in
    let s = c.args.sender in
    let x = (slot_item c.in-Some.slot.now).bytes in
    let f : bytes_of (gathered p.slots) s ≡ Some x = bytes_found (taken p.slots) s ∙ sym (ap (option_map (λ (y : Slot). (slot_item y).bytes)) c.in-Some.ensures) in
    let l = found_fits (gathered p.slots) s x (slot_inbox_lawful p).fits f in
    let b = any_fits (length c.args.buffer.now) (sym c.check_buffer.ensures ∙ c.in_ok-check_buffer.was) in
    omega arith

pub returns-in_err-check_buffer : goal.returns-in_err-check_buffer
returns-in_err-check_buffer c =
    let p = err_from_is_err_and c.from_residual.result c.from_residual.ensures.1 in
    let k = read_refused (contents c.args.self.now) c.args.sender c.args.buffer.now p.0 (sym c.check_buffer.ensures ∙ c.in_err-check_buffer.was ∙ ap (λ (e : Refusal). Err e) (sym p.2)) in
    record { value = p.1 ∙ k.0; after = k.1 }

pub returns : goal.returns
returns c =
    let p = c.args.self.now in
    let buffer = c.args.buffer.now in
    let s = c.args.sender in
    let x = (slot_item c.in-Some.slot.now).bytes in
    let f : bytes_of (gathered p.slots) s ≡ Some x = bytes_found (taken p.slots) s ∙ sym (ap (option_map (λ (y : Slot). (slot_item y).bytes)) c.in-Some.ensures) in
    let k = read_taken (contents p) s buffer (Some x) f (sym c.check_buffer.ensures ∙ c.in_ok-check_buffer.was) in
    let l = c.read.ensures.len in
    record {
      value = ap (λ (n : ℕ). Ok (Some n)) l ∙ k.0;
      after = c.read.ensures.after ∙ ap (λ n. x ++ drop n buffer) l ∙ k.1;
    }

pub returns-in_default : goal.returns-in_default
returns-in_default c =
    let p = c.args.self.now in
    let s = c.args.sender in
    let f : bytes_of (gathered p.slots) s ≡ None = bytes_found (taken p.slots) s ∙ sym (ap (option_map (λ (y : Slot). (slot_item y).bytes)) c.in_default.ensures) in
    let k = read_taken (contents p) s c.args.buffer.now None f (sym c.check_buffer.ensures ∙ c.in_ok-check_buffer.was) in
    record { value = k.0; after = k.1 }
