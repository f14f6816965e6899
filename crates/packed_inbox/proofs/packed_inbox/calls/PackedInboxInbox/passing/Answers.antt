use Rattle.std.proofs.Common.{◌≡◌, ℕ, ◌+◌, ◌<◌, ◌≤◌, Bool, true, false, cond, List, length, get_or, Some, None, sym, refl, ap, ◌∙◌, arith}
use Rattle.std.proofs.lemmas.List.{length-set}
use Rattle.std.proofs.lemmas.List.Edits.{length-remove}
use Rattle.std.proofs.lemmas.Option.{cond_some, none-some}
use Rattle.inbox.specs.Contents.{Contents, lasts}
use Rattle.inbox.specs.Search.{no_item}
use Rattle.inbox.proofs.Items.{part_aged, aged_stays, aged_ends, aged_all}
use Rattle.packed_inbox.specs.PackedInbox.{rows, lent, contents}
use Rattle.packed_inbox.specs.declared.row.Row.{Row}
use Rattle.packed_inbox.specs.declared.packed_inbox.PackedInbox.{PackedInbox}
use Rattle.packed_inbox.proofs.LaidIn.{part_passed, passed_stays, passed_ends, passed_all}
use Rattle.packed_inbox.proofs.PackedFacts.{length_items, age_at, blank}
use Rattle.packed_inbox.proofs.packed_inbox.calls.PackedInboxInbox.passing.Goals as goal

-- the row's age that was read is the item's
item_age : (p : PackedInbox) (i : ℕ) (es : List Row) → i < length (rows p) → es ≡ rows p → (get_or (contents p).items i no_item).age ≡ (get_or es i blank).age
item_age p i es h e = age_at p i no_item h ∙ ap (λ l. (get_or l i blank).age) (sym e)

cond_none : (b : Bool) (x : ℕ) → cond b (Some x) None ≡ None → b ≡ false
cond_none true x h = absurd (none-some x (sym h))
cond_none false x h = refl

-- what the row's next age says of the item
stays : (p : PackedInbox) (i : ℕ) (es : List Row) (n : ℕ) → i < length (rows p) → es ≡ rows p
    → Some n ≡ cond (lasts p.limits.life ((get_or es i blank).age + 1)) (Some ((get_or es i blank).age + 1)) None
    → (lasts (contents p).life ((get_or (contents p).items i no_item).age + 1) ≡ true) × (n ≡ (get_or (contents p).items i no_item).age + 1)
stays p i es n h e k =
    let a = item_age p i es h e in
    let c = cond_some (lasts p.limits.life ((get_or es i blank).age + 1)) ((get_or es i blank).age + 1) n (sym k) in
    (ap (λ m. lasts p.limits.life (m + 1)) a ∙ c.0, sym c.1 ∙ ap (λ m. m + 1) (sym a))

ends : (p : PackedInbox) (i : ℕ) (es : List Row) → i < length (rows p) → es ≡ rows p
    → None ≡ cond (lasts p.limits.life ((get_or es i blank).age + 1)) (Some ((get_or es i blank).age + 1)) None
    → lasts (contents p).life ((get_or (contents p).items i no_item).age + 1) ≡ false
ends p i es h e k =
    ap (λ m. lasts p.limits.life (m + 1)) (item_age p i es h e) ∙ cond_none (lasts p.limits.life ((get_or es i blank).age + 1)) ((get_or es i blank).age + 1) (sym k)

pub raise-requires : goal.raise-requires
raise-requires c =
    let p = c.loop-at.self in
    let t : c.loop-at.at < length (rows p) = omega (arith, c.loop-at-test.true, c.len.ensures.value) in
    let k = stays p c.loop-at.at c.deref.result.now c.in-Some.older t c.deref.ensures.0 c.in-Some.ensures in
    record { row = t; older = k.1; young = ap (lasts p.limits.life) k.1 ∙ k.0 }

pub loop-at-smaller-in-Some : goal.loop-at-smaller-in-Some
loop-at-smaller-in-Some c =
    let p = c.loop-at.self in
    let n = length_items p in
    let e : length (contents c.raise.new.self).items ≡ length (contents p).items = ap (λ (b : Contents). length b.items) c.raise.ensures.after ∙ simp length-set in
    omega (arith, c.loop-at-test.true, c.len.ensures.value)

pub loop-at-preserved-in-Some : goal.loop-at-preserved-in-Some
loop-at-preserved-in-Some c =
    let p = c.loop-at.self in
    let i = c.loop-at.at in
    let n = length_items p in
    let t : i < length (rows p) = omega (arith, c.loop-at-test.true, c.len.ensures.value) in
    let young = (stays p i c.deref.result.now c.in-Some.older t c.deref.ensures.0 c.in-Some.ensures).0 in (
      ap (part_aged (i + 1)) c.raise.ensures.after ∙ aged_stays (contents p) i (omega arith) young ∙ c.loop-at.invariant.0,
      (λ j. part_passed (i + 1) (c.raise.ensures.after j) (c.raise.ensures.memory.after j)) ∙ passed_stays (contents p) i (lent p) (omega arith) young ∙ c.loop-at.invariant.1,
      c.raise.ensures.memory.lender ∙ c.loop-at.invariant.2,
    )

pub loop-at-smaller : goal.loop-at-smaller
loop-at-smaller c =
    let p = c.loop-at.self in
    let n = length_items p in
    let t : c.loop-at.at < length (rows p) = omega (arith, c.loop-at-test.true, c.len.ensures.value) in
    omega (arith, ap (λ (b : Contents). length b.items) c.end.ensures.after, length-remove (contents p).items c.loop-at.at (omega arith))

pub loop-at-preserved : goal.loop-at-preserved
loop-at-preserved c =
    let p = c.loop-at.self in
    let i = c.loop-at.at in
    let n = length_items p in
    let t : i < length (rows p) = omega (arith, c.loop-at-test.true, c.len.ensures.value) in
    let old = ends p i c.deref.result.now t c.deref.ensures.0 c.in-None.ensures in (
      ap (part_aged i) c.end.ensures.after ∙ aged_ends (contents p) i (omega arith) old ∙ c.loop-at.invariant.0,
      (λ j. part_passed i (c.end.ensures.after j) (c.end.ensures.memory.after j)) ∙ passed_ends (contents p) i (lent p) (omega arith) old ∙ c.loop-at.invariant.1,
      c.end.ensures.memory.lender ∙ c.loop-at.invariant.2,
    )

pub returns : goal.returns
returns c =
    let p = c.loop-at.self in
    let n = length_items p in
    let h : length (contents p).items ≤ c.loop-at.at = omega (arith, c.loop-at-test.false, c.len.ensures.value) in
    record {
      after = sym (aged_all (contents p) c.loop-at.at h) ∙ c.loop-at.invariant.0;
      memory = record {
        lender = c.loop-at.invariant.2;
        after = sym (passed_all (contents p) c.loop-at.at (lent p) h) ∙ c.loop-at.invariant.1;
      };
    }
