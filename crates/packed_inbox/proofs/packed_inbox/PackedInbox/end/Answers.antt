use Rattle.std.proofs.Common.{◌+◌, sym, ap, ◌∙◌, subst, arith}
use Rattle.inbox.specs.Contents.{Lawful}
use Rattle.inbox.specs.Law.{same_contents}
use Rattle.packed_inbox.specs.Rows.{cut}
use Rattle.packed_inbox.specs.PackedInbox.{rows, contents}
use Rattle.packed_inbox.proofs.Cuts.{span_take_le, span_more}
use Rattle.packed_inbox.proofs.PackedFacts.{Closed, closes, few_rows, blank}
use Rattle.packed_inbox.proofs.packed_inbox.PackedInbox.end.Goals as goal
use Rattle.packed_inbox.proofs.packed_inbox.PackedInbox.end.Goals.{After-remove}

pub overflow_add-at : goal.overflow_add-at
overflow_add-at c = omega (arith, few_rows c.args.self.now, c.requires)

pub shift-requires : goal.shift-requires
shift-requires c =
    let p = c.args.self.now in
    let s = p.spans in
    let m = span_more (rows p) c.args.at blank c.requires in
    let l = span_take_le (rows p) (c.args.at + 1) in
    (omega arith, (omega arith, omega arith))

closed : (c : goal.After-remove) → Closed c.args.self.now c.args.at c.shift.new.self.bytes.now
closed c =
    closes c.args.self.now c.args.at c.requires c.offset-from.result c.offset-past.result c.used-used.result
    c.offset-from.ensures c.offset-past.ensures c.used-used.ensures c.shift.new.self.bytes.now c.shift.ensures.after

pub invariant_of-self : goal.invariant_of-self
invariant_of-self c =
    let k = closed c in
    let e = c.remove.ensures.items in
    record {
      spans = rw e k.spans;
      lawful = ∣ subst Lawful (sym (same_contents (contents c.args.self.now) k.len (ap (λ es. cut es c.shift.new.self.bytes.now) e ∙ k.items))) k.lawful ∣₁;
    }

pub returns : goal.returns
returns c =
    let k = closed (goal.at.returns c).After-remove in
    record {
      after = same_contents (contents c.args.self.now) k.len (ap (λ es. cut es c.shift.new.self.bytes.now) c.remove.ensures.items ∙ k.items);
      memory = record { lender = c.shift.ensures.lender; after = k.laid };
    }
