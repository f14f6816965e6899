use Rattle.std.proofs.Common.{lit<, ◌+◌, ◌-◌, length, drop, sym, ap, ◌∙◌, subst, arith}
use Rattle.std.proofs.lemmas.List.{length-drop}
use Rattle.std.proofs.lemmas.List.Edits.{length-paste}
use Rattle.std.specs.List.{insert}
use Rattle.inbox.specs.Contents.{Lawful}
use Rattle.inbox.specs.Law.{same_contents}
use Rattle.packed_inbox.specs.Rows.{cut}
use Rattle.packed_inbox.specs.PackedInbox.{rows, lent, contents}
use Rattle.packed_inbox.proofs.Cuts.{span_take_le, bytes_held_cut}
use Rattle.packed_inbox.proofs.PackedFacts.{length_items, Opened, opens, small}
use Rattle.packed_inbox.proofs.packed_inbox.PackedInbox.insert.Goals as goal
use Rattle.packed_inbox.proofs.packed_inbox.PackedInbox.insert.Goals.{After-insert}

pub offset-from-requires : goal.offset-from-requires
offset-from-requires c = omega (arith, c.lower_bound-at.ensures.in_range, length_items c.args.self.now)

pub overflow_add-from : goal.overflow_add-from
overflow_add-from c =
    let p = c.args.self.now in
    omega (arith, c.requires.short, c.offset-from.ensures, span_take_le (rows p) c.lower_bound-at.result, small p)

pub shift-requires : goal.shift-requires
shift-requires c =
    let p = c.args.self.now in
    let l = span_take_le (rows p) c.lower_bound-at.result in
    let w = bytes_held_cut (rows p) (lent p) p.spans in
    let r = c.requires.room in
    (omega arith, (omega arith, omega arith))

pub write-requires : goal.write-requires
write-requires c =
    let p = c.args.self.now in
    let l = span_take_le (rows p) c.lower_bound-at.result in
    let w = bytes_held_cut (rows p) (lent p) p.spans in
    let r = c.requires.room in
    let from = c.offset-from.result in
    let n = length c.args.item.now in
    omega (arith, ap length c.shift.ensures.after, length-paste (lent p) (from + n) (drop from (lent p)) (c.used-used.result - from) (omega arith) (simp length-drop (omega arith)))

pub insert-requires : goal.insert-requires
insert-requires c =
    let p = c.args.self.now in
    let n = length_items p in
    let few = c.requires.few in
    let most = p.limits.most in
    let at = c.lower_bound-at.ensures.in_range in
    (lit< tt, (omega arith, omega arith))

opened : (c : goal.After-insert) → Opened c.args.self.now c.args.sender c.args.item.now c.write.new.self.bytes.now
    (insert (rows c.args.self.now) c.lower_bound-at.result record { sender = c.args.sender; age = 0; len = length c.args.item.now })
opened c =
    opens c.args.self.now c.lower_bound-at.result c.args.sender c.args.item.now c.lower_bound-at.ensures
    c.requires.free (omega arith) c.requires.few c.requires.short c.requires.room
    c.offset-from.result c.used-used.result c.offset-from.ensures c.used-used.ensures
    c.shift.new.self.bytes.now c.write.new.self.bytes.now c.shift.ensures.after c.write.ensures.after

pub invariant_of-self : goal.invariant_of-self
invariant_of-self c =
    let k = opened c in
    let e = c.insert.ensures.items in
    record {
      spans = rw e k.spans;
      lawful = ∣ subst Lawful (sym (same_contents (contents c.args.self.now) k.len (ap (λ es. cut es c.write.new.self.bytes.now) e ∙ k.items))) k.lawful ∣₁;
    }

pub returns : goal.returns
returns c =
    let k = opened (goal.at.returns c).After-insert in
    record {
      after = same_contents (contents c.args.self.now) k.len (ap (λ es. cut es c.write.new.self.bytes.now) c.insert.ensures.items ∙ k.items);
      memory = record { lender = c.write.ensures.lender ∙ c.shift.ensures.lender; after = k.laid };
    }
