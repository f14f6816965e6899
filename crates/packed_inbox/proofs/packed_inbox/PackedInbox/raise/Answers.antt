use Rattle.std.proofs.Common.{◌≡◌, ℕ, List, length, get_or, set, sym, refl, ap, ◌∙◌, subst}
use Rattle.std.proofs.lemmas.List.{length-set}
use Rattle.inbox.specs.Contents.{Lawful}
use Rattle.inbox.specs.Law.{same_contents}
use Rattle.arrayvec.specs.ArrayVec.{with_items}
use Rattle.arrayvec.proofs.ArrayVecLemmas.{items-with_items}
use Rattle.packed_inbox.specs.Rows.{cut}
use Rattle.packed_inbox.specs.PackedInbox.{rows, lent, contents}
use Rattle.packed_inbox.specs.declared.row.Row.{Row}
use Rattle.packed_inbox.specs.declared.packed_inbox.PackedInbox.{PackedInbox}
use Rattle.packed_inbox.proofs.PackedFacts.{raises, aged_row, blank}
use Rattle.packed_inbox.proofs.packed_inbox.PackedInbox.raise.Goals as goal

-- the table after the write
written : (p : PackedInbox) (at age : ℕ) (es : List Row) → es ≡ rows p
    → (with_items p.table (set es at (aged_row (get_or es at blank) age))).items ≡ set (rows p) at (aged_row (get_or (rows p) at blank) age)
written p at age es e =
    items-with_items p.table (set es at (aged_row (get_or es at blank) age)) (simp length-set (ap length e)) ∙ ap (λ l. set l at (aged_row (get_or l at blank) age)) e

pub invariant_of-self : goal.invariant_of-self
invariant_of-self c =
    let p = c.args.self.now in
    let k = raises p c.args.at c.args.age c.requires.row c.requires.older c.requires.young in
    let e = written p c.args.at c.args.age c.deref_mut.result.now c.deref_mut.ensures.value in
    record {
      spans = rw e k.spans;
      lawful = ∣ subst Lawful (sym (same_contents (contents p) refl (ap (λ es. cut es (lent p)) e ∙ k.items))) k.lawful ∣₁;
    }

pub returns-clause-after : goal.returns-clause-after
returns-clause-after c =
    let p = c.args.self.now in
    let k = raises p c.args.at c.args.age c.requires.row c.requires.older c.requires.young in
    same_contents (contents p) refl (ap (λ es. cut es (lent p)) (written p c.args.at c.args.age c.deref_mut.result.now c.deref_mut.ensures.value) ∙ k.items)
