use Rattle.std.proofs.Common.{◌≡◌, ℕ, ◌<◌, ◌≤◌, List, ◌++◌, length, get_or, take, drop, Some, None, Ok, Err, sym, ap, ◌∙◌, arith}
use Rattle.refusal.specs.declared.refused.Refusal.{Refusal}
use Rattle.std.proofs.lemmas.Result.{err_from_is_err_and}
use Rattle.std.proofs.ByRecursion.{All-get_or}
use Rattle.inbox.specs.Contents.{Item, longest_item}
use Rattle.inbox.specs.Search.{Finding, no_item}
use Rattle.inbox.proofs.Items.{any_fits, read_refused, read_taken}
use Rattle.inbox.specs.Law.{lawful_of}
use Rattle.packed_inbox.specs.PackedInbox.{rows, lent, contents}
use Rattle.packed_inbox.specs.declared.row.Row.{Row}
use Rattle.packed_inbox.specs.declared.packed_inbox.PackedInbox.{PackedInbox}
use Rattle.packed_inbox.proofs.PackedFacts.{length_items, few_rows, row_fits, length_at, bytes_at, blank}
use Rattle.packed_inbox.proofs.packed_inbox.calls.PackedInboxInbox.read.Goals as goal

in_rows : (p : PackedInbox) (s at : ℕ) → Finding (contents p).items s at → at < length (rows p)
in_rows p s at f = omega (arith, f.in_range, length_items p)

pub offset-from-requires : goal.offset-from-requires
offset-from-requires c = omega (arith, in_rows c.args.self.now c.args.sender c.in-Some.at c.in-Some.ensures)

pub offset_bounds-deref-at : goal.offset_bounds-deref-at
offset_bounds-deref-at c = omega (arith, in_rows c.args.self.now c.args.sender c.in-Some.at c.in-Some.ensures, few_rows c.args.self.now)

pub bounds-deref-at : goal.bounds-deref-at
bounds-deref-at c = rw c.deref.ensures.0 (in_rows c.args.self.now c.args.sender c.in-Some.at c.in-Some.ensures)

pub read-requires : goal.read-requires
read-requires c =
    let p = c.args.self.now in
    let at = c.in-Some.at in
    let w = in_rows p c.args.sender at c.in-Some.ensures in
    let r = row_fits p at w in
    let s = p.spans in
    let l = length_at p at no_item w in
    let f : length (get_or (contents p).items at no_item).bytes ≤ longest_item = All-get_or (λ (i : Item). length i.bytes ≤ longest_item) (contents p).items at no_item c.in-Some.ensures.in_range (lawful_of (contents p) p.lawful).fits in
    let b = any_fits (length c.args.buffer.now) (sym c.check_buffer.ensures ∙ c.in_ok-check_buffer.was) in
    rw c.deref.ensures.0 (omega arith, omega arith)

pub returns-in_err-check_buffer : goal.returns-in_err-check_buffer
returns-in_err-check_buffer c =
    let p = err_from_is_err_and c.from_residual.result c.from_residual.ensures.1 in
    let k = read_refused (contents c.args.self.now) c.args.sender c.args.buffer.now p.0 (sym c.check_buffer.ensures ∙ c.in_err-check_buffer.was ∙ ap (λ (e : Refusal). Err e) (sym p.2)) in
    record { value = p.1 ∙ k.0; after = k.1 }

pub returns : goal.returns
returns c =
    let p = c.args.self.now in
    let at = c.in-Some.at in
    let w = in_rows p c.args.sender at c.in-Some.ensures in
    let buffer = c.args.buffer.now in
    let len = (get_or c.deref.result.now at blank).len in
    let e : (get_or (rows p) at blank).len ≡ len = ap (λ (es : List Row). (get_or es at blank).len) (sym c.deref.ensures.0) in
    let l : length (get_or (contents p).items at no_item).bytes ≡ len = length_at p at no_item w ∙ e in
    let x : (get_or (contents p).items at no_item).bytes ≡ take len (drop c.offset-from.result (lent p)) =
    bytes_at p at no_item w ∙ (λ i. take (e i) (drop (sym c.offset-from.ensures i) (lent p))) in
    let k = read_taken (contents p) c.args.sender buffer (Some (get_or (contents p).items at no_item).bytes) (c.in-Some.ensures.read no_item) (sym c.check_buffer.ensures ∙ c.in_ok-check_buffer.was) in
    record {
      value = ap (λ (n : ℕ). Ok (Some n)) (sym l) ∙ k.0;
      after = c.read.ensures.after ∙ (λ i. sym x i ++ drop (sym l i) buffer) ∙ k.1;
    }

pub returns-in_default : goal.returns-in_default
returns-in_default c = let k = read_taken (contents c.args.self.now) c.args.sender c.args.buffer.now None c.in_default.ensures.none (sym c.check_buffer.ensures ∙ c.in_ok-check_buffer.was) in record { value = k.0; after = k.1 }
