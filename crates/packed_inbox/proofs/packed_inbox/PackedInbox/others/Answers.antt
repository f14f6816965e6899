use Rattle.std.proofs.Common.{sym, ap, ◌∙◌}
use Rattle.packed_inbox.specs.Rows.{span_without}
use Rattle.packed_inbox.specs.PackedInbox.{rows, lent}
use Rattle.packed_inbox.proofs.Cuts.{span_without_held}
use Rattle.packed_inbox.proofs.packed_inbox.PackedInbox.others.Goals as goal

pub returns : goal.returns
returns c =
    let p = c.args.self.now in
    c.bytes_of_others.ensures ∙ ap (span_without c.args.sender) c.deref.ensures.0 ∙ sym (span_without_held c.args.sender (rows p) (lent p) p.spans)
