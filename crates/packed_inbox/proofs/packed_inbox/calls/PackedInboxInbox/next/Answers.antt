use Rattle.std.proofs.Common.{sym, ap, ◌∙◌, rules}
use Rattle.std.specs.List.{slice_get}
use Rattle.std.specs.Option.{option_map}
use Rattle.packed_inbox.proofs.Cuts.{sender}
use Rattle.packed_inbox.proofs.PackedFacts.{sender_read, next_at}
use Rattle.packed_inbox.proofs.packed_inbox.calls.PackedInboxInbox.next.Goals as goal

pub returns : goal.returns
returns c =
    let at = c.lower_bound-at.result in
    sender_read (λ x n h. search rules) c.deref.result.now at c.get.result c.map.result c.get.ensures.lookup c.map.ensures.cases
    ∙ ap (λ es. option_map sender (slice_get es at)) c.deref.ensures.0 ∙ sym (next_at c.args.self.now c.args.k at c.lower_bound-at.ensures)
