use Rattle.std.proofs.Common.{length, sym, ap, ◌∙◌, arith}
use Rattle.inbox.specs.Contents.{Contents, holding}
use Rattle.inbox.proofs.Items.{next_held, next_empty, length_without_held}
use Rattle.inbox.proofs.generic.clear.Goals as goal

pub loop-sender-smaller : goal.loop-sender-smaller
loop-sender-smaller g c =
    let b = g.I.Inbox.meaning c.loop-sender.inbox in
    omega (
      arith,
      ap (λ (x : Contents). length x.items) c.remove.ensures.after,
      length_without_held b.items c.in-Some.sender (next_held b.items 0 c.in-Some.sender (sym c.next.ensures ∙ c.in-Some.is)),
    )

pub returns : goal.returns
returns g c =
    let b = g.I.Inbox.meaning c.loop-sender.inbox in
    ap (holding b) (next_empty b.items (sym c.next.ensures ∙ c.in_default.is)) ∙ c.loop-sender.invariant
