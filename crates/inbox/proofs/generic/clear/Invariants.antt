use Rattle.std.proofs.Common.{◌≡◌, [], length}
use Rattle.inbox.specs.Contents.{holding}
use Rattle.inbox.proofs.generic.clear.Given as goal

abbrev pub invariant-loop-sender : goal.invariant-loop-sender
invariant-loop-sender g l = holding (g.I.Inbox.meaning l.inbox) [] ≡ holding (g.I.Inbox.meaning l.initial.inbox) []

abbrev pub decreases-loop-sender : goal.decreases-loop-sender
decreases-loop-sender g l = length (g.I.Inbox.meaning l.inbox).items
