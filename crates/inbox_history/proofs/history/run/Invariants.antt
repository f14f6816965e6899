use Rattle.std.proofs.Common.{◌≡◌}
use Rattle.inbox_history.proofs.history.run.Given as goal

-- inboxes that held the same still do
abbrev pub invariant-loop-call : goal.invariant-loop-call
invariant-loop-call g l = g.A.Inbox.meaning l.initial.one ≡ g.B.Inbox.meaning l.initial.two → g.A.Inbox.meaning l.one ≡ g.B.Inbox.meaning l.two
