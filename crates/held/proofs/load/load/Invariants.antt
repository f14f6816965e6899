use Rattle.std.proofs.Common.{◌≡◌, ◌-◌, length}
use Rattle.held.proofs.Turns.{Sofar}
use Rattle.held.proofs.load.load.Given as goal

abbrev pub invariant-loop-sender : goal.invariant-loop-sender
invariant-loop-sender g l = record {
  long : length l.bytes ≡ length l.initial.bytes;
  sofar : Sofar g.K.Kind.meaning l.program l.node (g.I.Inbox.meaning l.inbox).items l.bytes l.slots l.from;
}

abbrev pub decreases-loop-sender : goal.decreases-loop-sender
decreases-loop-sender g l = 65536 - l.from
