use Rattle.std.proofs.Common.{ℕ, ◌<◌, false, get_or}
use Rattle.hearing.proofs.Following.{Stays}
use Rattle.hearing.proofs.follow.narrow.Given as goal

abbrev pub invariant-loop-j : goal.invariant-loop-j
invariant-loop-j g l = (i : ℕ) → i < l.j → Stays g.K.Kind.meaning l.x l.place l.first i (get_or l.cursors.senders i 0) (get_or l.aligned i false) (get_or l.stays-items i false)
