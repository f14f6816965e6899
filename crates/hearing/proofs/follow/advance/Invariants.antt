use Rattle.std.proofs.Common.{◌≡◌, ℕ, ◌<◌, ◌≤◌, get_or}
use Rattle.hearing.proofs.Following.{Moves}
use Rattle.hearing.proofs.follow.advance.Given as goal

abbrev pub invariant-loop-j : goal.invariant-loop-j
invariant-loop-j g l = record {
  moved : (i : ℕ) → i < l.j → Moves g.K.Kind.meaning l.x l.place i (get_or l.cursors.senders i 0) (get_or l.at-items i 0);
  left : (i : ℕ) → l.j ≤ i → get_or l.at-items i 0 ≡ get_or l.initial.at-items i 0;
}
