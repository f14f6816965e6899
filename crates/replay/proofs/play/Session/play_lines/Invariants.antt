use Rattle.std.proofs.Common.{◌≤◌}
use Rattle.std.specs.Iterator.{size}
use Rattle.replay.proofs.play.Session.play_lines.Given as goal

abbrev pub invariant-loop-text : goal.invariant-loop-text
invariant-loop-text g l =
    (goal.iterator-loop-text g).can_next l.lines × (goal.iterator-loop-text g).is_finite l.lines
    × (size (g.L.Iterator.remaining l.lines) ≤ size (g.L.Iterator.remaining l.initial.lines))
