use Rattle.std.proofs.Common.{ℕ, ◌-◌, ◌≤◌, List, length}
use Rattle.record.specs.Trees.{Rec}
use Rattle.cursor.specs.Cursors.{Readable, Stands}
use Rattle.cursor.proofs.cursor.seek.Given as goal

abbrev pub invariant-loop-found : goal.invariant-loop-found
invariant-loop-found g l = (rs : List (Rec g.row.K-Value.Denot)) (low : ℕ) → Readable g.K.Kind.meaning l.tree rs → Stands g.K.Kind.meaning l.tree rs low l.from → low ≤ l.place → Stands g.K.Kind.meaning l.tree rs l.place l.at

abbrev pub decreases-loop-found : goal.decreases-loop-found
decreases-loop-found g l = length l.tree - l.at
