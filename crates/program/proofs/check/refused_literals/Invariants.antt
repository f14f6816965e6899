use Rattle.std.proofs.Common.{◌≡◌, ℕ, ◌+◌, ◌<◌, ◌≤◌, false, length, get_or, take, drop}
use Rattle.program.specs.Verdict.{refused_by}
use Rattle.program.proofs.check.refused_literals.Given as goal

abbrev pub invariant-loop-at : goal.invariant-loop-at
invariant-loop-at g l = (j : ℕ) → j < l.at → j + l.width ≤ length l.bytes → get_or l.flag-items j false ≡ refused_by g.K.Kind.meaning (take l.width (drop j l.bytes))
