use Rattle.std.proofs.Common.{◌≡◌, ℕ, ◌+◌, ◌*◌, ◌<◌, ◌≤◌, get_or}
use Rattle.steps.specs.Frames.{row_after}
use Rattle.round.proofs.work.arguments.Given as goal

abbrev pub invariant-loop : goal.invariant-loop
invariant-loop l =
    (l.frame.count ≡ l.counter) × (l.top ≡ row_after l.width l.base l.counter) × (l.top ≤ l.base + 18 * l.counter)
    × ((i : ℕ) → i < l.counter → get_or l.frame.rows i 0 ≡ row_after l.width l.base i)
