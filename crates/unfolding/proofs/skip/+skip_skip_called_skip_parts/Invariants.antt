use Rattle.std.proofs.Common.{◌+◌, ◌*◌, ◌≤◌, length}
use Rattle.program.specs.Programs.{shown}
use Rattle.unfolding.specs.Walks.{unfolded_in}
use Rattle.unfolding.proofs.Near.{Walked}
use Rattle.unfolding.proofs.skip.+skip_skip_called_skip_parts.Given as goal

-- the depth falls; a body is at the depth of its call's parts, and an expression has at most 255 parts
abbrev pub decreases-skip : goal.decreases-skip
decreases-skip l = 300 * l.depth

abbrev pub decreases-skip_called : goal.decreases-skip_called
decreases-skip_called l = 300 * l.depth + 1

abbrev pub decreases-skip_parts : goal.decreases-skip_parts
decreases-skip_parts l = 300 * l.depth + 1

-- the parts before the next are walked
abbrev pub invariant-skip_parts-loop : goal.invariant-skip_parts-loop
invariant-skip_parts-loop l = record {
  near : l.end ≤ length (shown l.program).block + 17;
  walked : Walked (unfolded_in l.program l.depth) l.count l.at l.counter l.end l.places;
}
