use Rattle.std.proofs.Common.{◌+◌, ◌*◌}
use Rattle.tree.proofs.walk.Walk.+branch_finish_walk_walk_parts.Given as goal

abbrev pub decreases-branch : goal.decreases-branch
decreases-branch g l = 300 * l.depth

abbrev pub decreases-walk : goal.decreases-walk
decreases-walk g l = 300 * l.depth + 1

abbrev pub decreases-finish : goal.decreases-finish
decreases-finish g l = 300 * l.depth + 2

abbrev pub decreases-walk_parts : goal.decreases-walk_parts
decreases-walk_parts g l = 300 * l.depth + l.count + 2
