use Rattle.std.proofs.Common.{◌+◌, ◌*◌}
use Rattle.round.proofs.worker.Worker.+working.Given as goal

abbrev pub decreases-bind : goal.decreases-bind
decreases-bind g l = 20 * l.task.depth

abbrev pub decreases-branch : goal.decreases-branch
decreases-branch g l = 20 * l.task.depth

abbrev pub decreases-call : goal.decreases-call
decreases-call g l = 20 * l.task.depth

abbrev pub decreases-compute : goal.decreases-compute
decreases-compute g l = 20 * l.task.depth

abbrev pub decreases-exchange : goal.decreases-exchange
decreases-exchange g l = 20 * l.task.depth

abbrev pub decreases-work : goal.decreases-work
decreases-work g l = 20 * l.task.depth + 1

abbrev pub decreases-work_parts : goal.decreases-work_parts
decreases-work_parts g l = 20 * l.task.depth + l.count + 2
