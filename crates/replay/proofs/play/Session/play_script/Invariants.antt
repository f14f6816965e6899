use Rattle.std.proofs.Common.{◌+◌, cond, length, is_some}
use Rattle.replay.proofs.play.Session.play_script.Given as goal

abbrev pub decreases-loop-asked : goal.decreases-loop-asked
decreases-loop-asked l = cond (is_some l.asked) (cond l.lines.done 0 (length l.lines.rest.now + 1) + 1) 0
