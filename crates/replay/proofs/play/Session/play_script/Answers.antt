use Rattle.replay.proofs.Asked.{fewer_left}
use Rattle.replay.proofs.play.Session.play_script.Goals as goal

pub loop-asked-smaller-in_ok-asked-in-Slot : goal.loop-asked-smaller-in_ok-asked-in-Slot
loop-asked-smaller-in_ok-asked-in-Slot c = fewer_left _ _ c.in_ok-asked-in-Slot.asked _ _ _ _ c.in-Some.is c.in_ok-asked-in-Slot.ensures

pub loop-asked-smaller : goal.loop-asked-smaller
loop-asked-smaller c = fewer_left _ _ c.in_ok-asked-in-Packed.asked _ _ _ _ c.in-Some.is c.in_ok-asked-in-Packed.ensures
