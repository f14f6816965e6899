use Rattle.std.proofs.Common.{sym, ap, ◌∙◌}
use Rattle.std.specs.Slice.Iter.{iter_rest}
use Rattle.std.proofs.lemmas.Iterator.Consumers.{count_from_yields_List}
use Rattle.slot_inbox.specs.Slots.{taken}
use Rattle.slot_inbox.proofs.Gathers.{length_by_sender}
use Rattle.slot_inbox.proofs.Taken.{gives_taken}
use Rattle.slot_inbox.proofs.slot_inbox.SlotInbox.count.Goals as goal

pub returns : goal.returns
returns c =
    let ss = c.args.self.now.slots in
    count_from_yields_List c.flatten.result c.count.result c.count.ensures.ran
    (gives_taken _ (λ s j b. (b.0, b.1)) c.flatten.result ss (ap iter_rest c.flatten.ensures.source ∙ c.iter.ensures.rest) c.flatten.ensures.front c.flatten.ensures.back c.flatten.ensures.done)
    ∙ sym (length_by_sender (taken ss))
