use Rattle.std.proofs.Common.{ap, ◌∙◌, rules, tests}
use Rattle.std.specs.Slice.Iter.{iter_rest}
use Rattle.std.proofs.lemmas.Iterator.Search.{find_from_yields_List}
use Rattle.slot_inbox.proofs.Taken.{gives_taken}
use Rattle.slot_inbox.proofs.slot_inbox.SlotInbox.find.Goals as goal

pub returns : goal.returns
returns c =
    let ss = c.args.self.now.slots in
    find_from_yields_List _ _ _ c.find.result c.find.ensures.ran
    (gives_taken _ (λ s j b. (b.0, b.1)) c.flatten.result ss (ap iter_rest c.flatten.ensures.source ∙ c.iter.ensures.rest) c.flatten.ensures.front c.flatten.ensures.back c.flatten.ensures.done)
    (λ x b q k. search (rules, tests))
