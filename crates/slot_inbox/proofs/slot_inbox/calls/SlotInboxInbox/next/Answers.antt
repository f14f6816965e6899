use Rattle.std.proofs.Common.{leb, sym, ap, ◌∙◌, rules, tests}
use Rattle.std.specs.Slice.Iter.{iter_rest}
use Rattle.std.proofs.lemmas.Iterator.{YieldsList-from_map}
use Rattle.std.proofs.lemmas.Iterator.Adapters.{option_map_id}
use Rattle.std.proofs.lemmas.Iterator.Consumers.{YieldsList-at, YieldsList-from_filter, min_from_yields_List}
use Rattle.slot_inbox.specs.declared.slot.Slot.{Slot}
use Rattle.slot_inbox.specs.Slots.{taken}
use Rattle.slot_inbox.proofs.Gathers.{next_found}
use Rattle.slot_inbox.proofs.Taken.{gives_taken}
use Rattle.slot_inbox.proofs.slot_inbox.calls.SlotInboxInbox.next.Goals as goal

pub returns : goal.returns
returns c =
    let ss = c.args.self.now.slots in
    sym (option_map_id c.min.result)
    ∙ min_from_yields_List c.filter.result c.min.result c.min.ensures.ran
    (YieldsList-from_filter _ (λ n. leb c.args.k n) (YieldsList-at c.filter.ensures.source
    (YieldsList-from_map _ (λ (s : Slot). s.sender) (YieldsList-at c.map.ensures.source
    (gives_taken _ (λ s j b. (b.0, b.1)) c.flatten.result ss (ap iter_rest c.flatten.ensures.source ∙ c.iter.ensures.rest) c.flatten.ensures.front c.flatten.ensures.back c.flatten.ensures.done))
    c.map.ensures.closure (λ x r q k. search (rules, tests)))) c.filter.ensures.closure (λ x r q k. search (rules, tests)))
    ∙ sym (next_found (taken ss) c.args.k)
