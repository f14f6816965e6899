use Rattle.std.proofs.Common.{◌*◌, [], None, ap, sym, subst, rules, arith}
use Rattle.inbox.specs.Contents.{Lawful, empty_contents, holding, longest_item}
use Rattle.slot_inbox.specs.Slots.{by_sender, Apart}
use Rattle.slot_inbox.proofs.Gathers.{none_taken}
use Rattle.slot_inbox.proofs.slot_inbox.SlotInbox.new.Goals as goal

pub invariant_of-result : goal.invariant_of-result
invariant_of-result c =
    let m = c.args.limits in
    let n = c.from_fn.ensures.items.long in
    let none = none_taken c.from_fn.result (λ i l. let k = c.from_fn.ensures.items.at i None (omega arith) in search rules) in
    let b = empty_contents m.senders (longest_item * m.senders) m.life in
    let ok : Lawful (holding b []) = record {
      some = m.some;
      most = m.most;
      lives = m.lives;
      short = m.short;
      few = omega arith;
      rising = tt;
      numbers = tt;
      fits = tt;
      young = tt;
      within = omega arith;
    } in
    record {
      full = n;
      lawful = ∣ subst (λ ss. Lawful (holding b (by_sender ss))) (sym none) ok ∣₁;
      distinct = ∣ subst Apart (sym none) tt ∣₁;
    }

pub returns : goal.returns
returns c =
    let n = c.from_fn.ensures.items.long in
    let none = none_taken c.from_fn.result (λ i l. let k = c.from_fn.ensures.items.at i None (omega arith) in search rules) in
    let m = c.args.limits in
    ap (λ ss. holding (empty_contents m.senders (longest_item * m.senders) m.life) (by_sender ss)) none
