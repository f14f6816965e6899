-- What a lawful inbox holds is in order for a round.
use Rattle.std.proofs.Common.{◌≡◌, ℕ, ◌+◌, ◌<◌, ◌≤◌, Bool, true, false, cond, not, ◌&&◌, eqb, leb, ◌≢◌, List, [], ◌∷◌, length, take, drop, Some, None, Ok, Err, Option, sym, refl, ap, ◌∙◌, subst, arith, eqb-true}
use borrow.Author.Tests.{eqb-false, not-true}
use Rattle.std.specs.List.{AllByRecursion}
use Rattle.refusal.specs.Outcomes.{Outcome, must}
use Rattle.refusal.proofs.Outcomes.{after_ok, must_ok, ok_same}
use Rattle.kind.specs.Kind.{Meaning}
use Rattle.record.specs.Fields.{byte_at, pair_at, quad_at}
use Rattle.record.specs.Headers.{header, header_length, most_bytes, version, count_offset, program_offset, sender_offset, counted}
use Rattle.record.specs.Messages.{message, records}
use Rattle.record.specs.Plans.{Plan}
use Rattle.record.specs.Trees.{Tree}
use Rattle.inbox.specs.Contents.{Item, Rising}
use Rattle.rules.specs.Rules.{Sender, senders}
use Rattle.rules.specs.Held.{sender_with, before, sender_in, held_in}
use Rattle.rules.specs.Laws.{RisingNumbers, no_number, number_then, Apart, alone, from, HeldOrderly}

-- an accepted message is another node's
header_other : (program me : ℕ) (m : List ℕ) (s : ℕ) → header program me m ≡ Ok s → s ≢ me
header_other program me m s e =
    let c1 = after_ok (must (leb header_length (length m) && leb (length m) most_bytes) _ _) _ s e in
    let c2 = after_ok (must (eqb (byte_at m 0) version) _ _) _ s c1.2 in
    let c3 = after_ok (must (eqb (pair_at m count_offset) (counted (length m))) _ _) _ s c2.2 in
    let c4 = after_ok (must (eqb (quad_at m program_offset) program) _ _) _ s c3.2 in
    let c5 = after_ok (must (not (eqb (pair_at m sender_offset) me)) _ _) _ s c4.2 in
    let apart = eqb-false _ _ (not-true _ (must_ok _ _ _ _ c5.1)) in
    λ f. apart (ok_same _ _ c5.2 ∙ f)

tree_other : {V : Type 0} (k : Meaning V) (plan : Plan) (program me : ℕ) (m : List ℕ) (t : Tree V) → message k plan program me m ≡ Ok t → t.sender ≢ me
tree_other k plan program me m t e =
    let c1 = after_ok (header program me m) _ t e in
    let c2 = after_ok (records k m plan header_length) _ t c1.2 in
    let c3 = after_ok (must (eqb c2.0.1 (length m)) _ _) _ t c2.2 in
    λ f. header_other program me m c1.0 c1.1 (ap (λ (x : Tree _). x.sender) (ok_same _ _ c3.2) ∙ f)

module _ {V : Type 0} (k : Meaning V) (plan : Plan) (program me : ℕ) where
  -- of what a sender out of an item is: nothing, or one with the item's number, which is not the node's
  data Taken (i : Item) : Option (Sender V) → Type 0 where
    not_held : Taken i None
    is_held : {s : Sender V} → s.number ≡ i.sender → i.sender ≢ me → Taken i (Some s)

  taken : (i : Item) → Taken i (sender_in k plan program me i)
  taken i = go (k.read (take k.width i.bytes)) (message k plan program me (drop k.width i.bytes)) refl
    where
      under : (v : V) (t : Tree V) (b : Bool) → eqb t.sender i.sender ≡ b → t.sender ≢ me → Taken i (cond b (Some (record { number = i.sender; link = v; tree = t.records })) None)
      under v t true e d = is_held refl (λ f. d (eqb-true _ _ e ∙ f))
      under v t false e d = not_held

      go : (v : Option V) (t : Outcome (Tree V)) → message k plan program me (drop k.width i.bytes) ≡ t → Taken i (sender_with i.sender v t)
      go None t e = not_held
      go (Some v) (Err r) e = not_held
      go (Some v) (Ok t) e = under v t (eqb t.sender i.sender) refl (tree_other k plan program me (drop k.width i.bytes) t e)

  few_held : (is : List Item) → length (senders (held_in k plan program me is)) ≤ length is
  few_held [] = omega arith
  few_held (i ∷ is) = go (sender_in k plan program me i) (few_held is)
    where
      go : (s : Option (Sender V)) → length (senders (held_in k plan program me is)) ≤ length is → length (senders (before s (held_in k plan program me is))) ≤ length (i ∷ is)
      go None h = omega (arith, h)
      go (Some s) h = omega (arith, h)

  apart_held : (is : List Item) → Apart me (senders (held_in k plan program me is))
  apart_held [] = alone
  apart_held (i ∷ is) = go (taken i) (apart_held is)
    where
      go : {s : Option (Sender V)} → Taken i s → Apart me (senders (held_in k plan program me is)) → Apart me (senders (before s (held_in k plan program me is)))
      go not_held h = h
      go (is_held e d) h = from (λ f. d (sym e ∙ sym f)) h

  rising_held : (low : ℕ) (is : List Item) → AllByRecursion (λ j. low ≤ j.sender) is → Rising is → AllByRecursion (λ j. j.sender < 65536) is → RisingNumbers low (senders (held_in k plan program me is))
  rising_held low [] a r s = no_number
  rising_held low (i ∷ is) a r s = go (taken i) (rising_held (i.sender + 1) is (above is r.0) r.1 s.1) (rising_held low is a.1 r.1 s.1)
    where
      above : (js : List Item) → AllByRecursion (λ j. i.sender < j.sender) js → AllByRecursion (λ j. i.sender + 1 ≤ j.sender) js
      above [] h = tt
      above (j ∷ js) h = (omega (arith, h.0), above js h.1)

      go : {t : Option (Sender V)} → Taken i t → RisingNumbers (i.sender + 1) (senders (held_in k plan program me is)) → RisingNumbers low (senders (held_in k plan program me is)) → RisingNumbers low (senders (before t (held_in k plan program me is)))
      go not_held x y = y
      go (is_held e d) x y = number_then (omega (arith, e, a.0)) (omega (arith, e, s.0)) (subst (λ (n : ℕ). RisingNumbers (n + 1) (senders (held_in k plan program me is))) (sym e) x)

  all_low : (is : List Item) → AllByRecursion (λ j. 0 ≤ j.sender) is
  all_low [] = tt
  all_low (i ∷ is) = (omega arith, all_low is)

pub held_orderly : (V : Type 0) → HeldOrderly V
held_orderly V k plan program c l g o e = record {
  own = o;
  few = subst (λ (ss : List (Sender V)). length (senders ss) ≤ 16) (sym e) (omega (arith, few_held k plan program g.number c.items, l.few, l.most));
  rising = subst (λ (ss : List (Sender V)). RisingNumbers 0 (senders ss)) (sym e) (rising_held k plan program g.number 0 c.items (all_low k plan program g.number c.items) l.rising l.numbers);
  apart = subst (λ (ss : List (Sender V)). Apart g.number (senders ss)) (sym e) (apart_held k plan program g.number c.items);
}
