-- What ifs and exchanges leave behind: cursors, and the record of a row.
use Rattle.std.proofs.Common.{◌≡◌, ℕ, zero, suc, ◌<◌, ◌≤◌, List, [], ◌∷◌, map, length, get_or, take, sym, refl, ap, ◌∙◌, subst, arith, length-take-le, get_or-take, ext_get_or}
use Rattle.kind.specs.Kind.{Meaning}
use Rattle.record.specs.declared.output.Output.{Output}
use Rattle.record.specs.Writing.{written_record}
use Rattle.rules.specs.Rules.{Sender, Field, Given, senders, record_of}
use Rattle.cursor.proofs.Standing.{stands_later}
use Rattle.held.proofs.Senders.{loaded_number}
use Rattle.hearing.specs.declared.inputs.Inputs.{Inputs}
use Rattle.hearing.specs.declared.cursors.Cursors.{Cursors}
use Rattle.hearing.specs.Hearing.{spots, Gives, Standing}
use Rattle.sending.specs.Sending.{Put}
use Rattle.sending.proofs.Puts.{put_record_of}

-- cursors that stand at a place stand at each later one
pub standing_later : {V : Type 0} {k : Meaning V} {x : Inputs} {g : Given V} {low low' : ℕ} {c : Cursors} → Standing k x g low c → low ≤ low' → Standing k x g low' c
standing_later s h = record { senders = λ j d l. stands_later (s.senders j d l) h; own = stands_later s.own h }

senders_long : {V : Type 0} (ss : List (Sender V)) → length (senders ss) ≡ length ss
senders_long [] = refl
senders_long (s ∷ ss) = ap suc (senders_long ss)

senders_nth : {V : Type 0} (ss : List (Sender V)) (j : ℕ) (d : Sender V) → j < length ss → get_or (senders ss) j 0 ≡ (get_or ss j d).number
senders_nth [] j d h = absurd (omega (arith, h))
senders_nth (s ∷ ss) zero d h = refl
senders_nth (s ∷ ss) (suc j) d h = senders_nth ss j d (omega (arith, h))

module _ {V : Type 0} (k : Meaning V) (x : Inputs) (g : Given V) (gives : Gives k x g) where
  -- the numbers in the slots are those of the held senders
  pub slot_numbers : take x.slots.now.count x.slots.now.numbers ≡ senders g.held
  slot_numbers =
      let s = x.slots.now in
      let few = s.few in
      let numbered = s.numbered in
      let many = gives.held.many in
      let long = senders_long g.held in
      let short = length-take-le s.count s.numbers (omega (arith, few, numbered)) in
      ext_get_or 0 (take s.count s.numbers) (senders g.held) (omega (arith, many, long, short)) (λ j h. same j (omega (arith, h, short)))
    where
      none : Sender V
      none = record { number = 0; link = k.own; tree = [] }

      same : (j : ℕ) → j < x.slots.now.count → get_or (take x.slots.now.count x.slots.now.numbers) j 0 ≡ get_or (senders g.held) j 0
      same j h =
          let many = gives.held.many in
          get_or-take x.slots.now.count x.slots.now.numbers j 0 h
          ∙ loaded_number gives.held j none h
          ∙ sym (senders_nth g.held j none (omega (arith, h, many)))

  -- the record that was put from the row of a field
  pub put_means : (f : Field V) (p : ℕ) (xs : List V) {o o' : Output} (put : Put k p x.node (take x.slots.now.count x.slots.now.numbers) xs o o')
      → xs ≡ map f (spots g) → put.bytes ≡ written_record k (record_of k g p f)
  put_means f p xs {o} {o'} put row =
      let Means : ℕ → List ℕ → List V → Type 0 = λ me ns ys. (q : Put k p me ns ys o o') → q.bytes ≡ written_record k (record_of k g p f) in
      let start : Means g.number (senders g.held) (map f (spots g)) = λ q. put_record_of k g f q in
      subst (λ (ys : List V). Means x.node (take x.slots.now.count x.slots.now.numbers) ys) (sym row)
      (subst (λ (ns : List ℕ). Means x.node ns (map f (spots g))) (sym slot_numbers)
      (subst (λ (me : ℕ). Means me (senders g.held) (map f (spots g))) gives.number start))
      put
