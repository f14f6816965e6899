-- What is heard of the sender in a slot: the numbers of held senders rise, so it is found by its number.
use Rattle.std.proofs.Common.{◌≡◌, ℕ, zero, suc, ◌<◌, ◌≤◌, List, [], ◌∷◌, length, get_or, refl, arith, eq-eqb, ne_eqb}
use Rattle.record.specs.Trees.{says}
use Rattle.rules.specs.Rules.{Sender, senders, hears, link_to}
use Rattle.rules.specs.Laws.{RisingNumbers, number_then}

module _ {V : Type 0} where
  -- the number of a sender is at least what the numbers rise from
  pub low_nth : (ss : List (Sender V)) {low : ℕ} → RisingNumbers low (senders ss) → (j : ℕ) (d : Sender V) → j < length ss → low ≤ (get_or ss j d).number
  low_nth [] rising j d h = absurd (omega (arith, h))
  low_nth (s ∷ ss) (number_then l u r) zero d h = l
  low_nth (s ∷ ss) (number_then l u r) (suc j) d h = let n = low_nth ss r j d (omega (arith, h)) in omega (arith, n, l)

  pub hears_nth : (me p : ℕ) (ss : List (Sender V)) {low : ℕ} → RisingNumbers low (senders ss) → (j : ℕ) (d : Sender V) → j < length ss
      → hears me p (get_or ss j d).number ss ≡ says me p (get_or ss j d).tree
  hears_nth me p [] rising j d h = absurd (omega (arith, h))
  hears_nth me p (s ∷ ss) (number_then l u r) zero d h = rw (eq-eqb s.number s.number refl)
  hears_nth me p (s ∷ ss) (number_then l u r) (suc j) d h =
      let n = low_nth ss r j d (omega (arith, h)) in
      rw (ne_eqb s.number (get_or ss j d).number (λ e. omega (arith, n, e))) (hears_nth me p ss r j d (omega (arith, h)))

  pub link_nth : (unknown : V) (ss : List (Sender V)) {low : ℕ} → RisingNumbers low (senders ss) → (j : ℕ) (d : Sender V) → j < length ss
      → link_to unknown (get_or ss j d).number ss ≡ (get_or ss j d).link
  link_nth unknown [] rising j d h = absurd (omega (arith, h))
  link_nth unknown (s ∷ ss) (number_then l u r) zero d h = rw (eq-eqb s.number s.number refl)
  link_nth unknown (s ∷ ss) (number_then l u r) (suc j) d h =
      let n = low_nth ss r j d (omega (arith, h)) in
      rw (ne_eqb s.number (get_or ss j d).number (λ e. omega (arith, n, e))) (link_nth unknown ss r j d (omega (arith, h)))
