-- A loop over the held senders by next: k is the least sender left, n how many were found.
use Rattle.std.proofs.Common.{◌≡◌, ℕ, suc, ◌+◌, ◌-◌, ◌<◌, ◌≤◌, List, [], ◌∷◌, length, get_or, take, drop, Some, None, sym, refl, ◌∙◌, subst, ⊎_elim, add-one, arith}
use Rattle.std.specs.List.{AllByRecursion}
use Rattle.std.proofs.ByRecursion.{All-weaker, All-drop}
use Rattle.std.proofs.lemmas.Bool.{cases_lt}
use Rattle.std.proofs.lemmas.List.{drop_more, length-drop}
use Rattle.inbox.specs.Contents.{Item, Rising}
use Rattle.inbox.specs.Calls.{next_sender}
use Rattle.inbox.specs.Search.{LowerBound, no_item}
use Rattle.inbox.proofs.Items.{Above, next_some, next_none, below_more, rising_above, split_row}

module _ (is : List Item) (k n : ℕ) (here : LowerBound is k n) where
  pub bound_found : (s : ℕ) → next_sender is k ≡ Some s → (n < length is) × ((get_or is n no_item).sender ≡ s)
  bound_found s e = ⊎_elim
      (λ (h : n < length is). let f = next_some is k n no_item here h in (h, cc))
      (λ (h : length is ≤ n). let f = next_none is k n here h in absurd (let z : ◌≡◌ {A = ℕ} 0 1 = cc in let y : ⊥ = omega arith in y))
      (cases_lt n (length is))

  pub bound_done : next_sender is k ≡ None → length is ≡ n
  bound_done e = ⊎_elim
      (λ (h : n < length is). let f = next_some is k n no_item here h in absurd (let z : ◌≡◌ {A = ℕ} 0 1 = cc in let y : ⊥ = omega arith in y))
      (λ (h : length is ≤ n). let r = here.in_range in omega arith)
      (cases_lt n (length is))

  module _ (s : ℕ) (rises : Rising is) (e : next_sender is k ≡ Some s) where
    after_found : Above s (drop (suc n) is)
    after_found =
        let f = bound_found s e in
        subst (λ t. Above t (drop (suc n) is)) f.1 (rising_above (take n is) (drop (suc n) is) (get_or is n no_item) (subst Rising (split_row is n no_item f.0) rises))

    pub bound_step : LowerBound is (s + 1) (n + 1)
    bound_step =
        let f = bound_found s e in
        let h = f.0 in
        let own = f.1 in
        let up : k ≤ (get_or is n no_item).sender = (subst (AllByRecursion (λ x. k ≤ x.sender)) (drop_more is n no_item h) here.above).0 in
        record {
          in_range = omega arith;
          below = below_more (s + 1) is n no_item h (All-weaker (λ x. x.sender < k) (λ x. x.sender < s + 1) (λ x l. omega arith) (take n is) here.below) (omega arith);
          above = subst (λ m. AllByRecursion (λ x. s + 1 ≤ x.sender) (drop m is)) (sym (add-one n)) (All-weaker (λ x. s < x.sender) (λ x. s + 1 ≤ x.sender) (λ x l. omega arith) (drop (suc n) is) after_found);
        }

    pub bound_last : AllByRecursion (λ i. i.sender < 65536) is → s ≡ 65535 → length is ≡ n + 1
    bound_last small z =
        let f = bound_found s e in
        let h = f.0 in
        let d : length is - suc n ≡ 0 = sym (length-drop (suc n) is) ∙ none (drop (suc n) is) after_found (All-drop (λ i. i.sender < 65536) (suc n) is small) in
        omega arith
      where
        none : (q : List Item) → Above s q → AllByRecursion (λ i. i.sender < 65536) q → length q ≡ 0
        none [] a b = refl
        none (x ∷ q) a b = absurd (let l = a.0 in let m = b.0 in let y : ⊥ = omega arith in y)
