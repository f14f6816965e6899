-- Cells that are made anew one after the other: what is made already, and what is left to make, is the whole.
use Rattle.std.proofs.Common.{◌≡◌, ℕ, zero, suc, ◌+◌, ◌-◌, ◌<◌, ◌≤◌, Bool, true, false, cond, List, [], ◌∷◌, ◌++◌, length, replicate, get_or, take, drop, set, sym, refl, ap, ◌∙◌, subst, arith, append-nil, append_assoc, length-drop, take_all, drop-drop, drop_of_length-le}
use Rattle.std.proofs.lemmas.List.{take-append-le, drop-append-le, drop-take}
use lib.Seq.{paste, drop-append-add}
use Rattle.std.specs.List.{filter, fold, zip}
use Rattle.row_stack.specs.Rows.{applied, chosen, gathered}

module _ {V : Type 0} where
  pub filled_step : (cells : List V) (i : ℕ) (v : V) → i < length cells → take (i + 1) (set cells i v) ++ replicate (length (set cells i v) - (i + 1)) v ≡ take i cells ++ replicate (length cells - i) v
  filled_step cells i v h = subst (λ (n : ℕ). take n (set cells i v) ++ replicate (length (set cells i v) - n) v ≡ take i cells ++ replicate (length cells - i) v) (sym (one i)) (go cells i h)
    where
      one : (i : ℕ) → i + 1 ≡ suc i
      one i = omega arith

      go : (cells : List V) (i : ℕ) → i < length cells → take (suc i) (set cells i v) ++ replicate (length (set cells i v) - suc i) v ≡ take i cells ++ replicate (length cells - i) v
      go [] i h = absurd (omega arith)
      go (x ∷ xs) zero h =
          let e : suc (length xs) - 1 ≡ length xs = omega arith in
          let z : suc (length xs) - 0 ≡ suc (length xs) = omega arith in
          rw (e, z)
      go (x ∷ xs) (suc i) h =
          let e : suc (length (set xs i v)) - suc (suc i) ≡ length (set xs i v) - suc i = omega arith in
          let z : suc (length xs) - suc i ≡ length xs - i = omega arith in
          rw (e, z) (ap (λ (l : List V). x ∷ l) (go xs i (omega arith)))

  pub filled_end : (cells : List V) (i : ℕ) (v : V) → length cells ≤ i → take i cells ++ replicate (length cells - i) v ≡ cells
  filled_end cells i v h = let z : length cells - i ≡ 0 = omega arith in rw z (append-nil (take i cells) ∙ take_all i cells h)

module _ {V : Type 0} (f : V → V → V) where
  pub applied_step : (cells others : List V) (i : ℕ) (x y v : V) → i < length cells → i < length others → v ≡ f (get_or cells i x) (get_or others i y)
      → take (i + 1) (set cells i v) ++ applied f (drop (i + 1) (set cells i v)) (drop (i + 1) others) ≡ take i cells ++ applied f (drop i cells) (drop i others)
  applied_step cells others i x y v h k is =
      subst (λ (n : ℕ). take n (set cells i v) ++ applied f (drop n (set cells i v)) (drop n others) ≡ take i cells ++ applied f (drop i cells) (drop i others)) (sym (one i)) (go cells others i h k is)
    where
      one : (i : ℕ) → i + 1 ≡ suc i
      one i = omega arith

      go : (cells others : List V) (i : ℕ) → i < length cells → i < length others → v ≡ f (get_or cells i x) (get_or others i y)
          → take (suc i) (set cells i v) ++ applied f (drop (suc i) (set cells i v)) (drop (suc i) others) ≡ take i cells ++ applied f (drop i cells) (drop i others)
      go [] others i h k is = absurd (omega arith)
      go (c ∷ cs) [] i h k is = absurd (omega arith)
      go (c ∷ cs) (o ∷ os) zero h k is = ap (λ (z : V). z ∷ applied f cs os) is
      go (c ∷ cs) (o ∷ os) (suc i) h k is = ap (λ (l : List V). c ∷ l) (go cs os i (omega arith) (omega arith) is)

  pub applied_end : (cells others : List V) (i : ℕ) → length cells ≤ i → take i cells ++ applied f (drop i cells) (drop i others) ≡ cells
  applied_end cells others i h = ap (λ (l : List V). take i cells ++ applied f l (drop i others)) (drop_of_length-le cells h) ∙ append-nil (take i cells) ∙ take_all i cells h

  -- gathering is a fold over the cells whose flag is set
  pub gathered_is : (flags : List Bool) (xs : List V) (v : V) → fold (λ (w : V) (p : V × Bool). f w p.0) v (filter (λ p. p.1) (zip xs flags)) ≡ gathered f flags xs v
  gathered_is [] [] v = refl
  gathered_is (b ∷ flags) [] v = refl
  gathered_is [] (x ∷ xs) v = refl
  gathered_is (true ∷ flags) (x ∷ xs) v = gathered_is flags xs (f v x)
  gathered_is (false ∷ flags) (x ∷ xs) v = gathered_is flags xs v

module _ {V : Type 0} (truth : V → Bool) where
  pub chosen_step : (cells ys zs : List V) (i : ℕ) (x v : V) → i < length cells → i < length ys → i < length zs → v ≡ cond (truth (get_or cells i x)) (get_or ys i v) (get_or zs i v)
      → take (i + 1) (set cells i v) ++ chosen truth (drop (i + 1) (set cells i v)) (drop (i + 1) ys) (drop (i + 1) zs) ≡ take i cells ++ chosen truth (drop i cells) (drop i ys) (drop i zs)
  chosen_step cells ys zs i x v h k l is =
      subst (λ (n : ℕ). take n (set cells i v) ++ chosen truth (drop n (set cells i v)) (drop n ys) (drop n zs) ≡ take i cells ++ chosen truth (drop i cells) (drop i ys) (drop i zs)) (sym (one i)) (go cells ys zs i h k l is)
    where
      one : (i : ℕ) → i + 1 ≡ suc i
      one i = omega arith

      go : (cells ys zs : List V) (i : ℕ) → i < length cells → i < length ys → i < length zs → v ≡ cond (truth (get_or cells i x)) (get_or ys i v) (get_or zs i v)
          → take (suc i) (set cells i v) ++ chosen truth (drop (suc i) (set cells i v)) (drop (suc i) ys) (drop (suc i) zs) ≡ take i cells ++ chosen truth (drop i cells) (drop i ys) (drop i zs)
      go [] ys zs i h k l is = absurd (omega arith)
      go (c ∷ cs) [] zs i h k l is = absurd (omega arith)
      go (c ∷ cs) (y ∷ ys) [] i h k l is = absurd (omega arith)
      go (c ∷ cs) (y ∷ ys) (z ∷ zs) zero h k l is = ap (λ (w : V). w ∷ chosen truth cs ys zs) is
      go (c ∷ cs) (y ∷ ys) (z ∷ zs) (suc i) h k m is = ap (λ (l : List V). c ∷ l) (go cs ys zs i (omega arith) (omega arith) (omega arith) is)

  pub chosen_end : (cells ys zs : List V) (i : ℕ) → length cells ≤ i → take i cells ++ chosen truth (drop i cells) (drop i ys) (drop i zs) ≡ cells
  chosen_end cells ys zs i h = ap (λ (l : List V). take i cells ++ chosen truth l (drop i ys) (drop i zs)) (drop_of_length-le cells h) ∙ append-nil (take i cells) ∙ take_all i cells h

-- cells in two parts, of which a piece of the first is made anew
module _ {V : Type 0} (cells front back : List V) (split : cells ≡ front ++ back) where
  pub piece_is : (at w n : ℕ) → at + w ≤ length front → n ≡ w → take n (drop at front) ≡ take w (drop at cells)
  piece_is at w n room e =
      let l = length-drop at front in
      ap (λ (m : ℕ). take m (drop at front)) e
      ∙ sym (take-append-le w (drop at front) back (omega arith))
      ∙ ap (take w) (sym (drop-append-le at front back (omega arith)) ∙ ap (drop at) (sym split))

  pub fellow_is : (at k w n : ℕ) → at ≡ length front + k → n ≡ w → take n (drop k back) ≡ take w (drop at cells)
  fellow_is at k w n e h =
      ap (λ (m : ℕ). take m (drop k back)) h
      ∙ ap (take w) (sym (drop-append-add front back k) ∙ ap (λ (m : ℕ). drop m (front ++ back)) (sym e) ∙ ap (drop at) (sym split))

  pub put_front : (at w n : ℕ) (made whole : List V) → at + w ≤ length front → n ≡ w → made ≡ whole → length whole ≡ w
      → (take at front ++ (made ++ drop n (drop at front))) ++ back ≡ paste cells at whole w
  put_front at w n made whole room e is long =
      append_assoc (take at front) (made ++ drop n (drop at front)) back
      ∙ ap (λ (l : List V). take at front ++ l) (append_assoc made (drop n (drop at front)) back)
      ∙ (λ j. sym (take-append-le at front back (omega arith)) j ++ (is j ++ (drop (e j) (drop at front) ++ back)))
      ∙ (λ j. take at (sym split j) ++ (sym (take_all w whole (omega arith)) j ++ behind j))
      ∙ sym (append_assoc (take at cells) (take w whole) (drop (at + w) cells))
    where
      behind : drop w (drop at front) ++ back ≡ drop (at + w) cells
      behind =
          ap (λ (l : List V). l ++ back) (drop-drop w at front)
          ∙ sym (drop-append-le (at + w) front back room)
          ∙ ap (drop (at + w)) (sym split)

-- the cells of the senders are those behind the first two of a row
pub senders_are : {V : Type 0} (cells : List V) (at w : ℕ) → 2 ≤ w → take (at + w - (at + 2)) (drop (at + 2) cells) ≡ drop 2 (take w (drop at cells))
senders_are cells at w h =
    let n : at + w - (at + 2) ≡ w - 2 = omega arith in
    let all : 2 + (w - 2) ≡ w = omega arith in
    (λ j. take (n j) (sym (drop-drop 2 at cells) j)) ∙ sym (drop-take 2 (w - 2) (drop at cells)) ∙ ap (λ (m : ℕ). drop 2 (take m (drop at cells))) all
