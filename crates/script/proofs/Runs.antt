-- Where the first byte that stops stands. Assumes nothing.
use Rattle.std.proofs.Common.{◌≡◌, ℕ, suc, ◌+◌, ◌-◌, ◌<◌, ◌≤◌, Bool, true, false, cond, not, ltb, List, [], ◌∷◌, length, take, drop, Option, Some, None, unwrap_or, sym, refl, ap, ◌∙◌, arith, length-drop, length-take}
use Rattle.std.proofs.lemmas.Bool.Decides.{nat_tests}
use Rattle.std.proofs.lemmas.List.{take_all, drop_all}
use Rattle.std.proofs.lemmas.List.Sums.{prefix_len-le-length}
use Rattle.std.specs.List.{position_or_len}
use Rattle.script.specs.Script.{before, from}

next : (n : ℕ) → 1 + n ≡ suc n
next n = omega arith

before_is : (p : ℕ → Bool) (text : List ℕ) → take (position_or_len p text) text ≡ before p text
before_is p [] = refl
before_is p (b ∷ bs) =
    elim (p b) as (λ t. take (cond (not t) (1 + position_or_len p bs) 0) (b ∷ bs) ≡ cond t [] (b ∷ before p bs)) [
      | true ↦ refl
      | false ↦ ap (λ n. take n (b ∷ bs)) (next (position_or_len p bs)) ∙ ap (λ (l : List ℕ). b ∷ l) (before_is p bs)
    ]

from_is : (p : ℕ → Bool) (text : List ℕ) → drop (position_or_len p text) text ≡ from p text
from_is p [] = refl
from_is p (b ∷ bs) =
    elim (p b) as (λ t. drop (cond (not t) (1 + position_or_len p bs) 0) (b ∷ bs) ≡ cond t (b ∷ bs) (from p bs)) [
      | true ↦ refl
      | false ↦ ap (λ n. drop n (b ∷ bs)) (next (position_or_len p bs)) ∙ from_is p bs
    ]

-- a text that is split at the position that was found, or at its end
module _ (p : ℕ → Bool) (text : List ℕ) {r : Option ℕ} (found : r ≡ cond (ltb (position_or_len p text) (length text)) (Some (position_or_len p text)) None) where
  found_or_length : unwrap_or r (length text) ≡ position_or_len p text
  found_or_length = let h = prefix_len-le-length (λ x. not (p x)) text in grind (arith, nat_tests)

  pub front_is : {n : ℕ} {front : List ℕ} → n ≡ unwrap_or r (length text) → front ≡ take n text → front ≡ before p text
  front_is e f = f ∙ ap (λ m. take m text) (e ∙ found_or_length) ∙ before_is p text

  pub back_is : {n : ℕ} {back : List ℕ} → n ≡ unwrap_or r (length text) → back ≡ drop n text → back ≡ from p text
  back_is e f = f ∙ ap (λ m. drop m text) (e ∙ found_or_length) ∙ from_is p text

-- nothing stands behind the end
pub none_behind : (back rest : List ℕ) → back ≡ rest → length back < 1 → back ≡ drop 1 rest
none_behind back rest e h = drop_all 0 back (omega arith) ∙ sym (drop_all 1 back (omega arith)) ∙ ap (drop 1) e

-- behind the byte that stopped a run, as a pattern cuts it
pub behind : (back rest : List ℕ) → back ≡ rest → take (length back - 1) (drop 1 back) ≡ drop 1 rest
behind back rest e = take_all (length back - 1) (drop 1 back) (omega (arith, length-drop 1 back)) ∙ ap (drop 1) e

pub behind_is_shorter : (back text : List ℕ) → 1 ≤ length back → length back ≤ length text → length (take (length back - 1) (drop 1 back)) < length text
behind_is_shorter back text h g = omega (arith, length-take (length back - 1) (drop 1 back), length-drop 1 back)
