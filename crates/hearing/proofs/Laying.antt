-- A row that is laid: two cells, and those of the senders behind them; and what it has in each.
use Rattle.std.proofs.Common.{◌≡◌, ℕ, suc, ◌+◌, ◌<◌, ◌≤◌, List, [], ◌∷◌, map, length, get_or, set, take, drop, refl, ap, ◌∙◌, arith, length-set, length-drop}
use Rattle.std.proofs.lemmas.List.{length-take-le}
use borrow.Rule.Slice.PartMut.{put_mid}
use lib.Seq.{paste}
use Rattle.std.proofs.lemmas.List.Edits.{paste_none, paste_more, paste-paste}
use Rattle.std.proofs.lemmas.Slice.{put_mid-paste}
use Rattle.rules.specs.Rules.{Field, at, Sender, senders}

module _ {V : Type 0} (cells : List V) (base : ℕ) (elsewhere own : V) where
  two_laid : base + 2 ≤ length cells → set (set cells base elsewhere) (base + 1) own ≡ paste cells base (elsewhere ∷ own ∷ []) 2
  two_laid h =
      let xs : List V = elsewhere ∷ own ∷ [] in
      let none : base ≡ base + 0 = omega arith in
      (λ i. set (set (paste_none cells base xs i) (none i) elsewhere) (base + 1) own)
      ∙ ap (λ ys. set ys (base + 1) own) (paste_more cells base xs 0 own (omega arith) (omega arith))
      ∙ paste_more cells base xs 1 own (omega arith) (omega arith)

  pub all_laid : (held : List V) (width k : ℕ) → base + width ≤ length cells → 2 + length held ≡ width → length held ≡ k
      → put_mid (base + 2) k (set (set cells base elsewhere) (base + 1) own) held ≡ paste cells base (elsewhere ∷ own ∷ held) width
  all_laid held width k room wide long =
      put_mid-paste (base + 2) k _ held held (length held) refl long refl
      ∙ ap (λ ys. paste ys (base + 2) held (length held)) (two_laid (omega arith))
      ∙ paste-paste cells base (elsewhere ∷ own ∷ []) held 2 (length held) refl refl (omega arith)
      ∙ ap (paste cells base (elsewhere ∷ own ∷ held)) wide

  pub senders_long : (a k : ℕ) → a + k ≤ length cells → length (take k (drop a (set (set cells base elsewhere) (base + 1) own))) ≡ k
  senders_long a k h =
      let xs : List V = set (set cells base elsewhere) (base + 1) own in
      length-take-le k (drop a xs) (omega (arith, length-drop a xs, length-set (set cells base elsewhere) (base + 1) own, length-set cells base elsewhere))

-- a list that has the value of a field for each sender
pub each_sender : {V : Type 0} (f : Field V) (xs : List V) (ss : List (Sender V)) (v : V) (d : Sender V) → length xs ≡ length ss
    → ((j : ℕ) → j < length ss → get_or xs j v ≡ f (at (get_or ss j d).number)) → xs ≡ map f (map at (senders ss))
each_sender f [] [] v d e h = refl
each_sender f [] (s ∷ ss) v d e h = absurd (omega (arith, e))
each_sender f (x ∷ xs) [] v d e h = absurd (omega (arith, e))
each_sender f (x ∷ xs) (s ∷ ss) v d e h = λ i. h 0 (omega arith) i ∷ each_sender f xs ss v d (omega (arith, e)) (λ j a. h (suc j) (omega (arith, a))) i
