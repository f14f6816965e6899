-- What follows from a kind's laws, for code over any kind.
use Rattle.std.proofs.Common.{◌≡◌, ℕ, ◌+◌, ◌-◌, ◌≤◌, List, ◌++◌, length, take, drop, Some, sym, ap, ◌∙◌, append-nil, arith, length-take}
use borrow.Rule.Slice.PartMut.{put_mid, post_of, Post-is}
use Rattle.std.proofs.lemmas.List.{take_at, drop_all}
use Rattle.kind.specs.Kind.{Meaning, Lawful}

module _ {V : Type 0} (m : Meaning V) (l : Lawful m) where
  -- the front of what begins with a written value
  pub take_written : (v : V) (rest : List ℕ) → take m.width (m.written v ++ rest) ≡ m.written v
  take_written v rest = take_at (m.written v) rest m.width (l.long v)

  -- a writing is one value's only
  pub written_injective : (a b : V) → m.written a ≡ m.written b → a ≡ b
  written_injective a b e = let s : Some a ≡ Some b = sym (l.back a) ∙ ap m.read e ∙ l.back b in cc

  -- a value written over the part of a list from a on
  pub written_at :
      (v : V) (xs ys : List ℕ) (a w : ℕ) → w ≡ m.width → ys ≡ m.written v ++ drop m.width (take (a + w - a) (drop a xs))
      → put_mid a (a + w - a) xs ys ≡ take a xs ++ (m.written v ++ drop (a + w) xs)
  written_at v xs ys a w h e =
      let t : List ℕ = take (a + w - a) (drop a xs) in
      let n : length t ≤ m.width = simp length-take (omega arith) in
      let f : ys ≡ m.written v = e ∙ ap (λ z. m.written v ++ z) (drop_all m.width t n) ∙ append-nil (m.written v) in
      ap (λ z. take a xs ++ (z ++ post_of a (a + w - a) xs)) f
      ∙ ap (λ z. take a xs ++ (m.written v ++ z)) (Post-is a (a + w) xs (omega arith))
