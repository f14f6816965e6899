-- Agreement of trees is saying the same. Assumes nothing.
use Rattle.std.proofs.Common.{◌≡◌, ℕ, Bool, true, false, cond, ◌||◌, eqb, List, [], ◌∷◌, sym, refl, ◌∙◌, arith}
use Rattle.record.specs.Trees.{Rec, choice, sent, place_of, has_place, Said, silent, chose, reads, record_says, says, Agree, neither, same_choice, read_alike}
use Rattle.record.specs.Laws.{Agreement}

module _ {V : Type 0} (n p : ℕ) where
  never_silent : (r : Rec V) → record_says n r ≡ silent → ⊥
  never_silent (choice q b) e = let z : ◌≡◌ {A = ℕ} 0 1 = cc in omega arith
  never_silent (sent q d es) e = let z : ◌≡◌ {A = ℕ} 0 1 = cc in omega arith

  -- a tree is silent at a place exactly when it has no such place
  unsaid : (rs : List (Rec V)) → has_place p rs ≡ false → says n p rs ≡ silent
  unsaid [] h = refl
  unsaid (r ∷ rs) h = go (eqb (place_of r) p) (unsaid rs) h
    where
      go : (t : Bool) → (has_place p rs ≡ false → says n p rs ≡ silent) → t || has_place p rs ≡ false → cond t (record_says n r) (says n p rs) ≡ silent
      go true f e = let z : ◌≡◌ {A = Bool} true false = e in let y : ◌≡◌ {A = ℕ} 0 1 = cc in absurd (omega arith)
      go false f e = f e

  absent : (rs : List (Rec V)) → says n p rs ≡ silent → has_place p rs ≡ false
  absent [] h = refl
  absent (r ∷ rs) h = go (eqb (place_of r) p) (absent rs) h
    where
      go : (t : Bool) → (says n p rs ≡ silent → has_place p rs ≡ false) → cond t (record_says n r) (says n p rs) ≡ silent → t || has_place p rs ≡ false
      go true f e = absurd (never_silent r e)
      go false f e = f e

  same : {rs ss : List (Rec V)} → Agree n p rs ss → says n p rs ≡ says n p ss
  same {rs} {ss} (neither a b) = unsaid rs a ∙ sym (unsaid ss b)
  same (same_choice b x y) = x ∙ sym y
  same (read_alike v x y) = x ∙ sym y

  by_said : (rs ss : List (Rec V)) (s : Said V) → says n p rs ≡ s → says n p ss ≡ s → Agree n p rs ss
  by_said rs ss silent x y = neither (absent rs x) (absent ss y)
  by_said rs ss (chose b) x y = same_choice b x y
  by_said rs ss (reads v) x y = read_alike v x y

pub agrees_as_said : {V : Type 0} (n p : ℕ) (rs ss : List (Rec V)) → Agreement n p rs ss
agrees_as_said n p rs ss = record { same_said = same n p; agrees = λ e. by_said n p rs ss (says n p ss) e refl }
