-- What of a row's cells is put: those that differ from the default. Assumes nothing.
use Rattle.std.specs.Prelude.{ℕ, Bool, not, cond, List, [], ◌∷◌, ◌++◌}
use Rattle.kind.specs.Kind.{Meaning}
use Rattle.record.specs.Trees.{Entry}

module _ {V : Type 0} (k : Meaning V) (d : V) where
  -- the entry of a number, if its value differs from the default
  abbrev pub kept_one : ℕ → V → List (Entry V)
  kept_one n x = cond (k.same x d) [] (record { number = n; value = x } ∷ [])

  -- those of numbers and their cells, side by side
  abbrev pub kept : List ℕ → List V → List (Entry V)
  kept [] xs = []
  kept (n ∷ ns) [] = []
  kept (n ∷ ns) (x ∷ xs) = kept_one n x ++ kept ns xs

  -- whether a value differs from the default
  abbrev pub differs : V → Bool
  differs x = not (k.same x d)
