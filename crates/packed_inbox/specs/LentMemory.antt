-- What the lent memory of a packed inbox holds after a call. Assumes nothing.
use Rattle.std.specs.Prelude.{◌≡◌, ℕ, ◌+◌, cond, List, [], ◌∷◌, ◌++◌, drop}
use Rattle.inbox.specs.Contents.{Item, Contents, lasts, bytes_held}
use Rattle.inbox.specs.Calls.{older}
use Rattle.packed_inbox.specs.declared.memory.Memory.{Memory}

-- n is the memory that was lent to m, and it holds these bytes
pub record Rewrites (m n : Memory) (bytes : List ℕ) : Type 0 where
  pub lender : n.bytes.ghost_name ≡ m.bytes.ghost_name
  pub after : n.bytes.now ≡ bytes

-- the items' bytes, one behind the other
abbrev pub end_to_end : List Item → List ℕ
end_to_end [] = []
end_to_end (i ∷ is) = i.bytes ++ end_to_end is

-- memory m with the items at its front; the bytes behind them are as they were
abbrev pub laid_in : List Item → List ℕ → List ℕ
laid_in is m = end_to_end is ++ drop (bytes_held is) m

-- memory after passing: the items are looked at one after the other, and each time that one ends the others are laid in
abbrev pub passed : ℕ → List Item → List Item → List ℕ → List ℕ
passed life done [] m = m
passed life done (i ∷ is) m = cond (lasts life (i.age + 1))
    (passed life (done ++ older i ∷ []) is m)
    (passed life done is (laid_in (done ++ is) m))

abbrev pub memory_after_passing : Contents → List ℕ → List ℕ
memory_after_passing c m = passed c.life [] c.items m
