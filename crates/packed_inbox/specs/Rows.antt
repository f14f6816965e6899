-- Items that lie end to end, by a table of their senders, ages and lengths. Assumes nothing.
use Rattle.std.specs.Prelude.{ℕ, ◌+◌, not, ◌==◌, List, [], ◌∷◌, filter, take, drop}
use Rattle.inbox.specs.Contents.{Item}
use Rattle.packed_inbox.specs.declared.row.Row.{Row}

-- the item of a row whose bytes begin m
abbrev pub row_item : Row → List ℕ → Item
row_item e m = record { sender = e.sender; age = e.age; bytes = take e.len m }

-- the items of the rows, cut from the front of m one behind the other
abbrev pub cut : List Row → List ℕ → List Item
cut [] m = []
cut (e ∷ es) m = row_item e m ∷ cut es (drop e.len m)

-- how many bytes the rows' items have together
abbrev pub span : List Row → ℕ
span [] = 0
span (e ∷ es) = e.len + span es

-- the same without the rows of the sender
abbrev pub span_without : ℕ → List Row → ℕ
span_without s es = span (filter (λ e. not (e.sender == s)) es)
