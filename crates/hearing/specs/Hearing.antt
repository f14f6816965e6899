-- What a round is given, as it lies in memory, and how it stands in the trees. Assumes nothing.
use Rattle.std.specs.Prelude.{◌≡◌, ℕ, ◌*◌, ◌<◌, ◌≤◌, Bool, false, List, ◌∷◌, map, length, get_or, slice_index, slice_index_or}
use Rattle.std.specs.Option.{unwrap_or}
use Rattle.kind.specs.Kind.{Meaning}
use Rattle.record.specs.Fields.{part}
use Rattle.row_stack.specs.declared.row_stack.RowStack.{RowStack}
use Rattle.row_stack.specs.Rows.{Laid}
use Rattle.rules.specs.Rules.{Spot, at, elsewhere, Sender, Given, senders, links, received}
use Rattle.rules.specs.Laws.{Orderly}
use Rattle.cursor.specs.Cursors.{Readable, Stands}
use Rattle.held.specs.Slots.{slot_tree, Loaded}
use Rattle.hearing.specs.declared.inputs.Inputs.{Inputs}
use Rattle.hearing.specs.declared.cursors.Cursors.{Cursors}

-- what a row has cells for, in this order
abbrev pub spots : {V : Type 0} → Given V → List Spot
spots g = elsewhere ∷ at g.number ∷ map at (senders g.held)

-- the n-th reading in bytes; OWN where there is none
abbrev pub reading_at : {V : Type 0} → Meaning V → List ℕ → ℕ → V
reading_at k bs n = unwrap_or (k.read (part bs (n * k.width) k.width)) k.own

-- the tree of the sender in slot j
abbrev pub tree_of : {V : Type 0} → Meaning V → Inputs → ℕ → List ℕ
tree_of k x j = slot_tree k.width x.bytes.now x.slots.now j

-- the inputs are those of g
pub record Gives {V : Type 0} (k : Meaning V) (x : Inputs) (g : Given V) : Type 0 where
  pub number : g.number ≡ x.node
  pub readings : (n : ℕ) → reading_at k x.readings.now n ≡ slice_index_or g.readings n k.own
  pub held : Loaded k x.program.now x.node x.bytes.now x.slots.now g.held
  pub trees : (j : ℕ) (d : Sender V) → j < length g.held → Readable k (tree_of k x j) (get_or g.held j d).tree
  pub last : Readable k x.own.now g.last
  pub orderly : Orderly g

-- in every tree the cursor stands where only places below `low` were passed
pub record Standing {V : Type 0} (k : Meaning V) (x : Inputs) (g : Given V) (low : ℕ) (c : Cursors) : Type 0 where
  pub senders : (j : ℕ) (d : Sender V) → j < length g.held → Stands k (tree_of k x j) (get_or g.held j d).tree low (slice_index c.senders j)
  pub own : Stands k x.own.now g.last low c.own

-- flag j says whether the sender in slot j is aligned
pub record Flags {V : Type 0} (g : Given V) (aligned : ℕ → Bool) (flags : List Bool) : Type 0 where
  pub is : (j : ℕ) (d : Sender V) → j < length g.held → slice_index_or flags j false ≡ aligned (get_or g.held j d).number

-- a row was laid; where the inputs are those of g it has the value of `means g` in its cells
pub record Received {V : Type 0} (k : Meaning V) (x : Inputs) (flags : List Bool) (place : ℕ) (c : Cursors) (initial : V) (s t : RowStack V) (base : ℕ) : Type 0 where
  pub row : List V
  pub laid : Laid s t base row
  pub wide : length row ≡ s.width
  pub means : (g : Given V) (aligned : ℕ → Bool) (low : ℕ) → Gives k x g → Flags g aligned flags → Standing k x g low c → low ≤ place
      → row ≡ map (received g aligned place initial) (spots g)

pub record Linked {V : Type 0} (k : Meaning V) (x : Inputs) (s t : RowStack V) (base : ℕ) : Type 0 where
  pub row : List V
  pub laid : Laid s t base row
  pub wide : length row ≡ s.width
  pub means : (g : Given V) → Gives k x g → row ≡ map (links k g) (spots g)
