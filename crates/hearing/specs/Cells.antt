-- How a row is laid, what it has for a held sender, and values in bytes. Assumes nothing.
use Rattle.std.specs.Prelude.{◌≡◌, ℕ, ◌<◌, ◌≤◌, Bool, List, ◌∷◌, length, get_or, take, slice_index_or}
use Rattle.std.specs.Option.{unwrap_or}
use Rattle.kind.specs.Kind.{Meaning}
use Rattle.record.specs.Fields.{part}
use Rattle.row_stack.specs.declared.row_stack.RowStack.{RowStack}
use Rattle.row_stack.specs.Rows.{Laid}
use Rattle.rules.specs.Rules as rules
use Rattle.rules.specs.Rules.{Sender, Given, received}
use Rattle.held.specs.Slots.{slot_bytes}
use Rattle.hearing.specs.declared.inputs.Inputs.{Inputs}
use Rattle.hearing.specs.declared.cursors.Cursors.{Cursors}
use Rattle.hearing.specs.Hearing.{Gives, Standing, Flags}

-- a row was laid: the value elsewhere, that at the own number, and for each slot one of which P holds
pub record RowOf {V : Type 0} (P : ℕ → V → Type 0) (elsewhere own : V) (s t : RowStack V) (base : ℕ) : Type 0 where
  pub held : List V
  pub wide : length (elsewhere ∷ own ∷ held) ≡ s.width
  pub laid : Laid s t base (elsewhere ∷ own ∷ held)
  pub each : (j : ℕ) (d : V) → j < length held → P j (slice_index_or held j d)

-- v is what is received of the sender in slot j
pub record HeardAt {V : Type 0} (k : Meaning V) (x : Inputs) (flags : List Bool) (place : ℕ) (c : Cursors) (initial : V) (j : ℕ) (v : V) : Type 0 where
  pub is : (g : Given V) (aligned : ℕ → Bool) (low : ℕ) (d : Sender V) → Gives k x g → Flags g aligned flags → Standing k x g low c → low ≤ place
      → j < length g.held → v ≡ received g aligned place initial (rules.at (get_or g.held j d).number)

-- the link to the sender in slot j; UNKNOWN where its bytes are none
abbrev pub link_of : {V : Type 0} → Meaning V → Inputs → ℕ → V
link_of k x j = unwrap_or (k.read (take k.width (slot_bytes x.bytes.now x.slots.now j))) k.unknown

-- the value whose bytes begin at a position; OWN where there is none
abbrev pub value_in : {V : Type 0} → Meaning V → List ℕ → ℕ → V
value_in k bs at = unwrap_or (k.read (part bs at k.width)) k.own
