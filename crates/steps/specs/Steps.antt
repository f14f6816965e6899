-- The steps of a round that work no part: leaves, what is made of the rows of parts, and what ifs and exchanges leave
-- behind. Assumes nothing.
use Rattle.std.specs.Prelude.{◌≡◌, ℕ, ◌+◌, ◌≤◌, Bool, List, [], length, take, drop, replicate, slice_index_or}
use Rattle.std.specs.Option.{unwrap_or}
use Rattle.kind.specs.Kind.{Meaning}
use Rattle.program.specs.declared.expression.Expression.{Expression}
use Rattle.program.specs.declared.expression.Expression.TheVariants.{Literal, Variable, Let, Operator, Fold, Exchange, Share, If, Call, Sensor, Link, Own, Choose}
use Rattle.program.specs.Measures.{record_weight}
use Rattle.program.specs.Programs.{shown}
use Rattle.record.specs.declared.output.Output.{Output}
use Rattle.record.specs.Growth.{Puts}
use Rattle.record.specs.Trees.{choice}
use Rattle.record.specs.Writing.{written_record}
use Rattle.row_stack.specs.declared.row_stack.RowStack.{RowStack}
use Rattle.row_stack.specs.Rows.{row, Laid, applied, chosen, gathered, sender_cells, own_cell}
use Rattle.rules.specs.Rules.{Field, Given, everywhere, links, narrowed, record_of}
use Rattle.hearing.specs.declared.inputs.Inputs.{Inputs}
use Rattle.hearing.specs.declared.cursors.Cursors.{Cursors}
use Rattle.hearing.specs.Hearing.{Gives, Standing, Flags}
use Rattle.steps.specs.declared.frame.Frame.{Frame}
use Rattle.steps.specs.Frames.{row_of, Framed}

-- LEAVES: expressions without parts
abbrev pub Leaf : Expression → Type 0
Leaf (Literal from) = Unit {0}
Leaf (Variable n) = Unit {0}
Leaf Let = ⊥
Leaf (Operator n) = ⊥
Leaf (Fold n) = ⊥
Leaf Exchange = ⊥
Leaf Share = ⊥
Leaf If = ⊥
Leaf (Call n) = ⊥
Leaf (Sensor n) = Unit {0}
Leaf Link = Unit {0}
Leaf Own = ⊥
Leaf Choose = ⊥

module _ {V : Type 0} (k : Meaning V) (x : Inputs) (g : Given V) (env : List (Field V)) where
  -- the value of a leaf
  abbrev pub leaf_value : Expression → Field V
  leaf_value (Literal from) = everywhere (unwrap_or (k.read (take (shown x.program.now).shape.width (drop from (shown x.program.now).block))) k.own)
  leaf_value (Variable n) = slice_index_or env n (everywhere k.own)
  leaf_value Let = everywhere k.own
  leaf_value (Operator n) = everywhere k.own
  leaf_value (Fold n) = everywhere k.own
  leaf_value Exchange = everywhere k.own
  leaf_value Share = everywhere k.own
  leaf_value If = everywhere k.own
  leaf_value (Call n) = everywhere k.own
  leaf_value (Sensor n) = everywhere (slice_index_or g.readings n k.own)
  leaf_value Link = links k g
  leaf_value Own = everywhere k.own
  leaf_value Choose = everywhere k.own

-- the row of a leaf was laid
pub record Leafed {V : Type 0} (k : Meaning V) (x : Inputs) (f : Frame) (e : Expression) (s t : RowStack V) (base : ℕ) : Type 0 where
  pub cells : List V
  pub laid : Laid s t base cells
  pub wide : length cells ≡ s.width
  pub means : (g : Given V) (env : List (Field V)) → Gives k x g → Framed k g f s env → cells ≡ row_of g (leaf_value k x g env e)

-- ROWS OF PARTS: expressions whose value is made of the values of their parts, cell by cell or over the senders
abbrev pub Computed : Expression → Type 0
Computed (Literal from) = ⊥
Computed (Variable n) = ⊥
Computed Let = ⊥
Computed (Operator n) = Unit {0}
Computed (Fold n) = Unit {0}
Computed Exchange = ⊥
Computed Share = ⊥
Computed If = ⊥
Computed (Call n) = ⊥
Computed (Sensor n) = ⊥
Computed Link = ⊥
Computed Own = Unit {0}
Computed Choose = Unit {0}

module _ {V : Type 0} (k : Meaning V) (flags : List Bool) (s : RowStack V) (base : ℕ) where
  -- what is laid over the first of the rows
  abbrev pub computed : Expression → List V
  computed (Literal from) = []
  computed (Variable n) = []
  computed Let = []
  computed (Operator n) = applied (k.apply n) (row s base) (row s (base + s.width))
  computed (Fold n) = replicate s.width (gathered (k.apply n) flags (sender_cells s base) (own_cell k s (base + s.width)))
  computed Exchange = []
  computed Share = []
  computed If = []
  computed (Call n) = []
  computed (Sensor n) = []
  computed Link = []
  computed Own = replicate s.width (own_cell k s base)
  computed Choose = chosen k.truth (row s base) (row s (base + s.width)) (row s (base + s.width + s.width))

-- IFS: the choice is written, the cursors are moved on to the if's place, and the flags of the senders that stay aligned are made
pub record Parted {V : Type 0} (k : Meaning V) (x : Inputs) (flags still : List Bool) (place : ℕ) (first : Bool) (o o' : Output) (c c' : Cursors) : Type 0 where
  pub wrote : Puts o o' (written_record k (choice place first))
  pub long : length still ≡ 16
  pub aligned : (g : Given V) (al : ℕ → Bool) (low : ℕ) → Gives k x g → Flags g al flags → Standing k x g low c → low ≤ place → Flags g (narrowed g al place first) still
  pub stands : (g : Given V) (low : ℕ) → Gives k x g → Standing k x g low c → low ≤ place → Standing k x g (place + 1) c'

-- EXCHANGES AND SHARES
abbrev pub Sends : Expression → Type 0
Sends (Literal from) = ⊥
Sends (Variable n) = ⊥
Sends Let = ⊥
Sends (Operator n) = ⊥
Sends (Fold n) = ⊥
Sends Exchange = Unit {0}
Sends Share = Unit {0}
Sends If = ⊥
Sends (Call n) = ⊥
Sends (Sensor n) = ⊥
Sends Link = ⊥
Sends Own = ⊥
Sends Choose = ⊥

-- the rows of what is returned and of what is sent, where the parts behind the initial one have rows of w cells from
-- `top` on: those of its two parts, or both times that of its one
abbrev pub outcome_rows : Expression → ℕ → ℕ → ℕ × ℕ
outcome_rows (Literal from) top w = (top, top)
outcome_rows (Variable n) top w = (top, top)
outcome_rows Let top w = (top, top)
outcome_rows (Operator n) top w = (top, top)
outcome_rows (Fold n) top w = (top, top)
outcome_rows Exchange top w = (top, top + w)
outcome_rows Share top w = (top, top)
outcome_rows If top w = (top, top)
outcome_rows (Call n) top w = (top, top)
outcome_rows (Sensor n) top w = (top, top)
outcome_rows Link top w = (top, top)
outcome_rows Own top w = (top, top)
outcome_rows Choose top w = (top, top)

-- the record of the row `sent` is written, the cursors stand behind its place, and the row `returned` is laid
-- at `base`
pub record Handed {V : Type 0} (k : Meaning V) (x : Inputs) (place base returned sent : ℕ) (s t : RowStack V) (o o' : Output) (c c' : Cursors) : Type 0 where
  pub laid : Laid s t base (row s returned)
  pub bytes : List ℕ
  pub wrote : Puts o o' bytes
  pub light : length bytes ≤ record_weight k.width
  pub means : (g : Given V) (f : Field V) → Gives k x g → row s sent ≡ row_of g f → bytes ≡ written_record k (record_of k g place f)
  pub stands : (g : Given V) (low : ℕ) → Gives k x g → Standing k x g low c → low ≤ place + 1 → Standing k x g (place + 1) c'
