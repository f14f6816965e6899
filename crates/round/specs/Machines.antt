-- What working an expression in memory asks, and what it leaves. Assumes nothing.
use Rattle.std.specs.Prelude.{◌≡◌, ℕ, ◌+◌, ◌*◌, ◌≤◌, Bool, List, [], ◌∷◌, map, length, take}
use Rattle.kind.specs.Kind.{Meaning}
use Rattle.program.specs.Expressions.{Expr, Exprs}
use Rattle.program.specs.Measures.{depth, depth_all, places, places_all, weight, weight_all}
use Rattle.program.specs.Programs.{shown}
use Rattle.unfolding.specs.Unfolding.{listed}
use Rattle.unfolding.specs.Walks.{unfolded_in}
use Rattle.record.specs.declared.output.Output.{Output}
use Rattle.record.specs.Growth.{Puts}
use Rattle.record.specs.Trees.{Rec}
use Rattle.record.specs.Writing.{written_records}
use Rattle.row_stack.specs.declared.row_stack.RowStack.{RowStack}
use Rattle.row_stack.specs.Rows.{row}
use Rattle.rules.specs.Rules.{Field, Given, work, work_all}
use Rattle.hearing.specs.declared.inputs.Inputs.{Inputs}
use Rattle.hearing.specs.declared.cursors.Cursors.{Cursors}
use Rattle.hearing.specs.Hearing.{Gives, Standing, Flags}
use Rattle.steps.specs.declared.frame.Frame.{Frame}
use Rattle.round.specs.declared.worker.Worker.{Worker}
use Rattle.steps.specs.Frames.{row_of, Below, Framed}

-- what a round works with: rows, the output, where it stands in the trees, and the next place
pub record Machine (V : Type 0) : Type 0 where
  pub rows : RowStack V
  pub output : Output
  pub cursors : Cursors
  pub place : ℕ

abbrev pub machine : {V : Type 0} → RowStack V → Output → Cursors → ℕ → Machine V
machine r o c p = record { rows = r; output = o; cursors = c; place = p }

-- the machine of a worker and an output
abbrev pub seen : {V : Type 0} → Worker V → Output → Machine V
seen w o = machine w.rows o w.cursors w.place

-- the stack s has become t, and the cells below `base` are as they were
pub record Kept {V : Type 0} (s t : RowStack V) (base : ℕ) : Type 0 where
  pub lender : t.cells.ghost_name ≡ s.cells.ghost_name
  pub width : t.width ≡ s.width
  pub long : length t.cells.now ≡ length s.cells.now
  pub below : take base t.cells.now ≡ take base s.cells.now

-- rows lie one behind the other from `base` on
abbrev pub RowsAt : {V : Type 0} → RowStack V → ℕ → List (List V) → Type 0
RowsAt s base [] = Unit {0}
RowsAt s base (xs ∷ xss) = (row s base ≡ xs) × RowsAt s (base + s.width) xss

-- WHAT IS ASKED: memory for so many cells, so deep, and for so many places and bytes of records
pub record Ready {V : Type 0} (k : Meaning V) (x : Inputs) (flags : List Bool) (d at base : ℕ) (f : Frame) (m : Machine V) (cells deep many heavy : ℕ) : Type 0 where
  pub width : (shown x.program.now).shape.width ≡ k.width
  pub near : at ≤ length (shown x.program.now).block + 17
  pub deep_is : deep ≤ d
  pub shallow : d ≤ 32
  pub few : m.place + many ≤ 4096
  pub wide : m.rows.width ≡ 2 + x.slots.now.count
  pub cells_are : base + cells ≤ length m.rows.cells.now
  pub cells_few : length m.rows.cells.now ≤ 65535
  pub names : f.count + d ≤ 40
  pub below : Below f base m.rows.width
  pub room : m.output.len + heavy ≤ length m.output.bytes.now
  pub flags_are : length flags ≡ 16

-- WHAT IS LEFT: where the work ends, the places that it passed, its records' bytes; and where the inputs are those of g
-- and the variables stand for env, what its rows are and which records these are
pub record Meant {V : Type 0} (k : Meaning V) (x : Inputs) (g : Given V) (n : Machine V) (bytes : List ℕ) (Rows : Type 0) (records : List (Rec V)) : Type 0 where
  pub rows : Rows
  pub records_are : bytes ≡ written_records k records
  pub stands : Standing k x g n.place n.cursors

pub record Ran {V : Type 0} (k : Meaning V) (x : Inputs) (flags : List Bool) (f : Frame) (base : ℕ) (m n : Machine V) (end behind many heavy : ℕ)
    (Rows : Given V → List (Field V) → (ℕ → Bool) → Type 0) (records : Given V → List (Field V) → (ℕ → Bool) → List (Rec V)) : Type 0 where
  pub end_is : end ≡ behind
  pub place_is : n.place ≡ m.place + many
  pub kept : Kept m.rows n.rows base
  pub bytes : List ℕ
  pub wrote : Puts m.output n.output bytes
  pub light : length bytes ≤ heavy
  pub means : (g : Given V) (env : List (Field V)) (al : ℕ → Bool) → Gives k x g → Framed k g f m.rows env → Flags g al flags → Standing k x g m.place m.cursors
      → Meant k x g n bytes (Rows g env al) (records g env al)

module _ {V : Type 0} (k : Meaning V) (x : Inputs) (flags : List Bool) (f : Frame) (base : ℕ) where
  -- one expression
  abbrev pub ReadyOne : ℕ → ℕ → Machine V → Type 0
  ReadyOne d at m =
      let e = (unfolded_in x.program.now d at).0 in
      Ready k x flags d at base f m (162 * d) (depth e) (places e) (weight k.width e)

  abbrev pub Worked : Machine V → Machine V → ℕ → Expr × ℕ → Type 0
  Worked m n end e =
      Ran k x flags f base m n end e.1 (places e.0) (weight k.width e.0)
      (λ g env al. row n.rows base ≡ row_of g (work k g e.0 env al m.place).value)
      (λ g env al. (work k g e.0 env al m.place).records)

  -- c expressions in a row
  abbrev pub ReadyAll : ℕ → ℕ → ℕ → Machine V → Type 0
  ReadyAll d c at m =
      let es = (listed (unfolded_in x.program.now d) c at).0 in
      Ready k x flags d at base f m (18 * c + 162 * d) (depth_all es) (places_all es) (weight_all k.width es)

  abbrev pub WorkedAll : Machine V → Machine V → ℕ → Exprs × ℕ → Type 0
  WorkedAll m n end es =
      Ran k x flags f base m n end es.1 (places_all es.0) (weight_all k.width es.0)
      (λ g env al. RowsAt n.rows base (map (row_of g) (work_all k g es.0 env al m.place).values))
      (λ g env al. (work_all k g es.0 env al m.place).records)
