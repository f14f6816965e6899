-- What the parts of an expression find when they are worked.
use Rattle.std.proofs.Common.{◌≡◌, ℕ, zero, suc, ◌+◌, ◌-◌, ◌*◌, ◌≤◌, Bool, List, length, Some, sym, refl, ap, ◌∙◌, subst, arith}
use Rattle.kind.specs.Kind.{Meaning}
use Rattle.program.specs.declared.expression.Expression.{Expression}
use Rattle.program.specs.declared.expression.Expression.TheVariants.{Literal, Variable, Let, Operator, Fold, Exchange, Share, If, Call, Sensor, Link, Own, Choose}
use Rattle.program.specs.declared.function.Function.{Function}
use Rattle.program.specs.Expressions.{Expr, Exprs, then}
use Rattle.program.specs.Measures.{depth, depth_all, places, places_all, weight, weight_all, record_weight}
use Rattle.program.specs.Programs.{shown}
use Rattle.program.specs.Reading.{part_count}
use Rattle.record.specs.Trees.{Rec}
use Rattle.rules.specs.Rules.{Field, Given}
use Rattle.row_stack.specs.declared.row_stack.RowStack.{RowStack}
use Rattle.unfolding.specs.Unfolding.{listed, count_in, named, start, unfolded_by, expression_at}
use Rattle.unfolding.specs.Walks.{rows, unfolded_in}
use Rattle.unfolding.proofs.Near.{deep, near_start}
use Rattle.unfolding.proofs.Programs.{wide, narrow, near_in, placed, few_parameters}
use Rattle.unfolding.proofs.Checked.{some_depth}
use Rattle.record.specs.declared.output.Output.{Output}
use Rattle.hearing.specs.declared.inputs.Inputs.{Inputs}
use Rattle.hearing.specs.declared.cursors.Cursors.{Cursors}
use Rattle.steps.specs.declared.frame.Frame.{Frame}
use Rattle.steps.specs.Frames.{row_after, Longer, Below, Arguments}
use Rattle.round.specs.Machines.{Machine, machine, Kept, Ready, ReadyOne, ReadyAll, Ran, Worked, WorkedAll}
use Rattle.steps.specs.Steps.{Computed, Parted, Sends}
use Rattle.round.proofs.Rowing.{row_after_most, row_after_below}
use Rattle.round.proofs.Stacks.{below_later, below_longer}

-- the first part of a let, an exchange, a share or an if
abbrev First : Expression → Type 0
First (Literal i) = ⊥
First (Variable i) = ⊥
First Let = Unit {0}
First (Operator i) = ⊥
First (Fold i) = ⊥
First Exchange = Unit {0}
First Share = Unit {0}
First If = Unit {0}
First (Call i) = ⊥
First (Sensor i) = ⊥
First Link = ⊥
First Own = ⊥
First Choose = ⊥

pub sends_first : (st : Expression) → Sends st → First st
sends_first (Literal i) s = s
sends_first (Variable i) s = s
sends_first Let s = absurd s
sends_first (Operator i) s = s
sends_first (Fold i) s = s
sends_first Exchange s = s
sends_first Share s = s
sends_first If s = absurd s
sends_first (Call i) s = s
sends_first (Sensor i) s = s
sends_first Link s = s
sends_first Own s = s
sends_first Choose s = s

-- its parts are rows that it is made of, or the arguments of a call
abbrev Gathers : Expression → Type 0
Gathers (Literal i) = ⊥
Gathers (Variable i) = ⊥
Gathers Let = ⊥
Gathers (Operator i) = Unit {0}
Gathers (Fold i) = Unit {0}
Gathers Exchange = ⊥
Gathers Share = ⊥
Gathers If = ⊥
Gathers (Call i) = Unit {0}
Gathers (Sensor i) = ⊥
Gathers Link = ⊥
Gathers Own = Unit {0}
Gathers Choose = Unit {0}

pub gathers : (st : Expression) → Computed st → Gathers st
gathers (Literal i) s = s
gathers (Variable i) s = s
gathers Let s = s
gathers (Operator i) s = s
gathers (Fold i) s = s
gathers Exchange s = s
gathers Share s = s
gathers If s = s
gathers (Call i) s = absurd s
gathers (Sensor i) s = s
gathers Link s = s
gathers Own s = s
gathers Choose s = s

-- a function in the program has few parameters
pub called_few : (x : Inputs) (i : ℕ) {h : Function} → h ≡ named (rows x.program.now) i → h.parameters ≤ 8
called_few x i {h} e = let c = ap (λ (g : Function). g.parameters) e in let few = few_parameters x.program.now i in omega arith

module _ {V : Type 0} (k : Meaning V) (x : Inputs) where
  abbrev block_length : ℕ
  block_length = length (shown x.program.now).block

  -- as ready, with other numbers
  pub ready_with : {flags : List Bool} {d from base : ℕ} {f : Frame} {m : Machine V} {cells deep many heavy : ℕ} → Ready k x flags d from base f m cells deep many heavy
      → (flags' : List Bool) (d' from' base' : ℕ) (f' : Frame) (m' : Machine V) (cells' deep' many' heavy' : ℕ)
      → from' ≤ block_length + 17 → d' ≤ d → deep' ≤ d' → m'.place + many' ≤ 4096 → m'.rows.width ≡ m.rows.width → length m'.rows.cells.now ≡ length m.rows.cells.now
      → base' + cells' ≤ length m.rows.cells.now → f'.count + d' ≤ 40 → Below f' base' m.rows.width → m'.output.len + heavy' ≤ length m'.output.bytes.now → length flags' ≡ 16
      → Ready k x flags' d' from' base' f' m' cells' deep' many' heavy'
  ready_with {m = m} r flags' d' from' base' f' m' cells' deep' many' heavy' near lower deep_is few same long cells names below room flags_are =
      record {
        width = r.width;
        near = near;
        deep_is = deep_is;
        shallow = let h = r.shallow in omega arith;
        few = few;
        wide = omega arith;
        cells_are = omega arith;
        cells_few = omega arith;
        names = names;
        below = below_later base' m'.rows.width below (omega arith) same;
        room = room;
        flags_are = flags_are;
      }

  -- rows are at most 18 cells wide
  pub narrow_row : (s : RowStack V) → s.width ≡ 2 + x.slots.now.count → s.width ≤ 18
  narrow_row s e = let h = x.slots.now.few in omega arith

  pub wide_row : (s : RowStack V) → s.width ≡ 2 + x.slots.now.count → 2 ≤ s.width
  wide_row s e = omega arith

  abbrev rd : ℕ → ℕ → Expr × ℕ
  rd d i = unfolded_in x.program.now d i

  abbrev by : ℕ → ℕ → Expression → Expr × ℕ
  by d from st = unfolded_by (shown x.program.now).shape.width (shown x.program.now).block (rows x.program.now) (rd d) from st

  -- WITH THE EXPRESSION KNOWN
  pub record Opened (d from : ℕ) (st : Expression) : Type 0 where
    pub deep_enough : 1 ≤ d
    pub is : rd d from ≡ by (d - 1) from st
    pub near : start (shown x.program.now).shape.width from st ≤ block_length + 17

  pub opened : (flags : List Bool) (f : Frame) (base d from : ℕ) (m : Machine V) → ReadyOne k x flags f base d from m → (st : Expression) → Some st ≡ expression_at (shown x.program.now).block from → Opened d from st
  opened flags f base d from m r st e =
      let s = some_depth (rd d from).0 in
      let p = x.program.now in
      let one : 1 ≤ d = omega arith in
      record {
        deep_enough = one;
        is = deep (shown p).shape.width (shown p).block (rows p) d from st one e;
        near = near_start (shown p).shape.width (shown p).block (rows p) (wide p) (narrow p) from st e r.near;
      }

  -- ready for the expression as its parts show it
  pub ready_by : (flags : List Bool) (f : Frame) (base d from : ℕ) (m : Machine V) → ReadyOne k x flags f base d from m → (st : Expression) → Opened d from st
      → Ready k x flags d from base f m (162 * d) (depth (by (d - 1) from st).0) (places (by (d - 1) from st).0) (weight k.width (by (d - 1) from st).0)
  ready_by flags f base d from m r st o =
      subst (λ (e : Expr × ℕ). Ready k x flags d from base f m (162 * d) (depth e.0) (places e.0) (weight k.width e.0)) o.is r

  first_sizes : (d from : ℕ) (st : Expression) → First st → (start (shown x.program.now).shape.width from st ≡ from + 1) × (depth (rd d (from + 1)).0 + 1 ≤ depth (by d from st).0) × (places (rd d (from + 1)).0 ≤ places (by d from st).0) × (weight k.width (rd d (from + 1)).0 ≤ weight k.width (by d from st).0)
  first_sizes d from (Literal i) s = absurd s
  first_sizes d from (Variable i) s = absurd s
  first_sizes d from Let s = (refl, omega arith, omega arith, omega arith)
  first_sizes d from (Operator i) s = absurd s
  first_sizes d from (Fold i) s = absurd s
  first_sizes d from Exchange s = (refl, omega arith, omega arith, omega arith)
  first_sizes d from Share s = (refl, omega arith, omega arith, omega arith)
  first_sizes d from If s = (refl, omega arith, omega arith, omega arith)
  first_sizes d from (Call i) s = absurd s
  first_sizes d from (Sensor i) s = absurd s
  first_sizes d from Link s = absurd s
  first_sizes d from Own s = absurd s
  first_sizes d from Choose s = absurd s

  pub first_ready : {flags : List Bool} {f : Frame} {base d from : ℕ} {m : Machine V} → ReadyOne k x flags f base d from m → (st : Expression) → First st → Some st ≡ expression_at (shown x.program.now).block from
      → ReadyOne k x flags f base (d - 1) (from + 1) m
  first_ready {flags} {f} {base} {d} {from} {m} r st s e =
      let o = opened flags f base d from m r st e in
      let q = ready_by flags f base d from m r st o in
      let z = first_sizes (d - 1) from st s in
      ready_with q flags (d - 1) (from + 1) base f m (162 * (d - 1)) (depth (rd (d - 1) (from + 1)).0) (places (rd (d - 1) (from + 1)).0) (weight k.width (rd (d - 1) (from + 1)).0)
      (omega arith) (omega arith) (omega arith) (omega arith) refl refl (omega arith) (omega arith) q.below (omega arith) q.flags_are

  -- PARTS IN A ROW: the first, and the others behind it
  listed_next : (d c from : ℕ) → 1 ≤ c → listed (rd d) c from ≡ (then (rd d from).0 (listed (rd d) (c - 1) (rd d from).1).0, (listed (rd d) (c - 1) (rd d from).1).1)
  listed_next d zero from h = absurd (omega arith)
  listed_next d (suc c) from h = let e : c ≡ suc c - 1 = omega arith in ap (λ (n : ℕ). (then (rd d from).0 (listed (rd d) n (rd d from).1).0, (listed (rd d) n (rd d from).1).1)) e

  pub all_by : (flags : List Bool) (f : Frame) (base d c from : ℕ) (m : Machine V) → 1 ≤ c → ReadyAll k x flags f base d c from m
      → let es = then (rd d from).0 (listed (rd d) (c - 1) (rd d from).1).0 in Ready k x flags d from base f m (18 * c + 162 * d) (depth_all es) (places_all es) (weight_all k.width es)
  all_by flags f base d c from m h r =
      subst (λ (es : Exprs × ℕ). Ready k x flags d from base f m (18 * c + 162 * d) (depth_all es.0) (places_all es.0) (weight_all k.width es.0)) (listed_next d c from h) r

  pub head_ready : {flags : List Bool} {f : Frame} {base d c from : ℕ} {m : Machine V} → 1 ≤ c → ReadyAll k x flags f base d c from m → ReadyOne k x flags f base d from m
  head_ready {flags} {f} {base} {d} {c} {from} {m} h r =
      let q = all_by flags f base d c from m h r in
      ready_with q flags d from base f m (162 * d) (depth (rd d from).0) (places (rd d from).0) (weight k.width (rd d from).0)
      q.near (omega arith) (omega arith) (omega arith) refl refl (omega arith) q.names q.below (omega arith) q.flags_are

  pub tail_ready : {flags : List Bool} {f : Frame} {base top d c from next here : ℕ} {m n : Machine V} → 1 ≤ c → ReadyAll k x flags f base d c from m
      → top ≡ base + n.rows.width → here ≡ n.place → Worked k x flags f base m n next (rd d from)
      → ReadyAll k x flags f top d (c - 1) next (machine n.rows n.output n.cursors here)
  tail_ready {flags} {f} {base} {top} {d} {c} {from} {next} {here} {m} {n} h r tops heres a =
      let q = all_by flags f base d c from m h r in
      let w = a.kept.width in
      let l = a.kept.long in
      let wide_is = q.wide in
      let nar = narrow_row m.rows wide_is in
      let en = a.end_is in
      let near = near_in x.program.now d from q.near in
      let es = listed (rd d) (c - 1) next in
      let same : listed (rd d) (c - 1) next ≡ listed (rd d) (c - 1) (rd d from).1 = ap (listed (rd d) (c - 1)) en in
      let s1 = ap (λ (z : Exprs × ℕ). depth_all z.0) same in
      let s2 = ap (λ (z : Exprs × ℕ). places_all z.0) same in
      let s3 = ap (λ (z : Exprs × ℕ). weight_all k.width z.0) same in
      ready_with q flags d next top f (machine n.rows n.output n.cursors here) (18 * (c - 1) + 162 * d) (depth_all es.0) (places_all es.0) (weight_all k.width es.0)
      (omega arith) (omega arith) (omega arith) (omega arith) w l (omega arith) q.names (below_later top m.rows.width q.below (omega arith) refl) (omega arith) q.flags_are

  -- PARTS OF AN EXPRESSION whose rows it is made of, and the arguments of a call
  abbrev parts_in : ℕ → ℕ → Expression → Exprs × ℕ
  parts_in d from st = listed (rd d) (count_in (rows x.program.now) st) (start (shown x.program.now).shape.width from st)

  parts_sizes : (d from : ℕ) (st : Expression) → Gathers st → (depth_all (parts_in d from st).0 + 1 ≤ depth (by d from st).0) × (places_all (parts_in d from st).0 ≤ places (by d from st).0) × (weight_all k.width (parts_in d from st).0 ≤ weight k.width (by d from st).0) × (count_in (rows x.program.now) st ≤ 8)
  parts_sizes d from (Literal i) s = absurd s
  parts_sizes d from (Variable i) s = absurd s
  parts_sizes d from Let s = absurd s
  parts_sizes d from (Operator i) s = (omega arith, omega arith, omega arith, omega arith)
  parts_sizes d from (Fold i) s = (omega arith, omega arith, omega arith, omega arith)
  parts_sizes d from Exchange s = absurd s
  parts_sizes d from Share s = absurd s
  parts_sizes d from If s = absurd s
  parts_sizes d from (Call i) s = (omega arith, omega arith, omega arith, few_parameters x.program.now i)
  parts_sizes d from (Sensor i) s = absurd s
  parts_sizes d from Link s = absurd s
  parts_sizes d from Own s = (omega arith, omega arith, omega arith, omega arith)
  parts_sizes d from Choose s = (omega arith, omega arith, omega arith, omega arith)

  pub parts_few : (st : Expression) → Gathers st → {c : ℕ} → c ≡ count_in (rows x.program.now) st → c ≤ 8
  parts_few st s {c} e = let z = (parts_sizes 0 0 st s).3 in omega arith

  pub parts_ready : {flags : List Bool} {f : Frame} {base d from c s : ℕ} {m : Machine V} → ReadyOne k x flags f base d from m → (st : Expression) → Gathers st → Some st ≡ expression_at (shown x.program.now).block from
      → c ≡ count_in (rows x.program.now) st → s ≡ start (shown x.program.now).shape.width from st
      → ReadyAll k x flags f base (d - 1) c s m
  parts_ready {flags} {f} {base} {d} {from} {c} {s} {m} r st ga e cs ss =
      let o = opened flags f base d from m r st e in
      let q = ready_by flags f base d from m r st o in
      let z = parts_sizes (d - 1) from st ga in
      let es = listed (rd (d - 1)) c s in
      let same : es ≡ parts_in (d - 1) from st = λ i. listed (rd (d - 1)) (cs i) (ss i) in
      let s1 = ap (λ (y : Exprs × ℕ). depth_all y.0) same in
      let s2 = ap (λ (y : Exprs × ℕ). places_all y.0) same in
      let s3 = ap (λ (y : Exprs × ℕ). weight_all k.width y.0) same in
      ready_with q flags (d - 1) s base f m (18 * c + 162 * (d - 1)) (depth_all es.0) (places_all es.0) (weight_all k.width es.0)
      (omega arith) (omega arith) (omega arith) (omega arith) refl refl (omega arith) (omega arith) q.below (omega arith) q.flags_are

  -- WHAT A WORKED PART LEAVES, as numbers
  pub record Left (m n : Machine V) (many heavy : ℕ) : Type 0 where
    pub place_is : n.place ≡ m.place + many
    pub width : n.rows.width ≡ m.rows.width
    pub long : length n.rows.cells.now ≡ length m.rows.cells.now
    pub out : n.output.len ≤ m.output.len + heavy
    pub out_long : length n.output.bytes.now ≡ length m.output.bytes.now

  pub left : {flags : List Bool} {f : Frame} {base : ℕ} {m n : Machine V} {end behind many heavy : ℕ} {Rows : Given V → List (Field V) → (ℕ → Bool) → Type 0} {records : Given V → List (Field V) → (ℕ → Bool) → List (Rec V)}
      → Ran k x flags f base m n end behind many heavy Rows records → Left m n many heavy
  left a = let t = a.wrote.grown.top_is in let l = a.light in record { place_is = a.place_is; width = a.kept.width; long = a.kept.long; out = omega arith; out_long = a.wrote.grown.room }

  -- LET: the second part
  pub second_ready : {flags : List Bool} {f f' : Frame} {base top d from next here : ℕ} {m n : Machine V} → ReadyOne k x flags f base d from m → Some Let ≡ expression_at (shown x.program.now).block from
      → top ≡ base + n.rows.width → here ≡ n.place → Longer f f' base → Worked k x flags f base m n next (rd (d - 1) (from + 1))
      → ReadyOne k x flags f' top (d - 1) next (machine n.rows n.output n.cursors here)
  second_ready {flags} {f} {f'} {base} {top} {d} {from} {next} {here} {m} {n} r e tops heres ln a =
      let o = opened flags f base d from m r Let e in
      let q = ready_by flags f base d from m r Let o in
      let near = near_in x.program.now (d - 1) (from + 1) o.near in
      let en = a.end_is in
      let l = left a in
      let l2 = l.width in
      let l3 = l.long in
      let w = narrow_row m.rows q.wide in
      let e1 = ap (λ (z : ℕ). depth (rd (d - 1) z).0) en in
      let e2 = ap (λ (z : ℕ). places (rd (d - 1) z).0) en in
      let e3 = ap (λ (z : ℕ). weight k.width (rd (d - 1) z).0) en in
      ready_with q flags (d - 1) next top f' (machine n.rows n.output n.cursors here) (162 * (d - 1)) (depth (rd (d - 1) next).0) (places (rd (d - 1) next).0) (weight k.width (rd (d - 1) next).0)
      (omega arith) (omega arith) (omega arith) (omega arith) l2 l3 (omega arith) (omega arith) (below_longer top m.rows.width q.below ln (omega arith) refl) (omega arith) q.flags_are

  -- CALL: the body
  pub arguments_below : (f : Frame) (w base c : ℕ) → Arguments f w base c → Below f (row_after w base c) w
  arguments_below f w base c a = record {
    rows = λ i h.
        let e = a.rows i (omega arith) in
        let b = row_after_below w base c i (omega arith) in
        omega arith;
  }

  pub body_ready : {flags : List Bool} {f f' : Frame} {base top d from i end here : ℕ} {h : Function} {m n : Machine V} → ReadyOne k x flags f base d from m → Some (Call i) ≡ expression_at (shown x.program.now).block from
      → h ≡ named (rows x.program.now) i → top ≡ row_after n.rows.width base h.parameters → here ≡ n.place → Arguments f' n.rows.width base h.parameters
      → WorkedAll k x flags f base m n end (listed (rd (d - 1)) h.parameters (from + 2))
      → ReadyOne k x flags f' top (d - 1) h.start (machine n.rows n.output n.cursors here)
  body_ready {flags} {f} {f'} {base} {top} {d} {from} {i} {end} {here} {h} {m} {n} r e hs tops heres ar a =
      let c = h.parameters in
      let called = h.start in
      let cs : c ≡ (named (rows x.program.now) i).parameters = ap (λ (g : Function). g.parameters) hs in
      let calls : called ≡ (named (rows x.program.now) i).start = ap (λ (g : Function). g.start) hs in
      let o = opened flags f base d from m r (Call i) e in
      let q = ready_by flags f base d from m r (Call i) o in
      let near = placed x.program.now i in
      let few8 = few_parameters x.program.now i in
      let l = left a in
      let l2 = l.width in
      let l3 = l.long in
      let w = narrow_row m.rows q.wide in
      let most = row_after_most n.rows.width base c (omega arith) in
      let same : listed (rd (d - 1)) c (from + 2) ≡ listed (rd (d - 1)) (named (rows x.program.now) i).parameters (from + 2) = ap (λ (z : ℕ). listed (rd (d - 1)) z (from + 2)) cs in
      let s2 = ap (λ (z : Exprs × ℕ). places_all z.0) same in
      let s3 = ap (λ (z : Exprs × ℕ). weight_all k.width z.0) same in
      let e1 = ap (λ (z : ℕ). depth (rd (d - 1) z).0) calls in
      let e2 = ap (λ (z : ℕ). places (rd (d - 1) z).0) calls in
      let e3 = ap (λ (z : ℕ). weight k.width (rd (d - 1) z).0) calls in
      let below : Below f' top n.rows.width = below_later top n.rows.width (arguments_below f' n.rows.width base c ar) (omega arith) refl in
      ready_with q flags (d - 1) called top f' (machine n.rows n.output n.cursors here) (162 * (d - 1)) (depth (rd (d - 1) called).0) (places (rd (d - 1) called).0) (weight k.width (rd (d - 1) called).0)
      (omega arith) (omega arith) (omega arith) (omega arith) l2 l3 (omega arith) (omega arith) (below_later top m.rows.width below (omega arith) (sym l2)) (omega arith) q.flags_are

  -- EXCHANGE AND SHARE: the parts behind the initial one
  sends_sizes : (d from : ℕ) (st : Expression) → Sends st → let es = (listed (rd d) (part_count 0 st - 1) (rd d (from + 1)).1).0 in
      (depth_all es + 1 ≤ depth (by d from st).0) × (places (rd d (from + 1)).0 + places_all es + 1 ≡ places (by d from st).0) × (weight k.width (rd d (from + 1)).0 + weight_all k.width es + record_weight k.width ≡ weight k.width (by d from st).0) × (part_count 0 st ≤ 3) × (1 ≤ part_count 0 st)
  sends_sizes d from (Literal i) s = absurd s
  sends_sizes d from (Variable i) s = absurd s
  sends_sizes d from Let s = absurd s
  sends_sizes d from (Operator i) s = absurd s
  sends_sizes d from (Fold i) s = absurd s
  sends_sizes d from Exchange s = (omega arith, omega arith, omega arith, omega arith, omega arith)
  sends_sizes d from Share s = (omega arith, omega arith, omega arith, omega arith, omega arith)
  sends_sizes d from If s = absurd s
  sends_sizes d from (Call i) s = absurd s
  sends_sizes d from (Sensor i) s = absurd s
  sends_sizes d from Link s = absurd s
  sends_sizes d from Own s = absurd s
  sends_sizes d from Choose s = absurd s

  -- the numbers that an exchange needs of its parts
  pub record Spread (flags : List Bool) (f : Frame) (base d from next c : ℕ) (m n : Machine V) : Type 0 where
    pub deep_enough : 1 ≤ d
    pub near : next ≤ block_length + 17
    pub count_few : c ≤ 2
    pub places_few : n.place + places_all (listed (rd (d - 1)) c next).0 + 1 ≤ 4096
    pub depth_few : depth_all (listed (rd (d - 1)) c next).0 + 1 ≤ d
    pub room : n.output.len + weight_all k.width (listed (rd (d - 1)) c next).0 + record_weight k.width ≤ length n.output.bytes.now
    pub cells : base + 162 * d ≤ length n.rows.cells.now
    pub cells_few : length n.rows.cells.now ≤ 65535
    pub width : n.rows.width ≡ m.rows.width
    pub narrow_is : n.rows.width ≤ 18
    pub wide : n.rows.width ≡ 2 + x.slots.now.count
    pub names : f.count + d ≤ 40
    pub below : Below f base m.rows.width

  pub spread : {flags : List Bool} {f : Frame} {base d from next count : ℕ} {m n : Machine V} → ReadyOne k x flags f base d from m → (st : Expression) → Sends st → Some st ≡ expression_at (shown x.program.now).block from
      → count ≡ part_count 0 st → Worked k x flags f base m n next (rd (d - 1) (from + 1)) → Spread flags f base d from next (count - 1) m n
  spread {flags} {f} {base} {d} {from} {next} {count} {m} {n} r st se e counts a =
      let c = count - 1 in
      let cs : c ≡ part_count 0 st - 1 = ap (λ (z : ℕ). z - 1) counts in
      let o = opened flags f base d from m r st e in
      let q = ready_by flags f base d from m r st o in
      let z = sends_sizes (d - 1) from st se in
      let fs = (first_sizes (d - 1) from st (sends_first st se)).0 in
      let near = near_in x.program.now (d - 1) (from + 1) (omega arith) in
      let en = a.end_is in
      let l = left a in
      let l2 = l.width in
      let cells = q.cells_are in
      let cells_few = q.cells_few in
      let room = q.room in
      let w = narrow_row m.rows q.wide in
      let same : listed (rd (d - 1)) c next ≡ listed (rd (d - 1)) (part_count 0 st - 1) (rd (d - 1) (from + 1)).1 = λ i. listed (rd (d - 1)) (cs i) (en i) in
      let s1 = ap (λ (y : Exprs × ℕ). depth_all y.0) same in
      let s2 = ap (λ (y : Exprs × ℕ). places_all y.0) same in
      let s3 = ap (λ (y : Exprs × ℕ). weight_all k.width y.0) same in
      record {
        deep_enough = o.deep_enough;
        near = omega arith;
        count_few = omega arith;
        places_few = omega arith;
        depth_few = omega arith;
        room = omega arith;
        cells = omega arith;
        cells_few = omega arith;
        width = l2;
        narrow_is = omega arith;
        wide = omega arith;
        names = q.names;
        below = q.below;
      }

  pub sent_ready : {flags : List Bool} {f f' : Frame} {base top d from next c mid : ℕ} {m n : Machine V} {t : RowStack V} → ReadyOne k x flags f base d from m → Spread flags f base d from next c m n
      → Longer f f' base → top ≡ base + t.width → Kept n.rows t base → mid ≡ n.place
      → ReadyAll k x flags f' top (d - 1) c next (machine t n.output n.cursors mid)
  sent_ready {flags} {f} {f'} {base} {top} {d} {from} {next} {c} {mid} {m} {n} {t} r s ln tops kept mids =
      record {
        width = r.width;
        near = s.near;
        deep_is = omega arith;
        shallow = let h = r.shallow in omega arith;
        few = omega arith;
        wide = omega arith;
        cells_are = omega arith;
        cells_few = omega arith;
        names = omega arith;
        below = below_longer top t.width s.below ln (omega arith) (omega arith);
        room = omega arith;
        flags_are = r.flags_are;
      }

  -- IF: the numbers of its parts, once the condition is worked
  pub record Forked (d from next : ℕ) (m n : Machine V) : Type 0 where
    pub deep_enough : 1 ≤ d
    pub near : next ≤ block_length + 17
    pub near_second : (rd (d - 1) next).1 ≤ block_length + 17
    pub places_few : n.place + 1 + places (rd (d - 1) next).0 + places (rd (d - 1) (rd (d - 1) next).1).0 ≤ 4096
    pub room : n.output.len + 5 ≤ length n.output.bytes.now
    pub places_sum : m.place + places (by (d - 1) from If).0 ≡ n.place + 1 + places (rd (d - 1) next).0 + places (rd (d - 1) (rd (d - 1) next).1).0
    pub is : by (d - 1) from If ≡ rd d from

  pub forked : {flags : List Bool} {f : Frame} {base d from next : ℕ} {m n : Machine V} → ReadyOne k x flags f base d from m → Some If ≡ expression_at (shown x.program.now).block from
      → Worked k x flags f base m n next (rd (d - 1) (from + 1)) → Forked d from next m n
  forked {flags} {f} {base} {d} {from} {next} {m} {n} r e a =
      let o = opened flags f base d from m r If e in
      let q = ready_by flags f base d from m r If o in
      let near1 = near_in x.program.now (d - 1) (from + 1) o.near in
      let en = a.end_is in
      let near : next ≤ block_length + 17 = omega arith in
      let l = left a in
      let room = q.room in
      let e2 = ap (λ (z : ℕ). places (rd (d - 1) z).0) en in
      let e3 = ap (λ (z : ℕ). places (rd (d - 1) (rd (d - 1) z).1).0) en in
      record {
        deep_enough = o.deep_enough;
        near = near;
        near_second = near_in x.program.now (d - 1) next near;
        places_few = omega arith;
        room = omega arith;
        places_sum = omega arith;
        is = sym o.is;
      }

  -- one of its branches
  pub branch_ready : (flags still : List Bool) (f : Frame) (base d from next from' here : ℕ) (m n n' : Machine V) → ReadyOne k x flags f base d from m → Some If ≡ expression_at (shown x.program.now).block from
      → Worked k x flags f base m n next (rd (d - 1) (from + 1)) → length still ≡ 16
      → n'.rows ≡ n.rows → n'.output.len ≡ n.output.len + 5 → length n'.output.bytes.now ≡ length n.output.bytes.now
      → from' ≤ block_length + 17
      → depth (rd (d - 1) from').0 + 1 ≤ depth (by (d - 1) from If).0
      → n'.place + places (rd (d - 1) from').0 ≤ 4096
      → 5 + weight k.width (rd (d - 1) (from + 1)).0 + weight k.width (rd (d - 1) from').0 ≤ weight k.width (by (d - 1) from If).0
      → ReadyOne k x still f base (d - 1) from' n'
  branch_ready flags still f base d from next from' here m n n' r e a long rows_same out-is out_long near dp pp wp =
      let o = opened flags f base d from m r If e in
      let q = ready_by flags f base d from m r If o in
      let one = o.deep_enough in
      let l = left a in
      let l2 = l.width in
      let l3 = l.long in
      ready_with q still (d - 1) from' base f n' (162 * (d - 1)) (depth (rd (d - 1) from').0) (places (rd (d - 1) from').0) (weight k.width (rd (d - 1) from').0)
      near (omega arith) (omega arith) pp (ap (λ (s : RowStack V). s.width) rows_same ∙ l2) (ap (λ (s : RowStack V). length s.cells.now) rows_same ∙ l3) (omega arith) (omega arith) q.below (omega arith) long

  pub yes_ready : {flags still : List Bool} {f : Frame} {base d from next here : ℕ} {m n : Machine V} {out : Output} {c' : Cursors} {first : Bool} → ReadyOne k x flags f base d from m → Some If ≡ expression_at (shown x.program.now).block from
      → Worked k x flags f base m n next (rd (d - 1) (from + 1)) → Parted k x flags still n.place first n.output out n.cursors c' → here ≡ n.place + 1
      → ReadyOne k x still f base (d - 1) next (machine n.rows out c' here)
  yes_ready {flags} {still} {f} {base} {d} {from} {next} {here} {m} {n} {out} {c'} {first} r e a p heres =
      let fk = forked r e a in
      let en = a.end_is in
      let e1 = ap (λ (z : ℕ). depth (rd (d - 1) z).0) en in
      let e3 = ap (λ (z : ℕ). weight k.width (rd (d - 1) z).0) en in
      branch_ready flags still f base d from next next here m n (machine n.rows out c' here) r e a p.long refl p.wrote.grown.top_is p.wrote.grown.room fk.near (omega arith) (omega arith) (omega arith)

  pub no_ready : {flags still : List Bool} {f : Frame} {base d from next second inside here : ℕ} {m n : Machine V} {out : Output} {c' : Cursors} {first : Bool} → ReadyOne k x flags f base d from m → Some If ≡ expression_at (shown x.program.now).block from
      → Worked k x flags f base m n next (rd (d - 1) (from + 1)) → Parted k x flags still n.place first n.output out n.cursors c'
      → second ≡ (rd (d - 1) next).1 → inside ≡ places (rd (d - 1) next).0 → here ≡ n.place + 1 + inside
      → ReadyOne k x still f base (d - 1) second (machine n.rows out c' here)
  no_ready {flags} {still} {f} {base} {d} {from} {next} {second} {inside} {here} {m} {n} {out} {c'} {first} r e a p seconds ins heres =
      let fk = forked r e a in
      let en = a.end_is in
      let sc : second ≡ (rd (d - 1) (rd (d - 1) (from + 1)).1).1 = seconds ∙ ap (λ (z : ℕ). (rd (d - 1) z).1) en in
      let e1 = ap (λ (z : ℕ). depth (rd (d - 1) z).0) sc in
      let e2 = ap (λ (z : ℕ). places (rd (d - 1) z).0) seconds in
      let e3 = ap (λ (z : ℕ). weight k.width (rd (d - 1) z).0) sc in
      branch_ready flags still f base d from next second here m n (machine n.rows out c' here) r e a p.long refl p.wrote.grown.top_is p.wrote.grown.room (omega arith) (omega arith) (omega arith) (omega arith)
