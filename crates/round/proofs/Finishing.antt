-- What each function of the ring leaves, for the expression that stands in the program's block.
use Rattle.std.proofs.Common.{◌≡◌, ℕ, zero, suc, ◌+◌, ◌-◌, ◌≤◌, Bool, true, false, ◌⊎◌, List, [], get_or, Some, None, sym, refl, ap, ◌∙◌, subst, ⊎_elim, arith}
use Rattle.kind.specs.Kind.{Meaning, Lawful}
use Rattle.program.specs.declared.expression.Expression.{Expression}
use Rattle.program.specs.declared.expression.Expression.TheVariants.{Literal, Variable, Let, Operator, Fold, Exchange, Share, If, Call, Sensor, Link, Own, Choose}
use Rattle.program.specs.declared.function.Function.{Function}
use Rattle.program.specs.Expressions.{Expr, Exprs, link}
use Rattle.program.specs.Measures.{places, places_all}
use Rattle.program.specs.Programs.{shown}
use Rattle.program.specs.Reading.{part_count}
use Rattle.record.specs.declared.output.Output.{Output}
use Rattle.row_stack.specs.declared.row_stack.RowStack.{RowStack}
use Rattle.row_stack.specs.Rows.{row, Laid}
use Rattle.rules.specs.Rules.{Field, Given, work}
use Rattle.unfolding.specs.Unfolding.{listed, count_in, named, start, unfolded_by, expression_at}
use Rattle.unfolding.specs.Walks.{rows, unfolded_in}
use Rattle.unfolding.proofs.Near.{blank}
use Rattle.hearing.specs.declared.inputs.Inputs.{Inputs}
use Rattle.hearing.specs.declared.cursors.Cursors.{Cursors}
use Rattle.hearing.specs.Hearing.{Received, Linked}
use Rattle.steps.specs.declared.frame.Frame.{Frame}
use Rattle.steps.specs.Frames.{row_of, row_after, Longer, Arguments}
use Rattle.steps.specs.Steps.{Leaf, leaf_value, Leafed, Computed, computed, Parted, Sends, outcome_rows, Handed}
use Rattle.round.specs.Machines.{Machine, machine, ReadyOne, ReadyAll, Worked, WorkedAll}
use Rattle.round.specs.Counts.{count_all}
use Rattle.round.proofs.Arms.{with_rows, none_worked, next_worked, leaf_worked, computed_worked, bind_worked, call_worked, yes_worked, no_worked, sends_worked}
use Rattle.round.proofs.Rowing.{row_after_most, row_after_least}
use Rattle.round.proofs.Readying.{called_few, opened, left, narrow_row, spread}

-- the four leaves
pub is_leaf : (e : Expression) → ((i : ℕ) × e ≡ Literal i) ⊎ (((i : ℕ) × e ≡ Variable i) ⊎ (((i : ℕ) × e ≡ Sensor i) ⊎ (e ≡ Link))) → Leaf e
is_leaf e = ⊎_elim (λ h. subst Leaf (sym h.1) tt) (⊎_elim (λ h. subst Leaf (sym h.1) tt) (⊎_elim (λ h. subst Leaf (sym h.1) tt) (λ h. subst Leaf (sym h) tt)))

count_listed : (read : ℕ → Expr × ℕ) (c from : ℕ) → c ≡ count_all (listed read c from).0
count_listed read zero from = refl
count_listed read (suc c) from = ap suc (count_listed read c (read from).1)

module _ {V : Type 0} (k : Meaning V) (lawful : Lawful k) (x : Inputs) where
  abbrev rd : ℕ → ℕ → Expr × ℕ
  rd d i = unfolded_in x.program.now d i

  abbrev by : ℕ → ℕ → Expression → Expr × ℕ
  by d from st = unfolded_by (shown x.program.now).shape.width (shown x.program.now).block (rows x.program.now) (rd d) from st

  abbrev Step : ℕ → Expression → Type 0
  Step from st = Some st ≡ expression_at (shown x.program.now).block from

  module _ {flags : List Bool} {f : Frame} {base d from : ℕ} {m : Machine V} (r : ReadyOne k x flags f base d from m) where
    -- where there is no expression a link stands
    pub blank_done : {t : RowStack V} → expression_at (shown x.program.now).block from ≡ None → Linked k x m.rows t base → 1 ≤ d
        → Worked k x flags f base m (with_rows m t) from (rd d from)
    unfolding work
    blank_done {t} e h one =
        let p = x.program.now in
        let w = narrow_row k x m.rows r.wide in
        let is : rd d from ≡ (link, from) = blank (shown p).shape.width (shown p).block (rows p) d from e in
        subst (Worked k x flags f base m (with_rows m t) from) (sym is)
        (leaf_worked k lawful x flags f base m t h.row (link, from) from refl refl h.laid h.wide (omega arith) (λ g env al gi fr. h.means g gi) (λ g env al. refl))

    leaf_places : (st : Expression) → Leaf st → places (by (d - 1) from st).0 ≡ 0
    leaf_places (Literal i) s = refl
    leaf_places (Variable i) s = refl
    leaf_places Let s = absurd s
    leaf_places (Operator i) s = absurd s
    leaf_places (Fold i) s = absurd s
    leaf_places Exchange s = absurd s
    leaf_places Share s = absurd s
    leaf_places If s = absurd s
    leaf_places (Call i) s = absurd s
    leaf_places (Sensor i) s = refl
    leaf_places Link s = refl
    leaf_places Own s = absurd s
    leaf_places Choose s = absurd s

    leaf_ends : (st : Expression) → Leaf st → start (shown x.program.now).shape.width from st ≡ (by (d - 1) from st).1
    leaf_ends (Literal i) s = refl
    leaf_ends (Variable i) s = refl
    leaf_ends Let s = absurd s
    leaf_ends (Operator i) s = absurd s
    leaf_ends (Fold i) s = absurd s
    leaf_ends Exchange s = absurd s
    leaf_ends Share s = absurd s
    leaf_ends If s = absurd s
    leaf_ends (Call i) s = absurd s
    leaf_ends (Sensor i) s = refl
    leaf_ends Link s = refl
    leaf_ends Own s = absurd s
    leaf_ends Choose s = absurd s

    leaf_values : (g : Given V) (env : List (Field V)) (al : ℕ → Bool) (p : ℕ) (st : Expression) → Leaf st → leaf_value k x g env st ≡ (work k g (by (d - 1) from st).0 env al p).value
    unfolding work
    leaf_values g env al p (Literal i) s = refl
    leaf_values g env al p (Variable i) s = refl
    leaf_values g env al p Let s = absurd s
    leaf_values g env al p (Operator i) s = absurd s
    leaf_values g env al p (Fold i) s = absurd s
    leaf_values g env al p Exchange s = absurd s
    leaf_values g env al p Share s = absurd s
    leaf_values g env al p If s = absurd s
    leaf_values g env al p (Call i) s = absurd s
    leaf_values g env al p (Sensor i) s = refl
    leaf_values g env al p Link s = refl
    leaf_values g env al p Own s = absurd s
    leaf_values g env al p Choose s = absurd s

    leaf_records : (g : Given V) (env : List (Field V)) (al : ℕ → Bool) (p : ℕ) (st : Expression) → Leaf st → (work k g (by (d - 1) from st).0 env al p).records ≡ []
    unfolding work
    leaf_records g env al p (Literal i) s = refl
    leaf_records g env al p (Variable i) s = refl
    leaf_records g env al p Let s = absurd s
    leaf_records g env al p (Operator i) s = absurd s
    leaf_records g env al p (Fold i) s = absurd s
    leaf_records g env al p Exchange s = absurd s
    leaf_records g env al p Share s = absurd s
    leaf_records g env al p If s = absurd s
    leaf_records g env al p (Call i) s = absurd s
    leaf_records g env al p (Sensor i) s = refl
    leaf_records g env al p Link s = refl
    leaf_records g env al p Own s = absurd s
    leaf_records g env al p Choose s = absurd s

    pub leaf_done : (st : Expression) {t : RowStack V} {end : ℕ} → Leaf st → Step from st → Leafed k x f st m.rows t base → end ≡ start (shown x.program.now).shape.width from st
        → Worked k x flags f base m (with_rows m t) end (rd d from)
    leaf_done st {t} {end} leaf e h ends =
        let o = opened k x flags f base d from m r st e in
        let w = narrow_row k x m.rows r.wide in
        subst (Worked k x flags f base m (with_rows m t) end) (sym o.is)
        (leaf_worked k lawful x flags f base m t h.cells (by (d - 1) from st) end (ends ∙ leaf_ends st leaf) (leaf_places st leaf) h.laid h.wide (omega arith)
        (λ g env al gi fr. h.means g env gi fr ∙ ap (row_of g) (leaf_values g env al m.place st leaf)) (λ g env al. leaf_records g env al m.place st leaf))

    pub compute_done : (st : Expression) {c s end : ℕ} {n : Machine V} {t : RowStack V} → Computed st → Step from st → c ≡ count_in (rows x.program.now) st → s ≡ start (shown x.program.now).shape.width from st
        → WorkedAll k x flags f base m n end (listed (rd (d - 1)) c s) → Laid n.rows t base (computed k flags n.rows base st)
        → Worked k x flags f base m (with_rows n t) end (rd d from)
    compute_done st {c} {s} {end} {n} {t} co e cs ss a laid =
        let o = opened k x flags f base d from m r st e in
        let l = left k x a in
        let wi = r.wide in
        let w = narrow_row k x m.rows wi in
        let same : listed (rd (d - 1)) c s ≡ listed (rd (d - 1)) (count_in (rows x.program.now) st) (start (shown x.program.now).shape.width from st) = λ i. listed (rd (d - 1)) (cs i) (ss i) in
        subst (Worked k x flags f base m (with_rows n t) end) (sym o.is)
        (computed_worked k lawful x flags (shown x.program.now).shape.width (shown x.program.now).block (rows x.program.now) (rd (d - 1)) from st co f base m n t end (omega arith) r.flags_are (omega arith)
        (subst (WorkedAll k x flags f base m n end) same a) laid)

    pub bind_done : {f' : Frame} {top next end : ℕ} {n o : Machine V} {t : RowStack V} → Step from Let → top ≡ base + n.rows.width → Longer f f' base
        → Worked k x flags f base m n next (rd (d - 1) (from + 1)) → Worked k x flags f' top n o end (rd (d - 1) next) → Laid o.rows t base (row o.rows top)
        → Worked k x flags f base m (with_rows o t) end (rd d from)
    bind_done {f'} {top} {next} {end} {n} {o} {t} e tops ln a b laid =
        let op = opened k x flags f base d from m r Let e in
        let w = narrow_row k x m.rows r.wide in
        subst (Worked k x flags f base m (with_rows o t) end) (sym op.is)
        (bind_worked k lawful x flags f f' base top m n o t (rd (d - 1) (from + 1)) (rd (d - 1) (rd (d - 1) (from + 1)).1) next end (omega arith) r.below ln (omega arith) a
        (subst (λ (z : ℕ). Worked k x flags f' top n o end (rd (d - 1) z)) a.end_is b) laid)

    pub call_done : {f' : Frame} {h : Function} {i top end end' : ℕ} {n o : Machine V} {t : RowStack V} → Step from (Call i)
        → h ≡ named (rows x.program.now) i → top ≡ row_after n.rows.width base h.parameters → Arguments f' n.rows.width base h.parameters
        → WorkedAll k x flags f base m n end (listed (rd (d - 1)) h.parameters (from + 2)) → Worked k x flags f' top n o end' (rd (d - 1) h.start) → Laid o.rows t base (row o.rows top)
        → Worked k x flags f base m (with_rows o t) end (rd d from)
    call_done {f'} {h} {i} {top} {end} {end'} {n} {o} {t} e hs tops ar a b laid =
        let c = h.parameters in
        let cs : c ≡ (named (rows x.program.now) i).parameters = ap (λ (g : Function). g.parameters) hs in
        let calls : h.start ≡ (named (rows x.program.now) i).start = ap (λ (g : Function). g.start) hs in
        let op = opened k x flags f base d from m r (Call i) e in
        let few = called_few x i hs in
        let lw = a.kept.width in
        let w = narrow_row k x m.rows r.wide in
        let most = row_after_most n.rows.width base c (omega arith) in
        let least = row_after_least n.rows.width base c in
        let c' = (named (rows x.program.now) i).parameters in
        let es = listed (rd (d - 1)) c' (from + 2) in
        let same : top ≡ row_after m.rows.width base c = tops ∙ ap (λ (v : ℕ). row_after v base c) lw in
        subst (Worked k x flags f base m (with_rows o t) end) (sym op.is)
        (call_worked k lawful x flags f f' base top c m n o t es (rd (d - 1) (named (rows x.program.now) i).start) end end'
        (cs ∙ count_listed (rd (d - 1)) c' (from + 2)) (subst (λ (v : ℕ). Arguments f' v base c) lw ar) (omega arith) (omega arith) (omega arith)
        (subst (λ (z : ℕ). WorkedAll k x flags f base m n end (listed (rd (d - 1)) z (from + 2))) cs a)
        (subst (λ (z : ℕ). Worked k x flags f' top n o end' (rd (d - 1) z)) calls b) laid)

    pub exchange_done : (st : Expression) {f' : Frame} {count top next end here inside : ℕ} {found : ℕ × ℕ} {n o : Machine V} {t t' : RowStack V} {out : Output} {c' : Cursors} {v : V}
        → Sends st → Step from st → count ≡ part_count 0 st → Longer f f' base → top ≡ base + t.width
        → here ≡ n.place + inside → inside ≡ places_all (listed (rd (d - 1)) (count - 1) next).0
        → Worked k x flags f base m n next (rd (d - 1) (from + 1)) → ((z : V) → v ≡ get_or n.rows.cells.now (base + 1) z)
        → Received k x flags here n.cursors v n.rows t base
        → WorkedAll k x flags f' top (machine t n.output n.cursors n.place) o end (listed (rd (d - 1)) (count - 1) next)
        → found ≡ outcome_rows st top o.rows.width
        → Handed k x here base found.0 found.1 o.rows t' o.output out o.cursors c'
        → Worked k x flags f base m (machine t' out c' (here + 1)) end (rd d from)
    exchange_done st {f'} {count} {top} {next} {end} {here} {inside} {found} {n} {o} {t} {t'} {out} {c'} {v} se e counts ln tops heres ins a rd-v rec b founds handed =
        let op = opened k x flags f base d from m r st e in
        let s = spread k x r st se e counts a in
        let c = count - 1 in
        let cs : c ≡ part_count 0 st - 1 = ap (λ (z : ℕ). z - 1) counts in
        let w = narrow_row k x m.rows r.wide in
        let same : listed (rd (d - 1)) c next ≡ listed (rd (d - 1)) (part_count 0 st - 1) (rd (d - 1) (from + 1)).1 = λ i. listed (rd (d - 1)) (cs i) (a.end_is i) in
        subst (Worked k x flags f base m (machine t' out c' (here + 1)) end) (sym op.is)
        (sends_worked k lawful x flags (shown x.program.now).shape.width (shown x.program.now).block (rows x.program.now) (rd (d - 1)) from st se f f' base top here m n o t t' out c' next end v
        (omega arith) r.below r.wide ln (omega arith)
        (heres ∙ ap (λ (z : ℕ). n.place + z) (ins ∙ ap (λ (z : Exprs × ℕ). places_all z.0) same))
        a rd-v rec (subst (WorkedAll k x flags f' top (machine t n.output n.cursors n.place) o end) same b)
        (subst (λ (z : ℕ × ℕ). Handed k x here base z.0 z.1 o.rows t' o.output out o.cursors c') founds handed))

    pub yes_done : {still : List Bool} {n o : Machine V} {out : Output} {c' : Cursors} {here next second end inside : ℕ} {v : V} {first : Bool} → Step from If
        → Worked k x flags f base m n next (rd (d - 1) (from + 1)) → ((z : V) → v ≡ get_or n.rows.cells.now (base + 1) z) → first ≡ k.truth v → first ≡ true
        → Parted k x flags still n.place first n.output out n.cursors c'
        → here ≡ n.place + 1 → Worked k x still f base (machine n.rows out c' here) o second (rd (d - 1) next)
        → end ≡ (rd (d - 1) second).1 → inside ≡ places (rd (d - 1) second).0
        → Worked k x flags f base m (machine o.rows o.output o.cursors (o.place + inside)) end (rd d from)
    yes_done {still} {n} {o} {out} {c'} {here} {next} {second} {end} {inside} {v} {first} e a rd-v truth chosen parted heres b ends ins =
        let op = opened k x flags f base d from m r If e in
        let ea = rd (d - 1) (from + 1) in
        let eb = rd (d - 1) ea.1 in
        let ec = rd (d - 1) eb.1 in
        let nx = a.end_is in
        let b' : Worked k x still f base (machine n.rows out c' (n.place + 1)) o second eb = subst (λ (z : ℕ). Worked k x still f base (machine n.rows out c' (n.place + 1)) o second (rd (d - 1) z)) nx (subst (λ (z : ℕ). Worked k x still f base (machine n.rows out c' z) o second (rd (d - 1) next)) heres b) in
        let sc : second ≡ eb.1 = b'.end_is in
        subst (Worked k x flags f base m (machine o.rows o.output o.cursors (o.place + inside)) end) (sym op.is)
        (yes_worked k lawful x flags f base still m n c' out ea eb ec next v r.below r.wide a rd-v o second end (o.place + inside) (sym chosen ∙ truth)
        (subst (λ (z : Bool). Parted k x flags still n.place z n.output out n.cursors c') chosen parted) b'
        (ap (λ (z : ℕ). o.place + z) (ins ∙ ap (λ (z : ℕ). places (rd (d - 1) z).0) sc)) (ends ∙ ap (λ (z : ℕ). (rd (d - 1) z).1) sc))

    pub no_done : {still : List Bool} {n o : Machine V} {out : Output} {c' : Cursors} {next second end inside : ℕ} {v : V} {first : Bool} → Step from If
        → Worked k x flags f base m n next (rd (d - 1) (from + 1)) → ((z : V) → v ≡ get_or n.rows.cells.now (base + 1) z) → first ≡ k.truth v → first ≡ false
        → Parted k x flags still n.place first n.output out n.cursors c'
        → second ≡ (rd (d - 1) next).1 → inside ≡ places (rd (d - 1) next).0
        → Worked k x still f base (machine n.rows out c' (n.place + 1 + inside)) o end (rd (d - 1) second)
        → Worked k x flags f base m o end (rd d from)
    no_done {still} {n} {o} {out} {c'} {next} {second} {end} {inside} {v} {first} e a rd-v truth chosen parted ends ins b =
        let op = opened k x flags f base d from m r If e in
        let ea = rd (d - 1) (from + 1) in
        let eb = rd (d - 1) ea.1 in
        let ec = rd (d - 1) eb.1 in
        let nx = a.end_is in
        let sc : second ≡ eb.1 = ends ∙ ap (λ (z : ℕ). (rd (d - 1) z).1) nx in
        let b' : Worked k x still f base (machine n.rows out c' (n.place + 1 + inside)) o end ec = subst (λ (z : ℕ). Worked k x still f base (machine n.rows out c' (n.place + 1 + inside)) o end (rd (d - 1) z)) sc b in
        subst (Worked k x flags f base m o end) (sym op.is)
        (no_worked k lawful x flags f base still m n c' out ea eb ec next v r.below r.wide a rd-v o end (n.place + 1 + inside) (sym chosen ∙ truth)
        (subst (λ (z : Bool). Parted k x flags still n.place z n.output out n.cursors c') chosen parted)
        (ap (λ (z : ℕ). n.place + 1 + z) (ins ∙ ap (λ (z : ℕ). places (rd (d - 1) z).0) nx)) b')

  -- parts in a row
  pub none_done : {flags : List Bool} {f : Frame} {base c from : ℕ} {m : Machine V} (d : ℕ) → c ≡ 0 → WorkedAll k x flags f base m (machine m.rows m.output m.cursors m.place) from (listed (rd d) c from)
  none_done {flags} {f} {base} {c} {from} {m} d h = subst (λ (z : ℕ). WorkedAll k x flags f base m (machine m.rows m.output m.cursors m.place) from (listed (rd d) z from)) (sym h) (none_worked k lawful x flags f base m from)

  pub next_done : {flags : List Bool} {f : Frame} {base top d c from next end : ℕ} {m n o : Machine V} → ReadyAll k x flags f base d c from m → 1 ≤ c → top ≡ base + n.rows.width
      → Worked k x flags f base m n next (rd d from) → WorkedAll k x flags f top n o end (listed (rd d) (c - 1) next)
      → WorkedAll k x flags f base m o end (listed (rd d) c from)
  next_done {flags} {f} {base} {top} {d} {c = zero} {from} {next} {end} {m} {n} {o} r h tops a b = absurd (omega arith)
  next_done {flags} {f} {base} {top} {d} {c = suc c} {from} {next} {end} {m} {n} {o} r h tops a b =
      let one : suc c - 1 ≡ c = omega arith in
      let same : listed (rd d) (suc c - 1) next ≡ listed (rd d) c (rd d from).1 = λ i. listed (rd d) (one i) (a.end_is i) in
      next_worked k lawful x flags f base top m n o (rd d from) (listed (rd d) c (rd d from).1) next end (omega arith) r.below a (subst (WorkedAll k x flags f top n o end) same b)
