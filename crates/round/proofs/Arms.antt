-- How the working of an expression is made of that of its parts.
use Rattle.std.proofs.Common.{◌≡◌, ℕ, zero, suc, ◌+◌, ◌-◌, ◌<◌, ◌≤◌, Bool, true, false, cond, List, [], ◌∷◌, ◌++◌, map, length, get_or, drop, replicate, sym, refl, ap, ◌∙◌, subst, append_assoc, append-nil, arith, length-append}
use Rattle.std.proofs.lemmas.List.{length-replicate}
use Rattle.kind.specs.Kind.{Meaning, Lawful}
use Rattle.program.specs.declared.expression.Expression.{Expression}
use Rattle.program.specs.declared.expression.Expression.TheVariants.{Literal, Variable, Let, Operator, Fold, Exchange, Share, If, Call, Sensor, Link, Own, Choose}
use Rattle.program.specs.Expressions.{Expr, Exprs, bind, branch, call, none, then}
use Rattle.program.specs.Reading.{part_count}
use Rattle.program.specs.Measures.{places, places_all, weight, weight_all, record_weight}
use Rattle.record.specs.declared.output.Output.{Output}
use Rattle.record.specs.Trees.{Rec, choice}
use Rattle.record.specs.Writing.{written_record, written_records}
use Rattle.record.proofs.Grows.{grown_none, puts_after}
use Rattle.record.proofs.Written.{records_both}
use Rattle.row_stack.specs.declared.row_stack.RowStack.{RowStack}
use Rattle.row_stack.specs.Rows.{row, Laid, applied, chosen, gathered, sender_cells, own_cell}
use Rattle.row_stack.proofs.Laying.{row_long, rows_applied_long, rows_chosen_long}
use Rattle.rules.specs.Rules.{Field, Given, senders, everywhere, received, narrowed, folded, record_of, mine, Out, work, work_all}
use Rattle.program.specs.declared.function.Function.{Function}
use Rattle.unfolding.specs.Unfolding.{listed, count_in, start, unfolded_by}
use Rattle.hearing.specs.declared.inputs.Inputs.{Inputs}
use Rattle.hearing.specs.declared.cursors.Cursors.{Cursors}
use Rattle.hearing.specs.Hearing.{spots, Gives, Standing, Flags, Received}
use Rattle.steps.specs.declared.frame.Frame.{Frame}
use Rattle.steps.specs.Frames.{row_of, row_after, Longer, Below, Framed, Arguments}
use Rattle.round.specs.Machines.{Machine, machine, Kept, RowsAt, Worked, WorkedAll}
use Rattle.round.specs.Counts.{count_all}
use Rattle.steps.specs.Steps.{Computed, computed, Parted, Sends, outcome_rows, Handed}
use Rattle.round.proofs.Stacks.{kept_same, kept_then, row_kept, laid_kept, laid_row, row_everywhere, row_applied, row_chosen, own_at, spots_long, row_gathered, framed_kept, framed_longer, standing_later}

-- the rows of an outcome lie from `top` on
pub outcome_low : (st : Expression) (top w : ℕ) → ((outcome_rows st top w).0 ≡ top) × ((outcome_rows st top w).1 ≤ top + w)
outcome_low (Literal i) top w = (refl, omega arith)
outcome_low (Variable i) top w = (refl, omega arith)
outcome_low Let top w = (refl, omega arith)
outcome_low (Operator i) top w = (refl, omega arith)
outcome_low (Fold i) top w = (refl, omega arith)
outcome_low Exchange top w = (refl, omega arith)
outcome_low Share top w = (refl, omega arith)
outcome_low If top w = (refl, omega arith)
outcome_low (Call i) top w = (refl, omega arith)
outcome_low (Sensor i) top w = (refl, omega arith)
outcome_low Link top w = (refl, omega arith)
outcome_low Own top w = (refl, omega arith)
outcome_low Choose top w = (refl, omega arith)

pub found_low : (st : Expression) (top w : ℕ) {found : ℕ × ℕ} → found ≡ outcome_rows st top w → (found.0 ≡ top) × (found.1 ≤ top + w)
found_low st top w e = subst (λ (p : ℕ × ℕ). (p.0 ≡ top) × (p.1 ≤ top + w)) (sym e) (outcome_low st top w)

-- the machine with other rows
abbrev pub with_rows : {V : Type 0} → Machine V → RowStack V → Machine V
with_rows m t = machine t m.output m.cursors m.place

written_both : {V : Type 0} (k : Meaning V) → Lawful k → (rs ss : List (Rec V)) {bs cs : List ℕ} → bs ≡ written_records k rs → cs ≡ written_records k ss → bs ++ cs ≡ written_records k (rs ++ ss)
written_both k lawful rs ss a b = (λ i. a i ++ b i) ∙ sym (records_both k lawful rs ss)

written_end : {V : Type 0} (k : Meaning V) (rs : List (Rec V)) {bs : List ℕ} → bs ≡ written_records k rs → bs ≡ written_records k (rs ++ [])
written_end k rs a = a ∙ ap (written_records k) (sym (append-nil rs))

-- the records of an exchange and of a share
module _ {V : Type 0} (k : Meaning V) (lawful : Lawful k) where
  exchange_written : (ra rb rc : List (Rec V)) (r : Rec V) → written_records k ra ++ (written_records k (rb ++ (rc ++ [])) ++ written_record k r) ≡ written_records k (ra ++ rb ++ rc ++ (r ∷ []))
  exchange_written ra rb rc r = simp (records_both k lawful, append_assoc, append-nil)

  share_written : (ra rb : List (Rec V)) (r : Rec V) → written_records k ra ++ (written_records k (rb ++ []) ++ written_record k r) ≡ written_records k (ra ++ rb ++ (r ∷ []))
  share_written ra rb r = simp (records_both k lawful, append_assoc, append-nil)

module _ {V : Type 0} (k : Meaning V) (lawful : Lawful k) (x : Inputs) (flags : List Bool) where
  -- PARTS IN A ROW
  pub none_worked : (f : Frame) (base : ℕ) (m : Machine V) (from : ℕ) → WorkedAll k x flags f base m (machine m.rows m.output m.cursors m.place) from (none, from)
  unfolding work
  none_worked f base m from = record {
    end_is = refl;
    place_is = omega arith;
    kept = kept_same m.rows base;
    bytes = [];
    wrote = record { lender = refl; grown = grown_none m.output.bytes.now m.output.len };
    light = omega arith;
    means = λ g env al gi fr fl st. record { rows = tt; records_are = refl; stands = st };
  }

  -- one part, and the others behind it
  pub next_worked : (f : Frame) (base top : ℕ) (m n o : Machine V) (e : Expr × ℕ) (es : Exprs × ℕ) (next end : ℕ)
      → top ≡ base + m.rows.width → Below f base m.rows.width
      → Worked k x flags f base m n next e → WorkedAll k x flags f top n o end es
      → WorkedAll k x flags f base m o end (then e.0 es.0, es.1)
  unfolding work
  next_worked f base top m n o e es next end tops lo a b = record {
    end_is = b.end_is;
    place_is = let p = a.place_is in let q = b.place_is in omega arith;
    kept = kept_then a.kept b.kept (omega arith);
    bytes = a.bytes ++ b.bytes;
    wrote = puts_after a.wrote b.wrote;
    light = let l = length-append a.bytes b.bytes in let p = a.light in let q = b.light in omega arith;
    means = λ g env al gi fr fl st.
        let A = a.means g env al gi fr fl st in
        let B = b.means g env al gi (framed_kept k g fr lo a.kept) fl A.stands in
        let here : row o.rows base ≡ row n.rows base = row_kept base b.kept (omega arith) in
        let top_is : top ≡ base + o.rows.width = omega arith in
        record {
          rows = (here ∙ A.rows, subst (λ (p : ℕ). RowsAt o.rows (base + o.rows.width) (map (row_of g) (work_all k g es.0 env al p).values)) a.place_is (subst (λ (p : ℕ). RowsAt o.rows p (map (row_of g) (work_all k g es.0 env al n.place).values)) top_is B.rows));
          records_are = written_both k lawful (work k g e.0 env al m.place).records (work_all k g es.0 env al (m.place + places e.0)).records A.records_are (subst (λ (p : ℕ). b.bytes ≡ written_records k (work_all k g es.0 env al p).records) a.place_is B.records_are);
          stands = B.stands;
        };
  }

  -- LEAVES
  pub leaf_worked : (f : Frame) (base : ℕ) (m : Machine V) (t : RowStack V) (cells : List V) (e : Expr × ℕ) (end : ℕ) → end ≡ e.1 → places e.0 ≡ 0
      → Laid m.rows t base cells → length cells ≡ m.rows.width → base + m.rows.width ≤ length m.rows.cells.now
      → ((g : Given V) (env : List (Field V)) (al : ℕ → Bool) → Gives k x g → Framed k g f m.rows env → cells ≡ row_of g (work k g e.0 env al m.place).value)
      → ((g : Given V) (env : List (Field V)) (al : ℕ → Bool) → (work k g e.0 env al m.place).records ≡ [])
      → Worked k x flags f base m (with_rows m t) end e
  leaf_worked f base m t cells e end ends none-placed laid wide room value none_written = record {
    end_is = ends;
    place_is = omega arith;
    kept = laid_kept laid room wide;
    bytes = [];
    wrote = record { lender = refl; grown = grown_none m.output.bytes.now m.output.len };
    light = omega arith;
    means = λ g env al gi fr fl st. record {
      rows = laid_row laid room wide ∙ value g env al gi fr;
      records_are = ap (written_records k) (sym (none_written g env al));
      stands = subst (λ (p : ℕ). Standing k x g p m.cursors) refl st;
    };
  }

  -- WHAT IS LAID OVER THE FIRST ROW OF PARTS
  pub laid_worked : (f : Frame) (base : ℕ) (m n : Machine V) (t : RowStack V) (cells : List V) (es : Exprs × ℕ) (e : Expr × ℕ) (end : ℕ)
      → WorkedAll k x flags f base m n end es → es.1 ≡ e.1 → places_all es.0 ≡ places e.0 → weight_all k.width es.0 ≡ weight k.width e.0
      → Laid n.rows t base cells → length cells ≡ n.rows.width → base + n.rows.width ≤ length n.rows.cells.now
      → ((g : Given V) (env : List (Field V)) (al : ℕ → Bool) → Gives k x g → Flags g al flags → RowsAt n.rows base (map (row_of g) (work_all k g es.0 env al m.place).values) → cells ≡ row_of g (work k g e.0 env al m.place).value)
      → ((g : Given V) (env : List (Field V)) (al : ℕ → Bool) → written_records k (work_all k g es.0 env al m.place).records ≡ written_records k (work k g e.0 env al m.place).records)
      → Worked k x flags f base m (with_rows n t) end e
  laid_worked f base m n t cells es e end a ends same-places same-weight laid wide room value same-records = record {
    end_is = a.end_is ∙ ends;
    place_is = let p = a.place_is in omega arith;
    kept = kept_then a.kept (laid_kept laid room wide) (omega arith);
    bytes = a.bytes;
    wrote = a.wrote;
    light = let l = a.light in omega arith;
    means = λ g env al gi fr fl st.
        let A = a.means g env al gi fr fl st in
        record {
          rows = laid_row laid room wide ∙ value g env al gi fl A.rows;
          records_are = A.records_are ∙ same-records g env al;
          stands = A.stands;
        };
  }

  -- a row has a cell for each spot
  pub spots_wide : (g : Given V) (s : RowStack V) → Gives k x g → s.width ≡ 2 + x.slots.now.count → length (spots g) ≡ s.width
  spots_wide g s gi wide = let a = spots_long g in let b = gi.held.many in omega arith

  wide_two : (s : RowStack V) → s.width ≡ 2 + x.slots.now.count → 2 ≤ s.width
  wide_two s h = omega arith

  held_few : (g : Given V) → Gives k x g → length flags ≡ 16 → length g.held ≤ length flags
  held_few g gi long = let a = gi.held.many in let b = x.slots.now.few in omega arith

  module _ (w : ℕ) (code : List ℕ) (table : List Function) (read : ℕ → Expr × ℕ) (from : ℕ) where
    -- operators, folds, own and choose
    pub computed_worked : (st : Expression) → Computed st → (f : Frame) (base : ℕ) (m n : Machine V) (t : RowStack V) (end : ℕ)
        → n.rows.width ≡ 2 + x.slots.now.count → length flags ≡ 16
        → base + (n.rows.width + (n.rows.width + n.rows.width)) ≤ length n.rows.cells.now
        → WorkedAll k x flags f base m n end (listed read (count_in table st) (start w from st))
        → Laid n.rows t base (computed k flags n.rows base st)
        → Worked k x flags f base m (with_rows n t) end (unfolded_by w code table read from st)
    unfolding work
    computed_worked (Literal i) c f base m n t end wide long room a laid = absurd c
    computed_worked (Variable i) c f base m n t end wide long room a laid = absurd c
    computed_worked Let c f base m n t end wide long room a laid = absurd c
    computed_worked (Operator o) c f base m n t end wide long room a laid =
        let ea = read (from + 2) in
        let eb = read ea.1 in
        let nw = n.rows.width in
        laid_worked f base m n t (computed k flags n.rows base (Operator o)) (listed read 2 (from + 2)) (unfolded_by w code table read from (Operator o)) end a refl (omega arith) (omega arith) laid
        (rows_applied_long n.rows base (base + nw) (omega arith) (omega arith) (k.apply o)) (omega arith)
        (λ g env al gi fl R. (λ i. applied (k.apply o) (R.0 i) (R.1.0 i)) ∙ row_applied (k.apply o) (work k g ea.0 env al m.place).value (work k g eb.0 env al (m.place + places ea.0)).value (spots g))
        (λ g env al. ap (λ (l : List (Rec V)). written_records k ((work k g ea.0 env al m.place).records ++ l)) (append-nil (work k g eb.0 env al (m.place + places ea.0)).records))
    computed_worked (Fold o) c f base m n t end wide long room a laid =
        let ea = read (from + 2) in
        let eb = read ea.1 in
        let nw = n.rows.width in
        laid_worked f base m n t (computed k flags n.rows base (Fold o)) (listed read 2 (from + 2)) (unfolded_by w code table read from (Fold o)) end a refl (omega arith) (omega arith) laid
        (length-replicate nw _) (omega arith)
        (λ g env al gi fl R.
        let xf = (work k g ea.0 env al m.place).value in
        let yf = (work k g eb.0 env al (m.place + places ea.0)).value in
        let v : own_cell k n.rows (base + nw) ≡ mine k g yf = own_at n.rows (base + nw) g yf k.own (wide_two n.rows wide) R.1.0 in
        let e : gathered (k.apply o) flags (sender_cells n.rows base) (own_cell k n.rows (base + nw)) ≡ folded (k.apply o) al xf (mine k g yf) (senders g.held) =
        (λ i. gathered (k.apply o) flags (drop 2 (R.0 i)) (v i)) ∙ row_gathered (k.apply o) al xf g.held flags (mine k g yf) fl.is (held_few g gi long) in
        ap (replicate nw) e ∙ row_everywhere (folded (k.apply o) al xf (mine k g yf) (senders g.held)) (spots g) nw (spots_wide g n.rows gi wide))
        (λ g env al. ap (λ (l : List (Rec V)). written_records k ((work k g ea.0 env al m.place).records ++ l)) (append-nil (work k g eb.0 env al (m.place + places ea.0)).records))
    computed_worked Exchange c f base m n t end wide long room a laid = absurd c
    computed_worked Share c f base m n t end wide long room a laid = absurd c
    computed_worked If c f base m n t end wide long room a laid = absurd c
    computed_worked (Call i) c f base m n t end wide long room a laid = absurd c
    computed_worked (Sensor i) c f base m n t end wide long room a laid = absurd c
    computed_worked Link c f base m n t end wide long room a laid = absurd c
    computed_worked Own c f base m n t end wide long room a laid =
        let ea = read (from + 1) in
        let nw = n.rows.width in
        laid_worked f base m n t (computed k flags n.rows base Own) (listed read 1 (from + 1)) (unfolded_by w code table read from Own) end a refl (omega arith) (omega arith) laid
        (length-replicate nw _) (omega arith)
        (λ g env al gi fl R.
        let xf = (work k g ea.0 env al m.place).value in
        ap (replicate nw) (own_at n.rows base g xf k.own (wide_two n.rows wide) R.0) ∙ row_everywhere (mine k g xf) (spots g) nw (spots_wide g n.rows gi wide))
        (λ g env al. ap (written_records k) (append-nil (work k g ea.0 env al m.place).records))
    computed_worked Choose c f base m n t end wide long room a laid =
        let ea = read (from + 1) in
        let eb = read ea.1 in
        let ec = read eb.1 in
        let nw = n.rows.width in
        laid_worked f base m n t (computed k flags n.rows base Choose) (listed read 3 (from + 1)) (unfolded_by w code table read from Choose) end a refl (omega arith) (omega arith) laid
        (rows_chosen_long n.rows base (base + nw) (omega arith) (omega arith) k.truth (base + nw + nw) (omega arith)) (omega arith)
        (λ g env al gi fl R.
        (λ i. chosen k.truth (R.0 i) (R.1.0 i) (R.1.1.0 i)) ∙ row_chosen k.truth (work k g ea.0 env al m.place).value (work k g eb.0 env al (m.place + places ea.0)).value (work k g ec.0 env al (m.place + places ea.0 + places eb.0)).value (spots g))
        (λ g env al.
        let ra = (work k g ea.0 env al m.place).records in
        let rb = (work k g eb.0 env al (m.place + places ea.0)).records in
        let rc = (work k g ec.0 env al (m.place + places ea.0 + places eb.0)).records in
        ap (λ (l : List (Rec V)). written_records k (ra ++ (rb ++ l))) (append-nil rc) ∙ ap (written_records k) (sym (append_assoc ra rb rc)))

  -- LET
  pub bind_worked : (f f' : Frame) (base top : ℕ) (m n o : Machine V) (t : RowStack V) (ea eb : Expr × ℕ) (next end : ℕ)
      → top ≡ base + m.rows.width → Below f base m.rows.width → Longer f f' base → top + m.rows.width ≤ length m.rows.cells.now
      → Worked k x flags f base m n next ea → Worked k x flags f' top n o end eb
      → Laid o.rows t base (row o.rows top)
      → Worked k x flags f base m (with_rows o t) end (bind ea.0 eb.0, eb.1)
  unfolding work
  bind_worked f f' base top m n o t ea eb next end tops lo ln room a b laid =
      let wide = row_long o.rows top (omega arith) in
      record {
        end_is = b.end_is;
        place_is = let p = a.place_is in let q = b.place_is in omega arith;
        kept = kept_then (kept_then a.kept b.kept (omega arith)) (laid_kept laid (omega arith) wide) (omega arith);
        bytes = a.bytes ++ b.bytes;
        wrote = puts_after a.wrote b.wrote;
        light = let j = length-append a.bytes b.bytes in let p = a.light in let q = b.light in omega arith;
        means = λ g env al gi fr fl st.
            let A = a.means g env al gi fr fl st in
            let xf = (work k g ea.0 env al m.place).value in
            let B = b.means g (env ++ (xf ∷ [])) al gi (framed_longer k g xf fr lo a.kept ln A.rows) fl A.stands in
            record {
              rows = laid_row laid (omega arith) wide ∙ B.rows ∙ ap (λ (p : ℕ). row_of g (work k g eb.0 (env ++ (xf ∷ [])) al p).value) a.place_is;
              records_are = written_both k lawful (work k g ea.0 env al m.place).records (work k g eb.0 (env ++ (xf ∷ [])) al (m.place + places ea.0)).records A.records_are (B.records_are ∙ ap (λ (p : ℕ). written_records k (work k g eb.0 (env ++ (xf ∷ [])) al p).records) a.place_is);
              stands = B.stands;
            };
      }

  -- CALL
  row_nth : (s : RowStack V) (base : ℕ) (g : Given V) (d : Field V) (fs : List (Field V)) (i : ℕ) → i < length fs → RowsAt s base (map (row_of g) fs) → row s (row_after s.width base i) ≡ row_of g (get_or fs i d)
  row_nth s base g d [] i h r = absurd (omega arith)
  row_nth s base g d (y ∷ fs) zero h r = r.0
  row_nth s base g d (y ∷ fs) (suc i) h r = row_nth s (base + s.width) g d fs i (omega arith) r.1

  values_long : (g : Given V) (es : Exprs) (env : List (Field V)) (al : ℕ → Bool) (p : ℕ) → length (work_all k g es env al p).values ≡ count_all es
  unfolding work
  values_long g none env al p = refl
  values_long g (then e es) env al p = ap suc (values_long g es env al (p + places e))

  pub call_worked : (f f' : Frame) (base top c : ℕ) (m n o : Machine V) (t : RowStack V) (es : Exprs × ℕ) (eb : Expr × ℕ) (end end' : ℕ)
      → c ≡ count_all es.0 → Arguments f' m.rows.width base c → base ≤ top → top + m.rows.width ≤ length m.rows.cells.now
      → row_after m.rows.width base c ≤ top
      → WorkedAll k x flags f base m n end es → Worked k x flags f' top n o end' eb
      → Laid o.rows t base (row o.rows top)
      → Worked k x flags f base m (with_rows o t) end (call es.0 eb.0, es.1)
  unfolding work
  call_worked f f' base top c m n o t es eb end end' cs ar up room below a b laid =
      let w = a.kept.width in
      let wide = row_long o.rows top (omega arith) in
      record {
        end_is = a.end_is;
        place_is = let p = a.place_is in let q = b.place_is in omega arith;
        kept = kept_then (kept_then a.kept b.kept up) (laid_kept laid (omega arith) wide) (omega arith);
        bytes = a.bytes ++ b.bytes;
        wrote = puts_after a.wrote b.wrote;
        light = let j = length-append a.bytes b.bytes in let p = a.light in let q = b.light in omega arith;
        means = λ g env al gi fr fl st.
            let A = a.means g env al gi fr fl st in
            let vs = (work_all k g es.0 env al m.place).values in
            let many : length vs ≡ c = values_long g es.0 env al m.place ∙ sym cs in
            let framed : Framed k g f' n.rows vs = record {
              count_is = omega arith;
              rows = λ i h. ap (row n.rows) (ar.rows i (omega arith) ∙ ap (λ (v : ℕ). row_after v base i) (sym w)) ∙ row_nth n.rows base g (everywhere k.own) vs i h A.rows;
            } in
            let B = b.means g vs al gi framed fl A.stands in
            record {
              rows = laid_row laid (omega arith) wide ∙ B.rows ∙ ap (λ (p : ℕ). row_of g (work k g eb.0 vs al p).value) a.place_is;
              records_are = written_both k lawful (work_all k g es.0 env al m.place).records (work k g eb.0 vs al (m.place + places_all es.0)).records A.records_are (B.records_are ∙ ap (λ (p : ℕ). written_records k (work k g eb.0 vs al p).records) a.place_is);
              stands = B.stands;
            };
      }

  -- IF: the branch `t` was taken. What comes before it
  module _ (f : Frame) (base : ℕ) (still : List Bool) (m n : Machine V) (c' : Cursors) (out : Output) (ea eb ec : Expr × ℕ) (next : ℕ) (v : V)
      (lo : Below f base m.rows.width) (wide : m.rows.width ≡ 2 + x.slots.now.count)
      (a : Worked k x flags f base m n next ea) (read : (d : V) → v ≡ get_or n.rows.cells.now (base + 1) d) where
    own_is : (g : Given V) (y : Field V) → row n.rows base ≡ row_of g y → v ≡ mine k g y
    own_is g y e = let w = a.kept.width in read k.own ∙ own_at n.rows base g y k.own (omega arith) e

    pub yes_worked : (o : Machine V) (mid end on : ℕ) → true ≡ k.truth v
        → Parted k x flags still n.place true n.output out n.cursors c'
        → Worked k x still f base (machine n.rows out c' (n.place + 1)) o mid eb
        → on ≡ o.place + places ec.0 → end ≡ ec.1
        → Worked k x flags f base m (machine o.rows o.output o.cursors on) end (branch ea.0 eb.0 ec.0, ec.1)
    unfolding work
    yes_worked o mid end on is parted b on-is ends =
        let five : length (written_record k (choice n.place true)) ≡ 5 = refl in
        let p = a.place_is in
        record {
          end_is = ends;
          place_is = omega arith;
          kept = kept_then a.kept b.kept (omega arith);
          bytes = a.bytes ++ (written_record k (choice n.place true) ++ b.bytes);
          wrote = puts_after a.wrote (puts_after parted.wrote b.wrote);
          light =
              let j = length-append a.bytes (written_record k (choice n.place true) ++ b.bytes) in
              let i = length-append (written_record k (choice n.place true)) b.bytes in
              omega arith;
          means = λ g env al gi fr fl st.
              let A = a.means g env al gi fr fl st in
              let y = (work k g ea.0 env al m.place).value in
              let h : k.truth (mine k g y) ≡ true = ap k.truth (sym (own_is g y A.rows)) ∙ sym is in
              let B = b.means g env (narrowed g al n.place true) gi (framed_kept k g fr lo a.kept) (parted.aligned g al n.place gi fl A.stands (omega arith)) (parted.stands g n.place gi A.stands (omega arith)) in
              let Y : ℕ → Out V = λ s. work k g eb.0 env (narrowed g al s true) (s + 1) in
              let N : Out V = work k g ec.0 env (narrowed g al (m.place + places ea.0) false) (m.place + places ea.0 + 1 + places eb.0) in
              record {
                rows = B.rows ∙ ap (λ (s : ℕ). row_of g (Y s).value) p ∙ ap (λ (u : Bool). row_of g (cond u (Y (m.place + places ea.0)) N).value) (sym h);
                records_are =
                    written_both k lawful (work k g ea.0 env al m.place).records (choice (m.place + places ea.0) (k.truth (mine k g y)) ∷ (cond (k.truth (mine k g y)) (Y (m.place + places ea.0)) N).records) A.records_are
                    (ap (λ (l : List ℕ). written_record k (choice n.place true) ++ l) B.records_are
                    ∙ ap (λ (s : ℕ). written_records k (choice s true ∷ (Y s).records)) p
                    ∙ ap (λ (u : Bool). written_records k (choice (m.place + places ea.0) u ∷ (cond u (Y (m.place + places ea.0)) N).records)) (sym h));
                stands = standing_later on B.stands (omega arith);
              };
        }

    pub no_worked : (o : Machine V) (end here : ℕ) → false ≡ k.truth v
        → Parted k x flags still n.place false n.output out n.cursors c'
        → here ≡ n.place + 1 + places eb.0
        → Worked k x still f base (machine n.rows out c' here) o end ec
        → Worked k x flags f base m o end (branch ea.0 eb.0 ec.0, ec.1)
    unfolding work
    no_worked o end here is parted here-is b =
        let five : length (written_record k (choice n.place false)) ≡ 5 = refl in
        let p = a.place_is in
        record {
          end_is = b.end_is;
          place_is = omega arith;
          kept = kept_then a.kept b.kept (omega arith);
          bytes = a.bytes ++ (written_record k (choice n.place false) ++ b.bytes);
          wrote = puts_after a.wrote (puts_after parted.wrote b.wrote);
          light =
              let j = length-append a.bytes (written_record k (choice n.place false) ++ b.bytes) in
              let i = length-append (written_record k (choice n.place false)) b.bytes in
              omega arith;
          means = λ g env al gi fr fl st.
              let A = a.means g env al gi fr fl st in
              let y = (work k g ea.0 env al m.place).value in
              let h : k.truth (mine k g y) ≡ false = ap k.truth (sym (own_is g y A.rows)) ∙ sym is in
              let B = b.means g env (narrowed g al n.place false) gi (framed_kept k g fr lo a.kept) (parted.aligned g al n.place gi fl A.stands (omega arith)) (standing_later here (parted.stands g n.place gi A.stands (omega arith)) (omega arith)) in
              let N : ℕ → ℕ → Out V = λ s r. work k g ec.0 env (narrowed g al s false) r in
              let Y : Out V = work k g eb.0 env (narrowed g al (m.place + places ea.0) true) (m.place + places ea.0 + 1) in
              let s = m.place + places ea.0 in
              let r : here ≡ s + 1 + places eb.0 = omega arith in
              record {
                rows = B.rows ∙ (λ i. row_of g (N (p i) (r i)).value) ∙ ap (λ (u : Bool). row_of g (cond u Y (N s (s + 1 + places eb.0))).value) (sym h);
                records_are =
                    written_both k lawful (work k g ea.0 env al m.place).records (choice s (k.truth (mine k g y)) ∷ (cond (k.truth (mine k g y)) Y (N s (s + 1 + places eb.0))).records) A.records_are
                    (ap (λ (l : List ℕ). written_record k (choice n.place false) ++ l) B.records_are
                    ∙ (λ i. written_records k (choice (p i) false ∷ (N (p i) (r i)).records))
                    ∙ ap (λ (u : Bool). written_records k (choice s u ∷ (cond u Y (N s (s + 1 + places eb.0))).records)) (sym h));
                stands = B.stands;
              };
        }

  -- EXCHANGE AND SHARE: `val` is the field that is returned and `snt` the one that is sent, by the received value and the
  -- first place of the parts that see it
  module _ (val snt : Given V → List (Field V) → (ℕ → Bool) → Field V → ℕ → Field V) (ea : Expr × ℕ) (es : Exprs × ℕ) (e : Expr × ℕ) (q p : ℕ) where
    -- the field received there
    abbrev heard : Given V → List (Field V) → (ℕ → Bool) → Field V
    heard g env al = received g al (p + q) (mine k g (work k g ea.0 env al p).value)

    pub exchange_worked : (f f' : Frame) (base top returned sent here : ℕ) (m n o : Machine V) (t t' : RowStack V) (out : Output) (c' : Cursors) (next end : ℕ) (v : V)
        → p ≡ m.place → es.1 ≡ e.1 → places e.0 ≡ places ea.0 + places_all es.0 + 1 → weight k.width e.0 ≡ weight k.width ea.0 + weight_all k.width es.0 + record_weight k.width → q ≡ places ea.0 + places_all es.0
        → top ≡ base + m.rows.width → Below f base m.rows.width → m.rows.width ≡ 2 + x.slots.now.count → Longer f f' base
        → returned + m.rows.width ≤ length m.rows.cells.now → base + m.rows.width ≤ length m.rows.cells.now
        → here ≡ n.place + places_all es.0
        → Worked k x flags f base m n next ea
        → ((d : V) → v ≡ get_or n.rows.cells.now (base + 1) d)
        → Received k x flags here n.cursors v n.rows t base
        → WorkedAll k x flags f' top (with_rows n t) o end es
        → Handed k x here base returned sent o.rows t' o.output out o.cursors c'
        → ((g : Given V) (env : List (Field V)) (al : ℕ → Bool) (r : Field V) (s : ℕ) → RowsAt o.rows top (map (row_of g) (work_all k g es.0 (env ++ (r ∷ [])) al s).values)
        → (row o.rows returned ≡ row_of g (val g env al r s)) × (row o.rows sent ≡ row_of g (snt g env al r s)))
        → ((g : Given V) (env : List (Field V)) (al : ℕ → Bool) → val g env al (heard g env al) (p + places ea.0) ≡ (work k g e.0 env al p).value)
        → ((g : Given V) (env : List (Field V)) (al : ℕ → Bool)
        → written_records k (work k g ea.0 env al p).records ++ (written_records k (work_all k g es.0 (env ++ (heard g env al ∷ [])) al (p + places ea.0)).records ++ written_record k (record_of k g (p + q) (snt g env al (heard g env al) (p + places ea.0))))
        ≡ written_records k (work k g e.0 env al p).records)
        → Worked k x flags f base m (machine t' out c' (here + 1)) end e
    exchange_worked f f' base top returned sent here m n o t t' out c' next end v ps ends sum-places sum-weight q-is tops lo wide ln room room' here-is a read rec b handed rows-hyp value-hyp records-hyp =
        let kept-rec = laid_kept rec.laid (omega arith) rec.wide in
        let kept_in : Kept m.rows t base = kept_then a.kept kept-rec (omega arith) in
        let w1 = kept-rec.width in
        let l1 = kept-rec.long in
        let wide_back = row_long o.rows returned (omega arith) in
        record {
          end_is = b.end_is ∙ ends;
          place_is = omega arith;
          kept = kept_then (kept_then kept_in b.kept (omega arith)) (laid_kept handed.laid (omega arith) wide_back) (omega arith);
          bytes = a.bytes ++ (b.bytes ++ handed.bytes);
          wrote = puts_after a.wrote (puts_after b.wrote handed.wrote);
          light =
              let i = length-append a.bytes (b.bytes ++ handed.bytes) in
              let j = length-append b.bytes handed.bytes in
              omega arith;
          means = λ g env al gi fr fl st.
              let A = a.means g env al gi fr fl st in
              let y = (work k g ea.0 env al m.place).value in
              let own : v ≡ mine k g y = read k.own ∙ own_at n.rows base g y k.own (omega arith) A.rows in
              let r : Field V = received g al here v in
              let at_base : row t base ≡ row_of g r = laid_row rec.laid (omega arith) rec.wide ∙ rec.means g al n.place gi fl A.stands (omega arith) in
              let B = b.means g (env ++ (r ∷ [])) al gi (framed_longer k g r fr lo kept_in ln at_base) fl A.stands in
              let R = rows-hyp g env al r n.place B.rows in
              let he : here ≡ p + q = omega arith in
              let pe : n.place ≡ p + places ea.0 = omega arith in
              let same : r ≡ heard g env al = (λ i. received g al (he i) (own i)) ∙ ap (λ (z : ℕ). received g al (p + q) (mine k g (work k g ea.0 env al z).value)) (sym ps) in
              record {
                rows = laid_row handed.laid (omega arith) wide_back ∙ R.0 ∙ (λ i. row_of g (val g env al (same i) (pe i))) ∙ ap (row_of g) (value-hyp g env al) ∙ ap (λ (z : ℕ). row_of g (work k g e.0 env al z).value) ps;
                records_are =
                    (λ i. A.records_are i ++ (B.records_are i ++ handed.means g (snt g env al r n.place) gi R.1 i))
                    ∙ (λ i. written_records k (work k g ea.0 env al (sym ps i)).records ++ (written_records k (work_all k g es.0 (env ++ (same i ∷ [])) al (pe i)).records ++ written_record k (record_of k g (he i) (snt g env al (same i) (pe i)))))
                    ∙ records-hyp g env al
                    ∙ ap (λ (z : ℕ). written_records k (work k g e.0 env al z).records) ps;
                stands = handed.stands g o.place gi B.stands (omega arith);
              };
        }

  module _ (w : ℕ) (code : List ℕ) (table : List Function) (read : ℕ → Expr × ℕ) (from : ℕ) where
    pub sends_worked : (st : Expression) → Sends st
        → (f f' : Frame) (base top here : ℕ) (m n o : Machine V) (t t' : RowStack V) (out : Output) (c' : Cursors) (next end : ℕ) (v : V)
        → top ≡ base + m.rows.width → Below f base m.rows.width → m.rows.width ≡ 2 + x.slots.now.count → Longer f f' base
        → top + m.rows.width ≤ length m.rows.cells.now
        → here ≡ n.place + places_all (listed read (part_count 0 st - 1) (read (from + 1)).1).0
        → Worked k x flags f base m n next (read (from + 1))
        → ((d : V) → v ≡ get_or n.rows.cells.now (base + 1) d)
        → Received k x flags here n.cursors v n.rows t base
        → WorkedAll k x flags f' top (with_rows n t) o end (listed read (part_count 0 st - 1) (read (from + 1)).1)
        → Handed k x here base (outcome_rows st top o.rows.width).0 (outcome_rows st top o.rows.width).1 o.rows t' o.output out o.cursors c'
        → Worked k x flags f base m (machine t' out c' (here + 1)) end (unfolded_by w code table read from st)
    unfolding work
    sends_worked (Literal i) s f f' base top here m n o t t' out c' next end v tops lo wide ln room here-is a rd rec b handed = absurd s
    sends_worked (Variable i) s f f' base top here m n o t t' out c' next end v tops lo wide ln room here-is a rd rec b handed = absurd s
    sends_worked Let s f f' base top here m n o t t' out c' next end v tops lo wide ln room here-is a rd rec b handed = absurd s
    sends_worked (Operator i) s f f' base top here m n o t t' out c' next end v tops lo wide ln room here-is a rd rec b handed = absurd s
    sends_worked (Fold i) s f f' base top here m n o t t' out c' next end v tops lo wide ln room here-is a rd rec b handed = absurd s
    sends_worked Exchange s f f' base top here m n o t t' out c' next end v tops lo wide ln room here-is a rd rec b handed =
        let ea = read (from + 1) in
        let eb = read ea.1 in
        let ec = read eb.1 in
        let es = listed read 2 ea.1 in
        let e = unfolded_by w code table read from Exchange in
        let q = places ea.0 + places_all es.0 in
        let p = m.place in
        let val : Given V → List (Field V) → (ℕ → Bool) → Field V → ℕ → Field V = λ g env al r i. (work k g eb.0 (env ++ (r ∷ [])) al i).value in
        let snt : Given V → List (Field V) → (ℕ → Bool) → Field V → ℕ → Field V = λ g env al r i. (work k g ec.0 (env ++ (r ∷ [])) al (i + places eb.0)).value in
        let qe : p + q ≡ p + places ea.0 + places eb.0 + places ec.0 = omega arith in
        exchange_worked val snt ea es e q p f f' base top top (top + o.rows.width) here m n o t t' out c' next end v refl refl (omega arith) (omega arith) refl tops lo wide ln room (omega arith) here-is a rd rec b handed
        (λ g env al r i R. (R.0, R.1.0))
        (λ g env al. ap (λ (z : ℕ). val g env al (received g al z (mine k g (work k g ea.0 env al p).value)) (p + places ea.0)) qe)
        (λ g env al.
        let y = mine k g (work k g ea.0 env al p).value in
        let inner : ℕ → List (Field V) = λ z. env ++ (received g al z y ∷ []) in
        (λ i. written_records k (work k g ea.0 env al p).records ++ (written_records k (work_all k g es.0 (inner (qe i)) al (p + places ea.0)).records ++ written_record k (record_of k g (qe i) (work k g ec.0 (inner (qe i)) al (p + places ea.0 + places eb.0)).value)))
        ∙ exchange_written k lawful (work k g ea.0 env al p).records
        (work k g eb.0 (inner (p + places ea.0 + places eb.0 + places ec.0)) al (p + places ea.0)).records
        (work k g ec.0 (inner (p + places ea.0 + places eb.0 + places ec.0)) al (p + places ea.0 + places eb.0)).records
        (record_of k g (p + places ea.0 + places eb.0 + places ec.0) (work k g ec.0 (inner (p + places ea.0 + places eb.0 + places ec.0)) al (p + places ea.0 + places eb.0)).value))
    sends_worked Share s f f' base top here m n o t t' out c' next end v tops lo wide ln room here-is a rd rec b handed =
        let ea = read (from + 1) in
        let eb = read ea.1 in
        let es = listed read 1 ea.1 in
        let e = unfolded_by w code table read from Share in
        let q = places ea.0 + places_all es.0 in
        let p = m.place in
        let val : Given V → List (Field V) → (ℕ → Bool) → Field V → ℕ → Field V = λ g env al r i. (work k g eb.0 (env ++ (r ∷ [])) al i).value in
        let qe : p + q ≡ p + places ea.0 + places eb.0 = omega arith in
        exchange_worked val val ea es e q p f f' base top top top here m n o t t' out c' next end v refl refl (omega arith) (omega arith) refl tops lo wide ln room (omega arith) here-is a rd rec b handed
        (λ g env al r i R. (R.0, R.0))
        (λ g env al. ap (λ (z : ℕ). val g env al (received g al z (mine k g (work k g ea.0 env al p).value)) (p + places ea.0)) qe)
        (λ g env al.
        let y = mine k g (work k g ea.0 env al p).value in
        let inner : ℕ → List (Field V) = λ z. env ++ (received g al z y ∷ []) in
        (λ i. written_records k (work k g ea.0 env al p).records ++ (written_records k (work_all k g es.0 (inner (qe i)) al (p + places ea.0)).records ++ written_record k (record_of k g (qe i) (work k g eb.0 (inner (qe i)) al (p + places ea.0)).value)))
        ∙ share_written k lawful (work k g ea.0 env al p).records
        (work k g eb.0 (inner (p + places ea.0 + places eb.0)) al (p + places ea.0)).records
        (record_of k g (p + places ea.0 + places eb.0) (work k g eb.0 (inner (p + places ea.0 + places eb.0)) al (p + places ea.0)).value))
    sends_worked If s f f' base top here m n o t t' out c' next end v tops lo wide ln room here-is a rd rec b handed = absurd s
    sends_worked (Call i) s f f' base top here m n o t t' out c' next end v tops lo wide ln room here-is a rd rec b handed = absurd s
    sends_worked (Sensor i) s f f' base top here m n o t t' out c' next end v tops lo wide ln room here-is a rd rec b handed = absurd s
    sends_worked Link s f f' base top here m n o t t' out c' next end v tops lo wide ln room here-is a rd rec b handed = absurd s
    sends_worked Own s f f' base top here m n o t t' out c' next end v tops lo wide ln room here-is a rd rec b handed = absurd s
    sends_worked Choose s f f' base top here m n o t t' out c' next end v tops lo wide ln room here-is a rd rec b handed = absurd s
