-- Rows of leaves: one value in all cells, or the row of a variable.
use Rattle.std.proofs.Common.{◌≡◌, ℕ, ◌+◌, ◌<◌, ◌≤◌, Bool, true, false, cond, ltb, List, [], ◌∷◌, map, length, get_or, take, drop, replicate, Some, None, Option, unwrap_or, sym, refl, ap, ◌∙◌, subst, ⊎_elim, arith, ltb-false, ltb-true}
use lib.ListN.{get_or-eq_default}
use Rattle.std.proofs.lemmas.List.{length-replicate}
use Rattle.std.proofs.lemmas.Bool.{cases_Bool}
use Rattle.kind.specs.Kind.{Meaning}
use Rattle.program.specs.declared.expression.Expression.{Expression}
use Rattle.program.specs.declared.expression.Expression.TheVariants.{Literal, Variable, Sensor}
use Rattle.program.specs.Programs.{shown}
use Rattle.row_stack.specs.declared.row_stack.RowStack.{RowStack}
use Rattle.row_stack.specs.Rows.{row, Laid}
use Rattle.row_stack.proofs.Laying.{row_long}
use Rattle.rules.specs.Rules.{Spot, Field, Given, everywhere}
use Rattle.hearing.specs.declared.inputs.Inputs.{Inputs}
use Rattle.hearing.specs.Hearing.{spots, reading_at, Gives}
use Rattle.hearing.specs.Cells.{value_in}
use Rattle.hearing.proofs.Sounding.{spots_long}
use Rattle.steps.specs.declared.frame.Frame.{Frame}
use Rattle.steps.specs.Frames.{row_of, found_row, Below, Framed}
use Rattle.steps.specs.Steps.{leaf_value, Leafed}

same_cells : {V : Type 0} (v : V) (ss : List Spot) → replicate (length ss) v ≡ map (everywhere v) ss
same_cells v [] = refl
same_cells v (s ∷ ss) = ap (λ vs. v ∷ vs) (same_cells v ss)

-- the row of one value
pub row_everywhere : {V : Type 0} (g : Given V) (w : ℕ) (v : V) → w ≡ 2 + length g.held → replicate w v ≡ row_of g (everywhere v)
row_everywhere g w v e = ap (λ (n : ℕ). replicate n v) (e ∙ sym (spots_long g)) ∙ same_cells v (spots g)

-- a row is there, or there is none of this number
row_found : (f : Frame) (n r : ℕ) → found_row f n ≡ Some r → (n < f.count) × (r ≡ get_or f.rows n 0)
row_found f n r e = ⊎_elim
    (λ (t : ltb n f.count ≡ true).
    let same : Some (get_or f.rows n 0) ≡ Some r = ap (λ (b : Bool). cond b (Some (get_or f.rows n 0)) None) (sym t) ∙ e in
    (ltb-true n f.count t, (cc)))
    (λ (t : ltb n f.count ≡ false).
    let none : ◌≡◌ {A = Option ℕ} None (Some r) = ap (λ (b : Bool). cond b (Some (get_or f.rows n 0)) None) (sym t) ∙ e in
    absurd (let z : ◌≡◌ {A = ℕ} 0 1 = cc in let y : ⊥ = omega arith in y))
    (cases_Bool (ltb n f.count))

row_missing : (f : Frame) (n : ℕ) → found_row f n ≡ None → f.count ≤ n
row_missing f n e = ⊎_elim
    (λ (t : ltb n f.count ≡ true).
    let none : Some (get_or f.rows n 0) ≡ None = ap (λ (b : Bool). cond b (Some (get_or f.rows n 0)) None) (sym t) ∙ e in
    absurd (let z : ◌≡◌ {A = ℕ} 0 1 = cc in let y : ⊥ = omega arith in y))
    (λ (t : ltb n f.count ≡ false). ltb-false n f.count t)
    (cases_Bool (ltb n f.count))

module _ {V : Type 0} (k : Meaning V) (x : Inputs) (f : Frame) (s t : RowStack V) (base : ℕ) (wide : s.width ≡ 2 + x.slots.now.count) where
  -- one value is laid, and the leaf has it everywhere
  everywhere_laid : (e : Expression) (v : V) → Laid s t base (replicate s.width v)
      → ((g : Given V) (env : List (Field V)) → Gives k x g → Framed k g f s env → everywhere v ≡ leaf_value k x g env e) → Leafed k x f e s t base
  everywhere_laid e v l h = record {
    cells = replicate s.width v;
    laid = l;
    wide = length-replicate s.width v;
    means = λ g env gives framed.
        let many = gives.held.many in
        row_everywhere g s.width v (omega arith) ∙ ap (row_of g) (h g env gives framed);
  }

  pub literal_laid : (e : Expression) (from : ℕ) (v : V) → e ≡ Literal from → (shown x.program.now).shape.width ≡ k.width → v ≡ value_in k (shown x.program.now).block from
      → Laid s t base (replicate s.width v) → Leafed k x f e s t base
  literal_laid e from v is w h l = subst (λ (d : Expression). Leafed k x f d s t base) (sym is)
      (everywhere_laid (Literal from) v l (λ g env gives framed.
      ap everywhere (h ∙ ap (λ (n : ℕ). unwrap_or (k.read (take n (drop from (shown x.program.now).block))) k.own) (sym w))))

  pub sensor_laid : (e : Expression) (n : ℕ) (v : V) → e ≡ Sensor n → v ≡ reading_at k x.readings.now n
      → Laid s t base (replicate s.width v) → Leafed k x f e s t base
  sensor_laid e n v is h l = subst (λ (d : Expression). Leafed k x f d s t base) (sym is)
      (everywhere_laid (Sensor n) v l (λ g env gives framed. ap everywhere (h ∙ gives.readings n)))

  pub missing_laid : (e : Expression) (n : ℕ) (v : V) → e ≡ Variable n → found_row f n ≡ None → v ≡ k.own
      → Laid s t base (replicate s.width v) → Leafed k x f e s t base
  missing_laid e n v is missing h l = subst (λ (d : Expression). Leafed k x f d s t base) (sym is)
      (everywhere_laid (Variable n) v l (λ g env gives framed.
      let past = row_missing f n missing in
      let long = framed.count_is in
      ap everywhere h ∙ sym (get_or-eq_default env (everywhere k.own) {n = n} (omega arith))))

  pub variable_laid : (e : Expression) (n r : ℕ) → e ≡ Variable n → found_row f n ≡ Some r → Below f base s.width → base + s.width ≤ length s.cells.now
      → Laid s t base (row s r) → Leafed k x f e s t base
  variable_laid e n r is found below room l =
      let there = row_found f n r found in
      let under = below.rows n there.0 in
      subst (λ (d : Expression). Leafed k x f d s t base) (sym is) (record {
        cells = row s r;
        laid = l;
        wide = row_long s r (omega (arith, there.1, under));
        means = λ g env gives framed.
            let long = framed.count_is in
            ap (row s) there.1 ∙ framed.rows n (omega (arith, there.0, long));
      })
