-- What a checked program in hand stands for: its block is read, and its outline is that of the reading. Assumes nothing.
use Rattle.std.proofs.Common.{◌≡◌, ℕ, zero, suc, ◌+◌, ◌-◌, ◌<◌, ◌≤◌, Bool, true, not, ◌&&◌, ◌||◌, eqb, leb, List, [], ◌∷◌, ◌++◌, map, length, get_or, take, replicate, is_ok, Ok, Err, sym, refl, ap, ◌∙◌, subst, arith, length-append}
use mathlib.Core.Bool.{Bool-set}
use mathlib.Core.Logic.{∥∥₁_elim}
use lib.ListN.{length-map, get_or-map}
use base.Stored.{Coded-set}
use Rattle.std.specs.List.{AllByRecursion}
use Rattle.std.proofs.ByRecursion.{All-push, All-get_or}
use Rattle.std.proofs.lemmas.List.{get_or_append_left, get_or_default, get_or_past}
use Rattle.std.proofs.lemmas.Bool.Decides.{nat_tests}
use Rattle.refusal.specs.Outcomes.{Outcome, must, mapped}
use Rattle.refusal.specs.declared.cause.Cause.TheVariants as cause
use Rattle.refusal.proofs.Outcomes.{after_ok, must_ok, mapped_ok, ok_same, Gives, gives_ok, gives_after}
use Rattle.program.specs.declared.program.Program.{Program}
use Rattle.program.specs.declared.outline.Outline.{Outline}
use Rattle.program.specs.declared.function.Function.{Function}
use Rattle.program.specs.declared.shape.KindShape.{KindShape}
use Rattle.program.specs.contracts.outline.Outline.{the_row}
use Rattle.program.specs.Expressions.{Expr, Exprs, literal, variable, bind, operator, fold, exchange, share, branch, call, sensor, link, own, choose, none, then, Unfolded}
use Rattle.program.specs.Measures.{size, size_all, places, places_all, sites, sites_all, sizes_of}
use Rattle.program.specs.Reading.{no_function, expr}
use Rattle.program.specs.Verdict.{header, function, functions, Checked, read_block, none_refused, within_limits, part_fits, part_end}
use Rattle.program.specs.Sizing.{row, no_row, table_of, outline_of}
use Rattle.program.specs.Programs.{block_of, checked_or, shown, run_of}

-- READ
is_read : (d : Checked) (m : Outcome Checked) → is_ok m ≡ true → m ≡ Ok (checked_or d m)
is_read d (Ok c) e = refl
is_read d (Err x) e = let z : ◌≡◌ {A = ℕ} 0 1 = cc in absurd (omega arith)

accepts : {A B : Type 0} (f : A → B) (m : Outcome A) (b : B) → mapped f m ≡ Ok b → is_ok m ≡ true
accepts f (Ok a) b e = refl
accepts f (Err x) b e = let z : ◌≡◌ {A = ℕ} 0 1 = cc in absurd (omega arith)

pub reads : (p : Program) → read_block none_refused p.shape (block_of p) ≡ Ok (shown p)
reads p =
    let m = read_block none_refused p.shape (block_of p) in
    is_read _ m (∥∥₁_elim p.checked (Bool-set (is_ok m) true) (accepts (outline_of p.shape.width) m p.outline))

pub outline_is : (p : Program) → p.outline ≡ outline_of p.shape.width (shown p)
outline_is p = ∥∥₁_elim p.checked (Coded-set the_row.coded _ _) (λ e.
    let q = mapped_ok (outline_of p.shape.width) (read_block none_refused p.shape (block_of p)) p.outline e in
    sym (ap (outline_of p.shape.width) (ok_same _ _ (sym (reads p) ∙ q.1)) ∙ q.2))

-- THE PARTS OF A READING
pub record ReadParts (k : KindShape) (b : List ℕ) (c : Checked) : Type 0 where
  pub kept : c.block ≡ b
  pub shaped : c.shape ≡ k
  pub headed : header k b ≡ Ok c.header
  pub listed : functions none_refused k c.header.sensors b c.header.functions 10 [] ≡ Ok c.functions

pub parts_of : (k : KindShape) (b : List ℕ) (c : Checked) → read_block none_refused k b ≡ Ok c → ReadParts k b c
parts_of k b c e =
    let h = after_ok (header k b) _ c e in
    let f = after_ok (functions none_refused k h.0.sensors b h.0.functions 10 []) _ c h.2 in
    subst (ReadParts k b) (ok_same _ _ f.2) (record { kept = refl; shaped = refl; headed = h.1; listed = f.1 })

pub program_parts : (p : Program) → ReadParts p.shape (block_of p) (shown p)
program_parts p = parts_of p.shape (block_of p) (shown p) (reads p)

-- THE FUNCTIONS: as many as the header says, each within the limits
pub record Kept (w : ℕ) (b : List ℕ) (f : Unfolded) : Type 0 where
  pub limited : within_limits (sizes_of w f.body) ≡ true
  pub inside : f.start ≤ length b
  pub few : f.parameters ≤ 8

pub record Found (w : ℕ) (b : List ℕ) (n : ℕ) (fs gs : List Unfolded) : Type 0 where
  pub many : length gs ≡ length fs + n
  pub all : AllByRecursion (Kept w b) gs

module _ (k : KindShape) (sensors : ℕ) (b : List ℕ) where
  fits_inside : (at : ℕ) → part_fits b at ≡ true → at + 3 ≤ length b
  fits_inside at h = grind (arith, nat_tests)

  few_parameters : (n : ℕ) (c : Bool) → (leb n 8 && c) ≡ true → n ≤ 8
  few_parameters n c h = grind (arith, nat_tests)

  function_kept : (fs : List Unfolded) (last : Bool) (at : ℕ) → Gives (Kept k.width b) (function none_refused k sensors b fs last at)
  function_kept fs last at =
      gives_after (Kept k.width b) (must (part_fits b at) cause.FunctionCount at) _ (λ _ fit.
      gives_after (Kept k.width b) (must (leb (get_or b (at + 2) 0) 8 && (not last || eqb (get_or b (at + 2) 0) 0)) cause.Parameters (at + 2)) _ (λ _ few.
      gives_after (Kept k.width b) (expr none_refused k sensors fs (take (part_end b at) b) (length b) (at + 3) (get_or b (at + 2) 0)) _ (λ e _.
      gives_after (Kept k.width b) (must (eqb e.1 (part_end b at)) cause.ProgramLeftover e.1) _ (λ _ _.
      gives_after (Kept k.width b) (must (not last || eqb (part_end b at) (length b)) cause.ProgramLeftover (part_end b at)) _ (λ _ _.
      gives_after (Kept k.width b) (must (within_limits (sizes_of k.width e.0)) cause.FunctionTooLarge at) _ (λ _ w.
      gives_ok (Kept k.width b) _ (record { limited = must_ok _ _ _ _ w; inside = fits_inside at (must_ok _ _ _ _ fit); few = few_parameters _ _ (must_ok _ _ _ _ few) })))))))

  functions_found : (n at : ℕ) (fs gs : List Unfolded) → AllByRecursion (Kept k.width b) fs → functions none_refused k sensors b n at fs ≡ Ok gs → Found k.width b n fs gs
  functions_found zero at fs gs h e = let s : fs ≡ gs = ok_same fs gs e in record { many = rw (← s) (omega arith); all = subst (AllByRecursion (Kept k.width b)) s h }
  functions_found (suc n) at fs gs h e =
      let f = after_ok (function none_refused k sensors b fs (eqb n 0) at) _ gs e in
      let r = functions_found n f.0.end (fs ++ (f.0 ∷ [])) gs (All-push (Kept k.width b) fs f.0 h (function_kept fs (eqb n 0) at f.0 f.1)) f.2 in
      record { many = r.many ∙ rw (length-append fs (f.0 ∷ [])) (omega arith); all = r.all }

pub found : (p : Program) → Found p.shape.width (block_of p) (shown p).header.functions [] (shown p).functions
found p = functions_found p.shape (shown p).header.sensors (block_of p) (shown p).header.functions 10 [] (shown p).functions tt (program_parts p).listed

pub function_count : (p : Program) → length (shown p).functions ≡ (shown p).header.functions
function_count p = (found p).many ∙ omega arith

pub header_is : (p : Program) → p.outline.header ≡ (shown p).header
header_is p = ap (λ (o : Outline). o.header) (outline_is p)

pub last_in : (p : Program) → (shown p).header.functions - 1 < length (shown p).functions
last_in p =
    let some : 1 ≤ (shown p).header.functions = subst (λ h. 1 ≤ h.functions) (header_is p) p.some in
    rw (function_count p) (omega arith)

-- THE RUN
pub row_is : (p : Program) (n : ℕ) (d : Function) → n < length (shown p).functions → get_or p.outline.functions n d ≡ row p.shape.width (get_or (shown p).functions n no_function)
row_is p n d h =
    let w = p.shape.width in
    let fs = (shown p).functions in
    let in_rows : n < length (map (row w) fs) = rw (length-map fs (row w)) h in
    ap (λ (o : Outline). get_or o.functions n d) (outline_is p)
    ∙ get_or_append_left (map (row w) fs) (replicate (32 - length fs) no_row) d n in_rows
    ∙ get_or_default (map (row w) fs) n d (row w no_function) in_rows
    ∙ get_or-map (row w) fs n no_function

pub run_row : (p : Program) (n : ℕ) (d : Function) → n ≡ (shown p).header.functions → (get_or p.outline.functions (n - 1) d).sizes ≡ sizes_of (shown p).shape.width (run_of p)
run_row p n d e =
    ap (λ (m : ℕ). (get_or p.outline.functions (m - 1) d).sizes) e
    ∙ ap (λ (f : Function). f.sizes) (row_is p ((shown p).header.functions - 1) d (last_in p))
    ∙ ap (λ (k : KindShape). sizes_of k.width (run_of p)) (sym (program_parts p).shaped)

pub rows_shown : (p : Program) → p.outline.functions ≡ table_of (shown p).shape.width (shown p).functions
rows_shown p =
    ap (λ (o : Outline). o.functions) (outline_is p)
    ∙ ap (λ (k : KindShape). table_of k.width (shown p).functions) (sym (program_parts p).shaped)

pub row_shown : (p : Program) (n : ℕ) → get_or p.outline.functions n no_row ≡ get_or (table_of (shown p).shape.width (shown p).functions) n no_row
row_shown p n = ap (λ (l : List Function). get_or l n no_row) (rows_shown p)

pub row_past : (p : Program) (n : ℕ) → 32 ≤ n → no_row ≡ get_or (table_of (shown p).shape.width (shown p).functions) n no_row
row_past p n h = sym (get_or_past p.outline.functions n no_row (omega (arith, p.rows))) ∙ row_shown p n

pub record Within (w : ℕ) (e : Expr) : Type 0 where
  pub size : (sizes_of w e).size ≤ 4096
  pub depth : (sizes_of w e).depth ≤ 32
  pub weight : (sizes_of w e).weight ≤ 2039

limits_from : (w : ℕ) (e : Expr) → within_limits (sizes_of w e) ≡ true → Within w e
limits_from w e h = record { size = grind (arith, nat_tests); depth = grind (arith, nat_tests); weight = grind (arith, nat_tests) }

pub run_within : (p : Program) → Within (shown p).shape.width (run_of p)
run_within p =
    let s : (shown p).shape ≡ p.shape = (program_parts p).shaped in
    rw s (limits_from p.shape.width (run_of p) (All-get_or (Kept p.shape.width (block_of p)) (shown p).functions _ no_function (last_in p) (found p).all).limited)

-- PLACES
mutual
  pub places_listed : (e : Expr) → places e ≡ length (sites e)
  places_listed (literal v) = refl
  places_listed (variable n) = refl
  places_listed (bind a b) = simp length-append (omega (arith, places_listed a, places_listed b))
  places_listed (operator n a b) = simp length-append (omega (arith, places_listed a, places_listed b))
  places_listed (fold n a b) = simp length-append (omega (arith, places_listed a, places_listed b))
  places_listed (exchange a b c) = simp length-append (omega (arith, places_listed a, places_listed b, places_listed c))
  places_listed (share a b) = simp length-append (omega (arith, places_listed a, places_listed b))
  places_listed (branch a b c) = simp length-append (omega (arith, places_listed a, places_listed b, places_listed c))
  places_listed (call es b) = simp length-append (omega (arith, places_listed_all es, places_listed b))
  places_listed (sensor n) = refl
  places_listed link = refl
  places_listed (own a) = places_listed a
  places_listed (choose a b c) = simp length-append (omega (arith, places_listed a, places_listed b, places_listed c))

  places_listed_all : (es : Exprs) → places_all es ≡ length (sites_all es)
  places_listed_all none = refl
  places_listed_all (then e es) = simp length-append (omega (arith, places_listed e, places_listed_all es))

mutual
  pub places_few : (e : Expr) → places e ≤ size e
  places_few (literal v) = omega arith
  places_few (variable n) = omega arith
  places_few (bind a b) = omega (arith, places_few a, places_few b)
  places_few (operator n a b) = omega (arith, places_few a, places_few b)
  places_few (fold n a b) = omega (arith, places_few a, places_few b)
  places_few (exchange a b c) = omega (arith, places_few a, places_few b, places_few c)
  places_few (share a b) = omega (arith, places_few a, places_few b)
  places_few (branch a b c) = omega (arith, places_few a, places_few b, places_few c)
  places_few (call es b) = omega (arith, places_few_all es, places_few b)
  places_few (sensor n) = omega arith
  places_few link = omega arith
  places_few (own a) = omega (arith, places_few a)
  places_few (choose a b c) = omega (arith, places_few a, places_few b, places_few c)

  places_few_all : (es : Exprs) → places_all es ≤ size_all es
  places_few_all none = omega arith
  places_few_all (then e es) = omega (arith, places_few e, places_few_all es)
