-- Every function of a checked program unfolds to its body, and so does the run. Assumes nothing.
use Rattle.std.proofs.Common.{◌≡◌, ℕ, zero, suc, ◌+◌, ◌-◌, ◌<◌, ◌≤◌, Bool, true, not, ◌&&◌, ◌||◌, eqb, leb, List, [], ◌∷◌, ◌++◌, map, length, get_or, take, replicate, Ok, sym, ap, ◌∙◌, subst, ⊎_elim, arith, length-append}
use lib.ListN.{length-map, get_or-map}
use Rattle.std.proofs.lemmas.List.{get_or_append_left, get_or-append-add, get_or_default}
use Rattle.std.proofs.lemmas.Bool.{cases_lt}
use Rattle.std.proofs.lemmas.Bool.Decides.{nat_tests}
use Rattle.refusal.specs.declared.cause.Cause.TheVariants as cause
use Rattle.refusal.specs.Outcomes.{must}
use Rattle.refusal.proofs.Outcomes.{after_ok, must_ok, ok_same, Gives, gives_ok, gives_after}
use Rattle.program.specs.declared.program.Program.{Program}
use Rattle.program.specs.declared.shape.KindShape.{KindShape}
use Rattle.program.specs.declared.function.Function.{Function}
use Rattle.program.specs.Expressions.{Expr, Unfolded}
use Rattle.program.specs.Measures.{depth, sizes_of}
use Rattle.program.specs.Reading.{no_function, expr}
use Rattle.program.specs.Verdict.{function, functions, none_refused, part_fits, part_end, within_limits}
use Rattle.program.specs.Sizing.{row, no_row, table_of}
use Rattle.program.specs.Programs.{shown, block_of, run_of}
use Rattle.program.proofs.Shown.{program_parts, last_in}
use Rattle.unfolding.specs.Unfolding.{named, unfolded}
use Rattle.unfolding.specs.Walks.{rows, unfolded_in}
use Rattle.unfolding.proofs.Checked.{Before, read_unfolds}

-- a row of the table is that of its function
row_at : (w : ℕ) (fs : List Unfolded) (n : ℕ) → n < length fs → named (table_of w fs) n ≡ row w (get_or fs n no_function)
row_at w fs n h =
    let in_rows : n < length (map (row w) fs) = rw (length-map fs (row w)) h in
    get_or_append_left (map (row w) fs) (replicate (32 - length fs) no_row) no_row n in_rows
    ∙ get_or_default (map (row w) fs) n no_row (row w no_function) in_rows
    ∙ get_or-map (row w) fs n no_function

module _ (k : KindShape) (wide_enough : 1 ≤ k.width) (sensors : ℕ) (b : List ℕ) where
  -- where a function's expression begins, its body unfolds
  abbrev pub UnfoldsAs : List Function → Unfolded → Type 0
  UnfoldsAs table f = (d : ℕ) → depth f.body ≤ d → unfolded k.width b table d f.start ≡ (f.body, f.end)

  same_end : (m n : ℕ) → eqb m n ≡ true → m ≡ n
  same_end m n h = grind (arith, nat_tests)

  function_unfolds : (table : List Function) (fs : List Unfolded) (last : Bool) (at : ℕ) → Before k.width b table fs → Gives (UnfoldsAs table) (function none_refused k sensors b fs last at)
  function_unfolds table fs last at known =
      let P = UnfoldsAs table in
      gives_after P (must (part_fits b at) cause.FunctionCount at) _ (λ _ _.
      gives_after P (must (leb (get_or b (at + 2) 0) 8 && (not last || eqb (get_or b (at + 2) 0) 0)) cause.Parameters (at + 2)) _ (λ _ _.
      gives_after P (expr none_refused k sensors fs (take (part_end b at) b) (length b) (at + 3) (get_or b (at + 2) 0)) _ (λ e was.
      gives_after P (must (eqb e.1 (part_end b at)) cause.ProgramLeftover e.1) _ (λ _ ends.
      gives_after P (must (not last || eqb (part_end b at) (length b)) cause.ProgramLeftover (part_end b at)) _ (λ _ _.
      gives_after P (must (within_limits (sizes_of k.width e.0)) cause.FunctionTooLarge at) _ (λ _ _.
      gives_ok P _ (λ d h.
      read_unfolds k wide_enough sensors b (part_end b at) table fs known none_refused (length b) (at + 3) (get_or b (at + 2) 0) e d was h
      ∙ ap (λ (n : ℕ). (e.0, n)) (same_end e.1 (part_end b at) (must_ok _ _ _ _ ends)))))))))

  -- functions that were read stay
  prefix : (n at : ℕ) (fs all : List Unfolded) → functions none_refused k sensors b n at fs ≡ Ok all → (i : ℕ) → i < length fs → get_or all i no_function ≡ get_or fs i no_function
  prefix zero at fs all e i h = ap (λ (l : List Unfolded). get_or l i no_function) (sym (ok_same fs all e))
  prefix (suc n) at fs all e i h =
      let f = after_ok (function none_refused k sensors b fs (eqb n 0) at) _ all e in
      let l = length-append fs (f.0 ∷ []) in
      prefix n f.0.end (fs ++ (f.0 ∷ [])) all f.2 i (omega arith) ∙ get_or_append_left fs (f.0 ∷ []) no_function i h

  longer : (n at : ℕ) (fs all : List Unfolded) → functions none_refused k sensors b n at fs ≡ Ok all → length fs ≤ length all
  longer zero at fs all e = let s = ap length (ok_same fs all e) in omega arith
  longer (suc n) at fs all e =
      let f = after_ok (function none_refused k sensors b fs (eqb n 0) at) _ all e in
      let l = length-append fs (f.0 ∷ []) in
      let r = longer n f.0.end (fs ++ (f.0 ∷ [])) all f.2 in
      omega arith

  before : (fs all : List Unfolded) → length fs ≤ length all → ((i : ℕ) → i < length fs → get_or all i no_function ≡ get_or fs i no_function) →
      ((i : ℕ) → i < length fs → UnfoldsAs (table_of k.width all) (get_or all i no_function)) → Before k.width b (table_of k.width all) fs
  before fs all long same done = record {
    parameters = λ n h. ap (λ (r : Function). r.parameters) (row_at k.width all n (omega arith)) ∙ ap (λ (f : Unfolded). f.parameters) (same n h);
    bodies = λ n d h g.
        let starts : (named (table_of k.width all) n).start ≡ (get_or all n no_function).start = ap (λ (r : Function). r.start) (row_at k.width all n (omega arith)) in
        let shallow : depth (get_or all n no_function).body ≤ d = subst (λ (f : Unfolded). depth f.body ≤ d) (sym (same n h)) g in
        ap (λ (m : ℕ). (unfolded k.width b (table_of k.width all) d m).0) starts
        ∙ ap (λ (x : Expr × ℕ). x.0) (done n h d shallow) ∙ ap (λ (f : Unfolded). f.body) (same n h);
  }

  functions_unfold : (n at : ℕ) (fs all : List Unfolded) → functions none_refused k sensors b n at fs ≡ Ok all →
      ((i : ℕ) → i < length fs → UnfoldsAs (table_of k.width all) (get_or all i no_function)) →
      (i : ℕ) → i < length all → UnfoldsAs (table_of k.width all) (get_or all i no_function)
  functions_unfold zero at fs all e done = let s = ap length (ok_same fs all e) in λ i h. done i (omega arith)
  functions_unfold (suc n) at fs all e done =
      let f = after_ok (function none_refused k sensors b fs (eqb n 0) at) _ all e in
      let more = fs ++ (f.0 ∷ []) in
      let l = length-append fs (f.0 ∷ []) in
      let table = table_of k.width all in
      let long = longer (suc n) at fs all e in
      let known = before fs all long (prefix (suc n) at fs all e) done in
      let this = function_unfolds table fs (eqb n 0) at known f.0 f.1 in
      let zero-on : length fs + 0 ≡ length fs = omega arith in
      let last-is : get_or all (length fs) no_function ≡ f.0 =
      prefix n f.0.end more all f.2 (length fs) (omega arith) ∙ ap (λ (j : ℕ). get_or more j no_function) (sym zero-on) ∙ get_or-append-add fs (f.0 ∷ []) 0 no_function in
      functions_unfold n f.0.end more all f.2 (λ i h.
      ⊎_elim (λ (lt : i < length fs). done i lt)
      (λ (past : length fs ≤ i). let q : length fs ≡ i = omega arith in subst (λ (j : ℕ). UnfoldsAs table (get_or all j no_function)) q (subst (UnfoldsAs table) (sym last-is) this))
      (cases_lt i (length fs)))

-- the run of a program in hand
pub run_unfolds : (p : Program) (n : ℕ) (f : Function) → n ≡ (shown p).header.functions → f ≡ named (rows p) (n - 1) → (d : ℕ) → d ≡ depth (run_of p) → (unfolded_in p d f.start).0 ≡ run_of p
run_unfolds p n f en ef d ed =
    let c = shown p in
    let q = program_parts p in
    let w = c.shape.width in
    let all = functions_unfold p.shape p.wide c.header.sensors (block_of p) c.header.functions 10 [] c.functions q.listed (λ i h. absurd (omega arith)) in
    let at_last = all (c.header.functions - 1) (last_in p) d (omega arith) in
    let starts : f.start ≡ (get_or c.functions (c.header.functions - 1) no_function).start =
    ap (λ (r : Function). r.start) (ef ∙ ap (λ (m : ℕ). named (rows p) (m - 1)) en ∙ row_at w c.functions (c.header.functions - 1) (last_in p)) in
    let same_shape : unfolded_in p d f.start ≡ unfolded p.shape.width (block_of p) (table_of p.shape.width c.functions) d f.start =
    (λ i. unfolded (q.shaped i).width (q.kept i) (table_of (q.shaped i).width c.functions) d f.start) in
    ap (λ (x : Expr × ℕ). x.0) (same_shape ∙ ap (unfolded p.shape.width (block_of p) (table_of p.shape.width c.functions) d) starts ∙ at_last)
