-- What a walk over a program in hand can rely on. Assumes nothing.
use Rattle.std.proofs.Common.{◌≡◌, ℕ, zero, suc, ◌+◌, ◌-◌, ◌^◌, ◌<◌, ◌≤◌, List, [], ◌∷◌, map, length, get_or, replicate, Some, sym, ap, ◌∙◌, subst, arith}
use Rattle.std.specs.List.{AllByRecursion}
use Rattle.std.proofs.lemmas.List.{length-take}
use Rattle.std.proofs.ByRecursion.{All-append, All-map, All-weaker}
use Rattle.program.specs.declared.program.Program.{Program}
use Rattle.program.specs.declared.function.Function.{Function}
use Rattle.program.specs.declared.shape.KindShape.{KindShape}
use Rattle.program.specs.declared.expression.Expression.{Expression}
use Rattle.program.specs.declared.expression.Expression.TheVariants.{Call}
use Rattle.program.specs.Expressions.{Expr, Unfolded}
use Rattle.program.specs.Measures.{places}
use Rattle.program.specs.Sizing.{row, no_row, table_of}
use Rattle.program.specs.Programs.{shown, block_of}
use Rattle.program.proofs.Shown.{Kept, found, program_parts}
use Rattle.unfolding.specs.Unfolding.{expression_at, named, count_in, start, body_places}
use Rattle.unfolding.specs.Walks.{rows, unfolded_in}
use Rattle.unfolding.proofs.Near.{Known, known, near_start, near_unfolded}

pub wide : (p : Program) → 1 ≤ (shown p).shape.width
wide p = subst (λ (k : KindShape). 1 ≤ k.width) (sym (program_parts p).shaped) p.wide

pub narrow : (p : Program) → (shown p).shape.width ≤ 16
narrow p = subst (λ (k : KindShape). k.width ≤ 16) (sym (program_parts p).shaped) p.narrow

pub short : (p : Program) → length (shown p).block ≤ 1024
short p = let e = ap length (program_parts p).kept in let l = length-take p.block.len p.block.bytes in omega (arith, p.block.within)

-- what holds of a free row and of each function's row holds of every row
module _ (P : Function → Type 0) (free : P no_row) where
  free_rows : (k : ℕ) → AllByRecursion P (replicate k no_row)
  free_rows zero = tt
  free_rows (suc k) = (free, free_rows k)

  at_or : (xs : List Function) (i : ℕ) → AllByRecursion P xs → P (get_or xs i no_row)
  at_or [] i h = free
  at_or (x ∷ xs) zero h = h.0
  at_or (x ∷ xs) (suc i) h = at_or xs i h.1

  every_row : (p : Program) (i : ℕ) → ((f : Unfolded) → Kept p.shape.width (block_of p) f → P (row (shown p).shape.width f)) → P (named (rows p) i)
  every_row p i each =
      let w = (shown p).shape.width in
      let fs = (shown p).functions in
      let all = All-weaker (Kept p.shape.width (block_of p)) (λ f. P (row w f)) each fs (found p).all in
      at_or (table_of w fs) i (All-append P (map (row w) fs) (replicate (32 - length fs) no_row) (All-map P (row w) fs all) (free_rows (32 - length fs)))

-- every function begins in the block
pub placed : (p : Program) (i : ℕ) → (named (rows p) i).start ≤ length (shown p).block
placed p i =
    let e = ap length (program_parts p).kept in
    every_row (λ f. f.start ≤ length (shown p).block) (omega arith) p i (λ f k. omega (arith, e, k.inside))

-- no function has more than eight parameters
pub few_parameters : (p : Program) (i : ℕ) → (named (rows p) i).parameters ≤ 8
few_parameters p i = every_row (λ f. f.parameters ≤ 8) (omega arith) p i (λ f k. k.few)

pub known_in : (p : Program) (d at : ℕ) (st : Expression) (n s v : ℕ) → at ≤ length (shown p).block + 17 → 1 ≤ d → Some st ≡ expression_at (shown p).block at
    → n ≡ count_in (rows p) st → s ≡ start v at st → v ≡ (shown p).shape.width → Known (shown p).shape.width (shown p).block (rows p) d at st n s
known_in p d at st n s v low deep e en es ev = known (shown p).shape.width (shown p).block (rows p) d at st n s v (wide p) (narrow p) low deep e en es ev

pub near_in : (p : Program) (d at : ℕ) → at ≤ length (shown p).block + 17 → (unfolded_in p d at).1 ≤ length (shown p).block + 17
near_in p d at h = near_unfolded (shown p).shape.width (shown p).block (rows p) (wide p) (narrow p) d at h

pub start_small : (p : Program) (at : ℕ) (st : Expression) (v : ℕ) → at ≤ length (shown p).block + 17 → Some st ≡ expression_at (shown p).block at → v ≡ (shown p).shape.width → start v at st < 2 ^ 64
start_small p at st v low e ev =
    let h = near_start (shown p).shape.width (shown p).block (rows p) (wide p) (narrow p) at st e low in
    let q = ap (λ u. start u at st) ev in
    let l = short p in
    omega arith

-- the body that a call names
pub body_start : (p : Program) (n : ℕ) (f : Function) → f ≡ named (rows p) n → f.start ≤ length (shown p).block + 17
body_start p n f e = let h = placed p n in let s = ap (λ (g : Function). g.start) e in omega arith

pub body_is : (table : List Function) (read : ℕ → Expr × ℕ) (e : Expression) (n : ℕ) (f : Function) → e ≡ Call n → f ≡ named table n → places (read f.start).0 ≡ body_places table read e
body_is table read e n f i g = ap (λ (h : Function). places (read h.start).0) g ∙ ap (body_places table read) (sym i)
