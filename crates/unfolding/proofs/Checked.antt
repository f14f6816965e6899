-- What the check read is what a walk over the bytes unfolds. Assumes nothing.
use Rattle.std.proofs.Common.{◌≡◌, ℕ, zero, suc, ◌+◌, ◌<◌, ◌≤◌, Bool, true, List, length, get_or, take, drop, Ok, sym, refl, ap, ◌∙◌, subst, arith}
use Rattle.std.proofs.lemmas.Bool.{ltb-true}
use Rattle.refusal.specs.declared.cause.Cause.TheVariants as cause
use Rattle.refusal.specs.Outcomes.{Outcome, must}
use Rattle.refusal.proofs.Outcomes.{after_ok, must_ok, ok_same}
use Rattle.program.specs.declared.shape.KindShape.{KindShape}
use Rattle.program.specs.declared.function.Function.{Function}
use Rattle.program.specs.declared.expression.Expression.{Expression}
use Rattle.program.specs.declared.expression.Expression.TheVariants.{Literal, Variable, Let, Operator, Fold, Exchange, Share, If, Call, Sensor, Link, Own, Choose}
use Rattle.program.specs.Expressions.{Expr, literal, none, then, bind, operator, fold, exchange, share, branch, call, own, choose, sensor, link, variable, Unfolded}
use Rattle.program.specs.Measures.{depth, depth_all}
use Rattle.program.specs.Reading.{decoded, readable, available, part_count, binds, no_function, called_function, Parts, arguments, built, parts, expr}
use Rattle.unfolding.specs.Unfolding.{start, named, listed, unfolded_by, unfolded_or, unfolded}
use Rattle.unfolding.proofs.Decoding.{stepped, part_bytes}

-- each part is at most so deep
abbrev pub Deep : (n : ℕ) → Parts n → ℕ → Type 0
Deep zero ps d = Unit {0}
Deep (suc n) ps d = (depth ps.0 ≤ d) × Deep n ps.1 d

deep_arguments : (n : ℕ) (ps : Parts n) (d : ℕ) → depth_all (arguments n ps) ≤ d → Deep n ps d
deep_arguments zero ps d h = tt
deep_arguments (suc n) ps d h = (omega arith, deep_arguments n ps.1 d (omega arith))

deep_built : (w : ℕ) (part : List ℕ) (f : Unfolded) (e : Expression) (ps : Parts (part_count f.parameters e)) (d : ℕ) → depth (built w part f e ps) ≤ suc d → Deep (part_count f.parameters e) ps d
deep_built w part f (Literal at) ps d h = tt
deep_built w part f (Variable n) ps d h = tt
deep_built w part f Let ps d h = (omega arith, (omega arith, tt))
deep_built w part f (Operator n) ps d h = (omega arith, (omega arith, tt))
deep_built w part f (Fold n) ps d h = (omega arith, (omega arith, tt))
deep_built w part f Exchange ps d h = (omega arith, (omega arith, (omega arith, tt)))
deep_built w part f Share ps d h = (omega arith, (omega arith, tt))
deep_built w part f If ps d h = (omega arith, (omega arith, (omega arith, tt)))
deep_built w part f (Call n) ps d h = deep_arguments f.parameters ps d (omega arith)
deep_built w part f (Sensor n) ps d h = tt
deep_built w part f Link ps d h = tt
deep_built w part f Own ps d h = (omega arith, tt)
deep_built w part f Choose ps d h = (omega arith, (omega arith, (omega arith, tt)))

pub some_depth : (e : Expr) → 1 ≤ depth e
some_depth (literal v) = omega arith
some_depth (variable n) = omega arith
some_depth (bind a b) = omega arith
some_depth (operator n a b) = omega arith
some_depth (fold n a b) = omega arith
some_depth (exchange a b c) = omega arith
some_depth (share a b) = omega arith
some_depth (branch a b c) = omega arith
some_depth (call es b) = omega arith
some_depth (sensor n) = omega arith
some_depth link = omega arith
some_depth (own a) = omega arith
some_depth (choose a b c) = omega arith

-- n parts unfold one behind the other
abbrev pub Row : (ℕ → Expr × ℕ) → (n : ℕ) → ℕ → Parts n → ℕ → Type 0
Row read zero at ps end = at ≡ end
Row read (suc n) at ps end = (m : ℕ) × (read at ≡ (ps.0, m)) × Row read n m ps.1 end

row_listed : (read : ℕ → Expr × ℕ) (n at : ℕ) (ps : Parts n) (end : ℕ) → Row read n at ps end → listed read n at ≡ (arguments n ps, end)
row_listed read zero at ps end r = λ i. (none, r i)
row_listed read (suc n) at ps end r =
    let e = r.1 in
    let h = row_listed read n r.0 ps.1 end r.2 in
    (λ i. (then (e i).0 (listed read n (e i).1).0, (listed read n (e i).1).1))
    ∙ (λ i. (then ps.0 (h i).0, (h i).1))

module _ (read : ℕ → Expr × ℕ) where
  one_part : (f : Expr → Expr) (at : ℕ) (ps : Parts 1) (end : ℕ) → Row read 1 at ps end → ◌≡◌ {A = Expr × ℕ} (f (read at).0, (read at).1) (f ps.0, end)
  one_part f at ps end r = let e = r.1 in let s = r.2 in (λ i. (f (e i).0, (e i).1)) ∙ (λ i. (f ps.0, s i))

  two_parts : (f : Expr → Expr → Expr) (at : ℕ) (ps : Parts 2) (end : ℕ) → Row read 2 at ps end →
      ◌≡◌ {A = Expr × ℕ} (f (read at).0 (read (read at).1).0, (read (read at).1).1) (f ps.0 ps.1.0, end)
  two_parts f at ps end r =
      let e = r.1 in
      (λ i. (f (e i).0 (read (e i).1).0, (read (e i).1).1)) ∙ one_part (f ps.0) r.0 ps.1 end r.2

  three_parts : (f : Expr → Expr → Expr → Expr) (at : ℕ) (ps : Parts 3) (end : ℕ) → Row read 3 at ps end →
      ◌≡◌ {A = Expr × ℕ} (f (read at).0 (read (read at).1).0 (read (read (read at).1).1).0, (read (read (read at).1).1).1) (f ps.0 ps.1.0 ps.1.1.0, end)
  three_parts f at ps end r =
      let e = r.1 in
      (λ i. (f (e i).0 (read (e i).1).0 (read (read (e i).1).1).0, (read (read (e i).1).1).1)) ∙ two_parts (f ps.0) r.0 ps.1 end r.2

-- parts that were read make a row, where their expressions unfold
parts_row : (read : ℕ → ℕ → Outcome (Expr × ℕ)) (walk : ℕ → Expr × ℕ) (d : ℕ) →
    ((at scope : ℕ) (x : Expr × ℕ) → read at scope ≡ Ok x → depth x.0 ≤ d → walk at ≡ x) →
    (n at first others : ℕ) (y : Parts n × ℕ) → parts read n at first others ≡ Ok y → Deep n y.0 d → Row walk n at y.0 y.1
parts_row read walk d h zero at first others y e = λ _. ap (λ (x : Parts 0 × ℕ). x.1) (ok_same (tt, at) y e)
parts_row read walk d h (suc n) at first others y e =
    let a = after_ok (read at first) _ y e in
    let b = after_ok (parts read n a.0.1 others others) _ y a.2 in
    subst (λ (x : Parts (suc n) × ℕ). Deep (suc n) x.0 d → Row walk (suc n) at x.0 x.1) (ok_same ((a.0.0, b.0.0), b.0.1) y b.2)
    (λ deep'. (a.0.1, h at first a.0 a.1 deep'.0, parts_row read walk d h n a.0.1 others others b.0 b.1 deep'.1))

-- the functions before this one stand in the table, and their bodies unfold
pub record Before (w : ℕ) (code : List ℕ) (table : List Function) (fs : List Unfolded) : Type 0 where
  pub parameters : (n : ℕ) → n < length fs → (named table n).parameters ≡ (get_or fs n no_function).parameters
  pub bodies : (n d : ℕ) → n < length fs → depth (get_or fs n no_function).body ≤ d → (unfolded w code table d (named table n).start).0 ≡ (get_or fs n no_function).body

module _ (k : KindShape) (wide : 1 ≤ k.width) (sensors : ℕ) (code : List ℕ) (stop : ℕ) (table : List Function) (fs : List Unfolded) (known : Before k.width code table fs) (refuses : List ℕ → Bool) where
  abbrev part : List ℕ
  part = take stop code

  abbrev walk : ℕ → ℕ → Expr × ℕ
  walk d = unfolded k.width code table d

  by_head : (d at scope : ℕ) (h : Expression) (ps : Parts (part_count (called_function fs h).parameters h)) (end : ℕ) →
      ((o : ℕ) → h ≡ Literal o → o + k.width ≤ length (take stop code)) → available k sensors (length fs) scope h ≡ true →
      depth (built k.width (take stop code) (called_function fs h) h ps) ≤ suc d →
      Row (unfolded k.width code table d) (part_count (called_function fs h).parameters h) (start k.width at h) ps end →
      unfolded_by k.width code table (unfolded k.width code table d) at h ≡ (built k.width (take stop code) (called_function fs h) h ps, end)
  by_head d at scope (Literal o) ps end l a g r = (let e = sym (part_bytes k.width code stop o (l o refl)) in λ i. (literal (e i), r i))
  by_head d at scope (Variable n) ps end l a g r = λ i. (variable n, r i)
  by_head d at scope Let ps end l a g r = two_parts (walk d) bind (at + 1) ps end r
  by_head d at scope (Operator n) ps end l a g r = two_parts (walk d) (operator n) (at + 2) ps end r
  by_head d at scope (Fold n) ps end l a g r = two_parts (walk d) (fold n) (at + 2) ps end r
  by_head d at scope Exchange ps end l a g r = three_parts (walk d) exchange (at + 1) ps end r
  by_head d at scope Share ps end l a g r = two_parts (walk d) share (at + 1) ps end r
  by_head d at scope If ps end l a g r = three_parts (walk d) branch (at + 1) ps end r
  by_head d at scope (Call n) ps end l a g r =
      let lt : n < length fs = ltb-true n (length fs) a in
      let e = known.parameters n lt in
      let q = row_listed (walk d) (get_or fs n no_function).parameters (at + 2) ps end r in
      let b = known.bodies n d lt (omega arith) in
      (λ i. (call (listed (walk d) (e i) (at + 2)).0 (walk d (named table n).start).0, (listed (walk d) (e i) (at + 2)).1))
      ∙ (λ i. (call (q i).0 (b i), (q i).1))
  by_head d at scope (Sensor n) ps end l a g r = λ i. (sensor n, r i)
  by_head d at scope Link ps end l a g r = λ i. (link, r i)
  by_head d at scope Own ps end l a g r = one_part (walk d) own (at + 1) ps end r
  by_head d at scope Choose ps end l a g r = three_parts (walk d) choose (at + 1) ps end r

  -- an expression that was read is what unfolds at its position, at its depth and below
  pub read_unfolds : (fuel at scope : ℕ) (x : Expr × ℕ) (d : ℕ) → expr refuses k sensors fs (take stop code) fuel at scope ≡ Ok x → depth x.0 ≤ d → unfolded k.width code table d at ≡ x
  read_unfolds zero at scope x d e g = let z : ◌≡◌ {A = ℕ} 0 1 = cc in absurd (omega arith)
  read_unfolds (suc fuel) at scope x zero e g = let s = some_depth x.0 in absurd (omega arith)
  read_unfolds (suc fuel) at scope x (suc d) e g =
      let a = after_ok (decoded k.width (drop at part) at) _ x e in
      let h = a.0.0 in
      let b = after_ok (must (readable refuses k.width part h) cause.LiteralRefused (at + 1)) _ x a.2 in
      let c = after_ok (must (available k sensors (length fs) scope h) cause.NotAvailable (at + 1)) _ x b.2 in
      let ys = after_ok (parts (expr refuses k sensors fs part fuel) (part_count (called_function fs h).parameters h) a.0.1 scope (scope + binds h)) _ x c.2 in
      let s = stepped k.width wide code stop at a.0 a.1 in
      let q = ok_same (built k.width part (called_function fs h) h ys.0.0, ys.0.1) x ys.2 in
      let g2 : depth (built k.width part (called_function fs h) h ys.0.0) ≤ suc d = subst (λ (y : Expr × ℕ). depth y.0 ≤ suc d) (sym q) g in
      let row = parts_row (expr refuses k sensors fs part fuel) (walk d) d (λ at scope x e g. read_unfolds fuel at scope x d e g)
      (part_count (called_function fs h).parameters h) a.0.1 scope (scope + binds h) ys.0 ys.1 (deep_built k.width part (called_function fs h) h ys.0.0 d g2) in
      ap (unfolded_or k.width code table (walk d) at) (sym s.is)
      ∙ by_head d at scope h ys.0.0 ys.0.1 s.literal (must_ok _ _ _ _ c.1) g2
      (subst (λ (m : ℕ). Row (walk d) (part_count (called_function fs h).parameters h) m ys.0.0 ys.0.1) s.next row)
      ∙ q
