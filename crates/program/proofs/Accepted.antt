-- A block that is read with a kind's literals refused is read the same with none refused. Assumes nothing.
use Rattle.std.proofs.Common.{◌≡◌, ℕ, zero, suc, ◌+◌, Bool, true, not, ◌&&◌, ◌||◌, eqb, leb, List, [], ◌∷◌, ◌++◌, length, get_or, take, drop, Ok, Err, refl, ap, ◌∙◌, arith}
use Rattle.refusal.specs.declared.cause.Cause.{Cause}
use Rattle.refusal.specs.declared.cause.Cause.TheVariants as cause
use Rattle.refusal.specs.Outcomes.{Outcome, after, must}
use Rattle.program.specs.declared.shape.KindShape.{KindShape}
use Rattle.program.specs.declared.expression.Expression.{Expression}
use Rattle.program.specs.declared.expression.Expression.TheVariants.{Literal, Variable, Let, Operator, Fold, Exchange, Share, If, Call, Sensor, Link, Own, Choose}
use Rattle.program.specs.Expressions.{Expr, Unfolded}
use Rattle.program.specs.Reading.{decoded, readable, available, part_count, binds, called_function, parts, expr_by, expr}
use Rattle.program.specs.Verdict.{header, function, functions, read_block, none_refused, part_fits, part_end}

-- the second gives every result that the first gives
abbrev pub Keeps : {A : Type 0} → Outcome A → Outcome A → Type 0
Keeps {A} m n = (a : A) → m ≡ Ok a → n ≡ Ok a

pub keeps_same : {A : Type 0} (m : Outcome A) → Keeps m m
keeps_same m a e = e

pub keeps_after : {A B : Type 0} (m n : Outcome A) (f g : A → Outcome B) → Keeps m n → ((a : A) → Keeps (f a) (g a)) → Keeps (after m f) (after n g)
keeps_after (Ok a) n f g h k b e = ap (λ (z : Outcome _). after z g) (h a refl) ∙ k a b e
keeps_after (Err x) n f g h k b e = let z : ◌≡◌ {A = ℕ} 0 1 = cc in absurd (omega arith)

keeps_must : (s t : Bool) (c : Cause) (p : ℕ) → t ≡ true → Keeps (must s c p) (must t c p)
keeps_must s t c p e u h = rw e (unit_only u)
  where
    unit_only : (u : Unit {0}) → ◌≡◌ {A = Outcome (Unit {0})} (Ok tt) (Ok u)
    unit_only tt = refl

readable_all : (w : ℕ) (part : List ℕ) (e : Expression) → readable none_refused w part e ≡ true
readable_all w part (Literal at) = refl
readable_all w part (Variable n) = refl
readable_all w part Let = refl
readable_all w part (Operator n) = refl
readable_all w part (Fold n) = refl
readable_all w part Exchange = refl
readable_all w part Share = refl
readable_all w part If = refl
readable_all w part (Call n) = refl
readable_all w part (Sensor n) = refl
readable_all w part Link = refl
readable_all w part Own = refl
readable_all w part Choose = refl

module _ (refuses : List ℕ → Bool) (k : KindShape) (sensors : ℕ) where
  keeps_parts : (read other : ℕ → ℕ → Outcome (Expr × ℕ)) → ((at scope : ℕ) → Keeps (read at scope) (other at scope)) →
      (n at first others : ℕ) → Keeps (parts read n at first others) (parts other n at first others)
  keeps_parts read other h zero at first others = keeps_same (parts read zero at first others)
  keeps_parts read other h (suc n) at first others =
      keeps_after (read at first) (other at first) _ _ (h at first) (λ a.
      keeps_after (parts read n a.1 others others) (parts other n a.1 others others) _ _ (keeps_parts read other h n a.1 others others) (λ ps. keeps_same _))

  module _ (fs : List Unfolded) (part : List ℕ) where
    keeps_expr_by : (read other : ℕ → ℕ → Outcome (Expr × ℕ)) → ((at scope : ℕ) → Keeps (read at scope) (other at scope)) →
        (at scope : ℕ) → Keeps (expr_by refuses k sensors fs part read at scope) (expr_by none_refused k sensors fs part other at scope)
    keeps_expr_by read other h at scope =
        keeps_after (decoded k.width (drop at part) at) _ _ _ (keeps_same _) (λ d.
        keeps_after (must (readable refuses k.width part d.0) cause.LiteralRefused (at + 1)) _ _ _
        (keeps_must _ _ _ _ (readable_all k.width part d.0)) (λ _.
        keeps_after (must (available k sensors (length fs) scope d.0) cause.NotAvailable (at + 1)) _ _ _ (keeps_same _) (λ _.
        keeps_after (parts read (part_count (called_function fs d.0).parameters d.0) d.1 scope (scope + binds d.0)) _ _ _
        (keeps_parts read other h (part_count (called_function fs d.0).parameters d.0) d.1 scope (scope + binds d.0)) (λ ps. keeps_same _))))

    keeps_expr : (fuel at scope : ℕ) → Keeps (expr refuses k sensors fs part fuel at scope) (expr none_refused k sensors fs part fuel at scope)
    keeps_expr zero at scope = keeps_same (expr refuses k sensors fs part zero at scope)
    keeps_expr (suc fuel) at scope = keeps_expr_by (expr refuses k sensors fs part fuel) (expr none_refused k sensors fs part fuel) (keeps_expr fuel) at scope

  module _ (b : List ℕ) where
    keeps_function : (fs : List Unfolded) (last : Bool) (at : ℕ) → Keeps (function refuses k sensors b fs last at) (function none_refused k sensors b fs last at)
    keeps_function fs last at =
        keeps_after (must (part_fits b at) cause.FunctionCount at) _ _ _ (keeps_same _) (λ _.
        keeps_after (must (leb (get_or b (at + 2) 0) 8 && (not last || eqb (get_or b (at + 2) 0) 0)) cause.Parameters (at + 2)) _ _ _ (keeps_same _) (λ _.
        keeps_after (expr refuses k sensors fs (take (part_end b at) b) (length b) (at + 3) (get_or b (at + 2) 0)) _ _ _
        (keeps_expr fs (take (part_end b at) b) (length b) (at + 3) (get_or b (at + 2) 0)) (λ e. keeps_same _)))

    keeps_functions : (n at : ℕ) (fs : List Unfolded) → Keeps (functions refuses k sensors b n at fs) (functions none_refused k sensors b n at fs)
    keeps_functions zero at fs = keeps_same (functions refuses k sensors b zero at fs)
    keeps_functions (suc n) at fs =
        keeps_after (function refuses k sensors b fs (eqb n 0) at) _ _ _ (keeps_function fs (eqb n 0) at) (λ f. keeps_functions n f.end (fs ++ (f ∷ [])))

pub keeps_block : (refuses : List ℕ → Bool) (k : KindShape) (b : List ℕ) → Keeps (read_block refuses k b) (read_block none_refused k b)
keeps_block refuses k b =
    keeps_after (header k b) _ _ _ (keeps_same _) (λ h.
    keeps_after (functions refuses k h.sensors b h.functions 10 []) _ _ _ (keeps_functions refuses k h.sensors b h.functions 10 []) (λ fs. keeps_same _))
