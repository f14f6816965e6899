-- The bytes of a checked program as its unfolded expression, down to a depth: what a walk over the bytes follows.
-- It stands for something at any byte; of a checked program it is what the check read. Assumes nothing.
use Rattle.std.specs.Prelude.{ℕ, zero, suc, ◌+◌, List, take, drop, Some, None, Option, slice_index, slice_index_or}
use Rattle.program.specs.declared.expression.Expression.{Expression}
use Rattle.program.specs.declared.expression.Expression.TheVariants.{Literal, Variable, Let, Operator, Fold, Exchange, Share, If, Call, Sensor, Link, Own, Choose}
use Rattle.program.specs.declared.function.Function.{Function}
use Rattle.program.specs.Expressions.{Expr, Exprs, literal, variable, bind, operator, fold, exchange, share, branch, call, sensor, link, own, choose, none, then}
use Rattle.program.specs.Measures.{places}
pub use Rattle.program.specs.Reading.{expression_of, start}
use Rattle.program.specs.Reading.{part_count, callee}
use Rattle.program.specs.Sizing.{no_row}

-- the expression at a position of the bytes, which are 0 past their end
abbrev pub expression_at : List ℕ → ℕ → Option Expression
expression_at code at = expression_of (slice_index code at) (slice_index code (at + 1)) at

-- how many places are its own
abbrev pub own_places : Expression → ℕ
own_places (Literal from) = 0
own_places (Variable n) = 0
own_places Let = 0
own_places (Operator n) = 0
own_places (Fold n) = 0
own_places Exchange = 1
own_places Share = 1
own_places If = 1
own_places (Call n) = 0
own_places (Sensor n) = 0
own_places Link = 0
own_places Own = 0
own_places Choose = 0

-- the function that a call names: a free row where there is none
abbrev pub named : List Function → ℕ → Function
named table n = slice_index_or table n no_row

-- how many parts it has
abbrev pub count_in : List Function → Expression → ℕ
count_in table e = part_count (named table (callee e)).parameters e

-- n expressions in a row, and where they end
abbrev pub listed : (ℕ → Expr × ℕ) → ℕ → ℕ → Exprs × ℕ
listed read zero at = (none, at)
listed read (suc n) at = (then (read at).0 (listed read n (read at).1).0, (listed read n (read at).1).1)

-- how many places the body has that it calls
abbrev pub body_places : List Function → (ℕ → Expr × ℕ) → Expression → ℕ
body_places table read (Literal from) = 0
body_places table read (Variable n) = 0
body_places table read Let = 0
body_places table read (Operator n) = 0
body_places table read (Fold n) = 0
body_places table read Exchange = 0
body_places table read Share = 0
body_places table read If = 0
body_places table read (Call n) = places (read (named table n).start).0
body_places table read (Sensor n) = 0
body_places table read Link = 0
body_places table read Own = 0
body_places table read Choose = 0

module _ (w : ℕ) (code : List ℕ) (table : List Function) where
  -- an expression unfolded, and where it ends; `read` unfolds its parts and the body that it calls
  abbrev pub unfolded_by : (ℕ → Expr × ℕ) → ℕ → Expression → Expr × ℕ
  unfolded_by read at (Literal from) = (literal (take w (drop from code)), from + w)
  unfolded_by read at (Variable n) = (variable n, at + 2)
  unfolded_by read at Let = let a = read (at + 1) in let b = read a.1 in (bind a.0 b.0, b.1)
  unfolded_by read at (Operator n) = let a = read (at + 2) in let b = read a.1 in (operator n a.0 b.0, b.1)
  unfolded_by read at (Fold n) = let a = read (at + 2) in let b = read a.1 in (fold n a.0 b.0, b.1)
  unfolded_by read at Exchange = let a = read (at + 1) in let b = read a.1 in let c = read b.1 in (exchange a.0 b.0 c.0, c.1)
  unfolded_by read at Share = let a = read (at + 1) in let b = read a.1 in (share a.0 b.0, b.1)
  unfolded_by read at If = let a = read (at + 1) in let b = read a.1 in let c = read b.1 in (branch a.0 b.0 c.0, c.1)
  unfolded_by read at (Call n) = let xs = listed read (named table n).parameters (at + 2) in (call xs.0 (read (named table n).start).0, xs.1)
  unfolded_by read at (Sensor n) = (sensor n, at + 2)
  unfolded_by read at Link = (link, at + 1)
  unfolded_by read at Own = let a = read (at + 1) in (own a.0, a.1)
  unfolded_by read at Choose = let a = read (at + 1) in let b = read a.1 in let c = read b.1 in (choose a.0 b.0 c.0, c.1)

  -- where there is no expression a link stands, which takes no byte
  abbrev pub unfolded_or : (ℕ → Expr × ℕ) → ℕ → Option Expression → Expr × ℕ
  unfolded_or read at None = (link, at)
  unfolded_or read at (Some e) = unfolded_by read at e

  -- the expression at a position, and where it ends, down to a depth
  abbrev pub unfolded : ℕ → ℕ → Expr × ℕ
  unfolded zero at = (link, at)
  unfolded (suc d) at = unfolded_or (unfolded d) at (expression_at code at)
