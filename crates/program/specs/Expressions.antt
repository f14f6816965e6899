-- An expression of a program, unfolded: a called body stands where it is called, behind its arguments. Assumes nothing.
use Rattle.std.specs.Prelude.{ℕ, List}

mutual
  pub data Expr : Type 0 where
    -- 01, with the bytes of its value
    literal : List ℕ → Expr
    -- 02, with the variable's number
    variable : ℕ → Expr
    -- 03: what is bound, and the part that sees it
    bind : Expr → Expr → Expr
    -- 04 and 05, with the operator's number
    operator : ℕ → Expr → Expr → Expr
    fold : ℕ → Expr → Expr → Expr
    -- 06: initial, returned, sent; 07: initial, returned and sent
    exchange : Expr → Expr → Expr → Expr
    share : Expr → Expr → Expr
    -- 08: condition, first branch, second branch
    branch : Expr → Expr → Expr → Expr
    -- 09: the arguments, and the body of the function
    call : Exprs → Expr → Expr
    -- 0A, with the sensor's number
    sensor : ℕ → Expr
    -- 0B to 0D
    link : Expr
    own : Expr → Expr
    choose : Expr → Expr → Expr → Expr

  -- the arguments of a call
  pub data Exprs : Type 0 where
    none : Exprs
    then : Expr → Exprs → Exprs

-- a function as it stands in a block: how many parameters, where its expression begins and ends, and the
-- expression unfolded
pub record Unfolded : Type 0 where
  pub parameters : ℕ
  pub start : ℕ
  pub end : ℕ
  pub body : Expr
