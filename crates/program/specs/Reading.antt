-- How an expression is read from the bytes of a function's part. Assumes nothing.
use Rattle.std.specs.Prelude.{ℕ, zero, suc, ◌+◌, Bool, true, cond, not, ◌||◌, List, length, take, drop, Some, None, Option, Ok, ◌==◌, nat_le, nat_lt, slice_index, slice_index_or}
use Rattle.refusal.specs.declared.cause.Cause.TheVariants as cause
use Rattle.refusal.specs.Outcomes.{Outcome, refuse, after, must}
use Rattle.program.specs.declared.shape.KindShape.{KindShape}
use Rattle.program.specs.declared.expression.Expression.{Expression}
use Rattle.program.specs.declared.expression.Expression.TheVariants.{Literal, Variable, Let, Operator, Fold, Exchange, Share, If, Call, Sensor, Link, Own, Choose}
use Rattle.program.specs.Expressions.{Expr, Exprs, literal, variable, bind, operator, fold, exchange, share, branch, call, sensor, link, own, choose, none, then, Unfolded}

-- THE CODE AND ITS NUMBERS
-- the expression with the code c and the number n, at a position; none if no expression has the code
abbrev pub expression_of : ℕ → ℕ → ℕ → Option Expression
expression_of c n at =
    cond (c == 1) (Some (Literal (at + 1))) (
    cond (c == 2) (Some (Variable n)) (
    cond (c == 3) (Some Let) (
    cond (c == 4) (Some (Operator n)) (
    cond (c == 5) (Some (Fold n)) (
    cond (c == 6) (Some Exchange) (
    cond (c == 7) (Some Share) (
    cond (c == 8) (Some If) (
    cond (c == 9) (Some (Call n)) (
    cond (c == 10) (Some (Sensor n)) (
    cond (c == 11) (Some Link) (
    cond (c == 12) (Some Own) (
    cond (c == 13) (Some Choose) None))))))))))))

-- where the parts of an expression at a position begin
abbrev pub start : ℕ → ℕ → Expression → ℕ
start w at (Literal from) = from + w
start w at (Variable n) = at + 2
start w at Let = at + 1
start w at (Operator n) = at + 2
start w at (Fold n) = at + 2
start w at Exchange = at + 1
start w at Share = at + 1
start w at If = at + 1
start w at (Call n) = at + 2
start w at (Sensor n) = at + 2
start w at Link = at + 1
start w at Own = at + 1
start w at Choose = at + 1

-- how many bytes of numbers follow a code: a literal's w bytes, one number, or none
abbrev pub number_bytes : ℕ → ℕ → ℕ
number_bytes w c = cond (c == 1) w (cond (c == 2 || c == 4 || c == 5 || c == 9 || c == 10) 1 0)

-- the expression with the code c and, if it has one, the number n, and where its parts begin
abbrev pub coded : ℕ → ℕ → ℕ → ℕ → Outcome (Expression × ℕ)
coded w c n at =
    cond (c == 1) (Ok (Literal (at + 1), at + 1 + w))
    (cond (c == 2) (Ok (Variable n, at + 2))
    (cond (c == 3) (Ok (Let, at + 1))
    (cond (c == 4) (Ok (Operator n, at + 2))
    (cond (c == 5) (Ok (Fold n, at + 2))
    (cond (c == 6) (Ok (Exchange, at + 1))
    (cond (c == 7) (Ok (Share, at + 1))
    (cond (c == 8) (Ok (If, at + 1))
    (cond (c == 9) (Ok (Call n, at + 2))
    (cond (c == 10) (Ok (Sensor n, at + 2))
    (cond (c == 11) (Ok (Link, at + 1))
    (cond (c == 12) (Ok (Own, at + 1))
    (cond (c == 13) (Ok (Choose, at + 1))
    (refuse cause.UnknownCode at)))))))))))))

-- the expression without its parts at the front of what is left of a part; that stands at a position of the block
abbrev pub decoded : ℕ → List ℕ → ℕ → Outcome (Expression × ℕ)
decoded w rest at =
    cond (nat_lt 0 (length rest))
    (cond (nat_le (1 + number_bytes w (slice_index rest 0)) (length rest))
    (coded w (slice_index rest 0) (slice_index rest 1) at)
    (refuse cause.ExpressionCut at))
    (refuse cause.ExpressionCut at)

-- the kind reads a literal's bytes: `refuses` tells which bytes are no value
abbrev pub readable : (List ℕ → Bool) → ℕ → List ℕ → Expression → Bool
readable refuses w part (Literal at) = not (refuses (take w (drop at part)))
readable refuses w part (Variable n) = true
readable refuses w part Let = true
readable refuses w part (Operator n) = true
readable refuses w part (Fold n) = true
readable refuses w part Exchange = true
readable refuses w part Share = true
readable refuses w part If = true
readable refuses w part (Call n) = true
readable refuses w part (Sensor n) = true
readable refuses w part Link = true
readable refuses w part Own = true
readable refuses w part Choose = true

-- a number names one of the variables in sight, of the kind's operators, of the sensors, or of the functions before
abbrev pub available : KindShape → ℕ → ℕ → ℕ → Expression → Bool
available k sensors functions scope (Literal at) = true
available k sensors functions scope (Variable n) = nat_lt n scope
available k sensors functions scope Let = true
available k sensors functions scope (Operator n) = nat_lt n k.operators
available k sensors functions scope (Fold n) = nat_lt n k.operators
available k sensors functions scope Exchange = true
available k sensors functions scope Share = true
available k sensors functions scope If = true
available k sensors functions scope (Call n) = nat_lt n functions
available k sensors functions scope (Sensor n) = nat_lt n sensors
available k sensors functions scope Link = true
available k sensors functions scope Own = true
available k sensors functions scope Choose = true

-- THE PARTS
-- how many parts follow; `p` is the number of parameters of a called function
abbrev pub part_count : ℕ → Expression → ℕ
part_count p (Literal at) = 0
part_count p (Variable n) = 0
part_count p Let = 2
part_count p (Operator n) = 2
part_count p (Fold n) = 2
part_count p Exchange = 3
part_count p Share = 2
part_count p If = 3
part_count p (Call n) = p
part_count p (Sensor n) = 0
part_count p Link = 0
part_count p Own = 1
part_count p Choose = 3

-- how many new variables the parts behind the first see
abbrev pub binds : Expression → ℕ
binds (Literal at) = 0
binds (Variable n) = 0
binds Let = 1
binds (Operator n) = 0
binds (Fold n) = 0
binds Exchange = 1
binds Share = 1
binds If = 0
binds (Call n) = 0
binds (Sensor n) = 0
binds Link = 0
binds Own = 0
binds Choose = 0

-- the number of the function that is called
abbrev pub callee : Expression → ℕ
callee (Literal at) = 0
callee (Variable n) = 0
callee Let = 0
callee (Operator n) = 0
callee (Fold n) = 0
callee Exchange = 0
callee Share = 0
callee If = 0
callee (Call n) = n
callee (Sensor n) = 0
callee Link = 0
callee Own = 0
callee Choose = 0

abbrev pub no_function : Unfolded
no_function = record { parameters = 0; start = 0; end = 0; body = link }

abbrev pub called_function : List Unfolded → Expression → Unfolded
called_function fs e = slice_index_or fs (callee e) no_function

-- n parts in a row
abbrev pub Parts : ℕ → Type 0
Parts zero = Unit {0}
Parts (suc n) = Expr × Parts n

abbrev pub arguments : (n : ℕ) → Parts n → Exprs
arguments zero ps = none
arguments (suc n) ps = then ps.0 (arguments n ps.1)

-- THE UNFOLDED EXPRESSION of its parts; `f` is the function that a call names
abbrev pub built : ℕ → List ℕ → (f : Unfolded) (e : Expression) → Parts (part_count f.parameters e) → Expr
built w part f (Literal at) ps = literal (take w (drop at part))
built w part f (Variable n) ps = variable n
built w part f Let ps = bind ps.0 ps.1.0
built w part f (Operator n) ps = operator n ps.0 ps.1.0
built w part f (Fold n) ps = fold n ps.0 ps.1.0
built w part f Exchange ps = exchange ps.0 ps.1.0 ps.1.1.0
built w part f Share ps = share ps.0 ps.1.0
built w part f If ps = branch ps.0 ps.1.0 ps.1.1.0
built w part f (Call n) ps = call (arguments f.parameters ps) f.body
built w part f (Sensor n) ps = sensor n
built w part f Link ps = link
built w part f Own ps = own ps.0
built w part f Choose ps = choose ps.0 ps.1.0 ps.1.1.0

-- READING
-- n parts from a position on, and where they end: the first sees `first` variables, the others `others`
abbrev pub parts : (ℕ → ℕ → Outcome (Expr × ℕ)) → (n : ℕ) → ℕ → ℕ → ℕ → Outcome (Parts n × ℕ)
parts read zero at first others = Ok (tt, at)
parts read (suc n) at first others =
    after (read at first) (λ a.
    after (parts read n a.1 others others) (λ ps.
    Ok ((a.0, ps.0), ps.1)))

-- `part` is the block up to the part's end, `fs` are the functions before this one
module _ (refuses : List ℕ → Bool) (k : KindShape) (sensors : ℕ) (fs : List Unfolded) (part : List ℕ) where
  -- the expression at a position, in sight of `scope` variables, and where it ends; `read` reads its parts
  abbrev pub expr_by : (ℕ → ℕ → Outcome (Expr × ℕ)) → ℕ → ℕ → Outcome (Expr × ℕ)
  expr_by read at scope =
      after (decoded k.width (drop at part) at) (λ d.
      after (must (readable refuses k.width part d.0) cause.LiteralRefused (at + 1)) (λ _.
      after (must (available k sensors (length fs) scope d.0) cause.NotAvailable (at + 1)) (λ _.
      after (parts read (part_count (called_function fs d.0).parameters d.0) d.1 scope (scope + binds d.0)) (λ ps.
      Ok (built k.width part (called_function fs d.0) d.0 ps.0, ps.1)))))

  -- the first number bounds the recursion: each expression has a byte, so as many as bytes are left is enough
  abbrev pub expr : ℕ → ℕ → ℕ → Outcome (Expr × ℕ)
  expr zero = λ at scope. refuse cause.ExpressionCut at
  expr (suc fuel) = expr_by (expr fuel)
