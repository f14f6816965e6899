-- Sizing by the bytes alone: what the code adds up and keeps in the place of unfolded expressions. Assumes nothing.
use Rattle.std.specs.Prelude.{◌≡◌, ℕ, zero, suc, ◌+◌, ◌-◌, ◌≤◌, max, Bool, false, List, ◌++◌, map, length, take, drop, replicate, slice_index_or}
use Rattle.refusal.specs.Outcomes.{Outcome, mapped}
use Rattle.program.specs.declared.sizes.Sizes.{Sizes}
use Rattle.program.specs.declared.sizes.Sums.{Sums}
use Rattle.program.specs.declared.function.Function.{Function}
use Rattle.program.specs.declared.outline.Outline.{Outline}
use Rattle.program.specs.declared.expression.Expression.{Expression}
use Rattle.program.specs.declared.expression.Expression.TheVariants.{Literal, Variable, Let, Operator, Fold, Exchange, Share, If, Call, Sensor, Link, Own, Choose}
use Rattle.program.specs.Expressions.{Expr, Unfolded}
use Rattle.program.specs.Measures.{sizes_of, record_weight}
use Rattle.program.specs.Reading.{Parts, parts}
use Rattle.program.specs.Verdict.{Checked}

-- the sizes of nothing, and of two expressions together: the depth is that of the deeper
abbrev pub no_sizes : Sizes
no_sizes = record { size = 0; depth = 0; weight = 0; places = 0 }

abbrev pub together : Sizes → Sizes → Sizes
together a b = record { size = a.size + b.size; depth = max a.depth b.depth; weight = a.weight + b.weight; places = a.places + b.places }

-- the sums of no part, and of one part more in front
abbrev pub no_sums : Sums
no_sums = record { all = no_sizes; first = 0; others = 0 }

abbrev pub with_part : Sizes → Sums → Sums
with_part a s = record { all = together a s.all; first = a.weight; others = max s.first s.others }

-- the sizes of an expression that is no place, of an exchange or share, and of an if, from the sums of its parts
abbrev pub plain : Sums → Sizes
plain s = record { size = s.all.size + 1; depth = s.all.depth + 1; weight = s.all.weight; places = s.all.places }

abbrev pub sending : ℕ → Sums → Sizes
sending w s = record { size = s.all.size + 1; depth = s.all.depth + 1; weight = s.all.weight + record_weight w; places = s.all.places + 1 }

abbrev pub choosing : Sums → Sizes
choosing s = record { size = s.all.size + 1; depth = s.all.depth + 1; weight = 5 + s.first + s.others; places = s.all.places + 1 }

-- the sizes of an expression from those of a called body and its parts
abbrev pub combined : ℕ → Expression → Sizes → Sums → Sizes
combined w (Literal at) b s = plain s
combined w (Variable n) b s = plain s
combined w Let b s = plain s
combined w (Operator n) b s = plain s
combined w (Fold n) b s = plain s
combined w Exchange b s = sending w s
combined w Share b s = sending w s
combined w If b s = choosing s
combined w (Call n) b s = plain (with_part b s)
combined w (Sensor n) b s = plain s
combined w Link b s = plain s
combined w Own b s = plain s
combined w Choose b s = plain s

abbrev pub totals : ℕ → (n : ℕ) → Parts n → Sums
totals w zero ps = no_sums
totals w (suc n) ps = with_part (sizes_of w ps.0) (totals w n ps.1)

-- what is kept of an expression or of parts that were read: sizes, and where they end
abbrev pub sized : ℕ → Outcome (Expr × ℕ) → Outcome (Sizes × ℕ)
sized w = mapped (λ e. (sizes_of w e.0, e.1))

abbrev pub summed : ℕ → (n : ℕ) → Outcome (Parts n × ℕ) → Outcome (Sums × ℕ)
summed w n = mapped (λ ps. (totals w n ps.0, ps.1))

abbrev pub part_sums : ℕ → (ℕ → ℕ → Outcome (Expr × ℕ)) → ℕ → ℕ → ℕ → ℕ → Outcome (Sums × ℕ)
part_sums w read n at first others = summed w n (parts read n at first others)

-- what is kept of a function: a row of the table
abbrev pub row : ℕ → Unfolded → Function
row w f = record { parameters = f.parameters; start = f.start; end = f.end; sizes = sizes_of w f.body }

abbrev pub no_row : Function
no_row = record { parameters = 0; start = 0; end = 0; sizes = no_sizes }

-- the rows of some functions, and free rows behind them
abbrev pub table_of : ℕ → List Unfolded → List Function
table_of w fs = map (row w) fs ++ replicate (32 - length fs) no_row

abbrev pub rowed : ℕ → Outcome Unfolded → Outcome Function
rowed w = mapped (row w)

abbrev pub tabled : ℕ → Outcome (List Unfolded) → Outcome (List Function)
tabled w = mapped (table_of w)

abbrev pub outline_of : ℕ → Checked → Outline
outline_of w c = record { header = c.header; functions = table_of w c.functions }

abbrev pub outlined : ℕ → Outcome Checked → Outcome Outline
outlined w = mapped (outline_of w)

-- by offset: which literals are refused
abbrev pub flagged : List Bool → Expression → Bool
flagged flags (Literal at) = slice_index_or flags at false
flagged flags (Variable n) = false
flagged flags Let = false
flagged flags (Operator n) = false
flagged flags (Fold n) = false
flagged flags Exchange = false
flagged flags Share = false
flagged flags If = false
flagged flags (Call n) = false
flagged flags (Sensor n) = false
flagged flags Link = false
flagged flags Own = false
flagged flags Choose = false

abbrev pub Marked : (List ℕ → Bool) → ℕ → List ℕ → List Bool → Type 0
Marked refuses w b flags = (i : ℕ) → i + w ≤ length b → slice_index_or flags i false ≡ refuses (take w (drop i b))
