-- How many expressions stand in a row. Assumes nothing.
use Rattle.std.specs.Prelude.{ℕ, suc}
use Rattle.program.specs.Expressions.{Exprs, none, then}

abbrev pub count_all : Exprs → ℕ
count_all none = 0
count_all (then e es) = suc (count_all es)
