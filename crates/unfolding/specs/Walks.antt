-- Walks over a checked program in hand. Assumes nothing.
use Rattle.std.specs.Prelude.{ℕ, List}
use Rattle.program.specs.declared.program.Program.{Program}
use Rattle.program.specs.declared.function.Function.{Function}
use Rattle.program.specs.Expressions.{Expr}
use Rattle.program.specs.Sizing.{table_of}
use Rattle.program.specs.Programs.{shown}
use Rattle.unfolding.specs.Unfolding.{unfolded}

-- the rows of its functions
abbrev pub rows : Program → List Function
rows p = table_of (shown p).shape.width (shown p).functions

-- the expression at a position of its block, and where it ends, down to a depth
abbrev pub unfolded_in : Program → ℕ → ℕ → Expr × ℕ
unfolded_in p d at = unfolded (shown p).shape.width (shown p).block (rows p) d at
