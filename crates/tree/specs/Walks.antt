-- Walking a program and a message side by side. Assumes nothing.
use Rattle.std.specs.Prelude.{ℕ, zero, suc, ◌+◌, List, Ok}
use Rattle.kind.specs.Kind.{Meaning}
use Rattle.refusal.specs.Outcomes.{Outcome, after}
use Rattle.record.specs.Messages.{records}
use Rattle.record.specs.Plans.{due}
use Rattle.program.specs.Expressions.{Expr}
use Rattle.program.specs.Measures.{places}
use Rattle.unfolding.specs.Unfolding.{named}
use Rattle.record.specs.Records.{record_at}
use Rattle.record.specs.declared.record.Body.TheVariants as body
use Rattle.tree.specs.declared.walk.Stand as walk
use Rattle.program.specs.declared.function.Function.{Function}
use Rattle.program.specs.declared.expression.Expression.{Expression}
use Rattle.program.specs.declared.expression.Expression.TheVariants.{Literal, Variable, Let, Operator, Fold, Exchange, Share, If, Call, Sensor, Link, Own, Choose}

-- where a walk stands: behind an expression, at a place, at a position of the message
abbrev pub Stand : Type 0
Stand = ℕ × ℕ × ℕ

-- what the code's stand stands for
abbrev pub stand : walk.Stand → Stand
stand s = (s.at, s.place, s.position)

module _ {V : Type 0} (k : Meaning V) (m : List ℕ) where
  -- the records of an expression, its end given, are read from a place and a position on
  abbrev pub walked : Expr × ℕ → ℕ → ℕ → Outcome Stand
  walked e p at = after (records k m (due e.0 p) at) (λ x. Ok (e.1, p + places e.0, x.1))

  -- those of n expressions in a row
  abbrev pub walked_parts : (ℕ → Expr × ℕ) → ℕ → ℕ → ℕ → ℕ → Outcome Stand
  walked_parts read zero from p at = Ok (from, p, at)
  walked_parts read (suc n) from p at = after (walked (read from) p at) (λ x. walked_parts read n x.0 x.1 x.2)

  -- what comes behind the parts of an expression that is no if: its record, or the called body
  abbrev pub finished : List Function → (ℕ → Expr × ℕ) → Expression → ℕ → ℕ → ℕ → Outcome Stand
  finished table read (Literal from) end p at = Ok (end, p, at)
  finished table read (Variable n) end p at = Ok (end, p, at)
  finished table read Let end p at = Ok (end, p, at)
  finished table read (Operator n) end p at = Ok (end, p, at)
  finished table read (Fold n) end p at = Ok (end, p, at)
  finished table read Exchange end p at = after (record_at k body.Exchange p m at) (λ r. Ok (end, p + 1, r.1))
  finished table read Share end p at = after (record_at k body.Exchange p m at) (λ r. Ok (end, p + 1, r.1))
  finished table read If end p at = Ok (end, p, at)
  finished table read (Call n) end p at = after (walked (read (named table n).start) p at) (λ x. Ok (end, x.1, x.2))
  finished table read (Sensor n) end p at = Ok (end, p, at)
  finished table read Link end p at = Ok (end, p, at)
  finished table read Own end p at = Ok (end, p, at)
  finished table read Choose end p at = Ok (end, p, at)
