-- Which records are due: the plan of an unfolded expression. Assumes nothing.
use Rattle.std.specs.Prelude.{ℕ, ◌+◌}
use Rattle.program.specs.Expressions.{Expr, Exprs, literal, variable, bind, operator, fold, exchange, share, branch, call, sensor, link, own, choose, none, then}
use Rattle.program.specs.Measures.{places, places_all}

-- no record; what is sent at a place; an if's choice at a place, and then the plan of the branch that it chose; one plan and then another
infixl 60 ◌⨾◌
pub data Plan : Type 0 where
  nothing : Plan
  sent_at : ℕ → Plan
  choice_at : ℕ → Plan → Plan → Plan
  ◌⨾◌ : Plan → Plan → Plan

-- the records due for an expression whose first place is p
abbrev mutual
  pub due : Expr → ℕ → Plan
  due (literal v) p = nothing
  due (variable n) p = nothing
  due (bind a b) p = due a p ⨾ due b (p + places a)
  due (operator n a b) p = due a p ⨾ due b (p + places a)
  due (fold n a b) p = due a p ⨾ due b (p + places a)
  due (exchange a b c) p = due a p ⨾ due b (p + places a) ⨾ due c (p + places a + places b) ⨾ sent_at (p + places a + places b + places c)
  due (share a b) p = due a p ⨾ due b (p + places a) ⨾ sent_at (p + places a + places b)
  due (branch a b c) p = due a p ⨾ choice_at (p + places a) (due b (p + places a + 1)) (due c (p + places a + 1 + places b))
  due (call es b) p = due_all es p ⨾ due b (p + places_all es)
  due (sensor n) p = nothing
  due link p = nothing
  due (own a) p = due a p
  due (choose a b c) p = due a p ⨾ due b (p + places a) ⨾ due c (p + places a + places b)

  pub due_all : Exprs → ℕ → Plan
  due_all none p = nothing
  due_all (then e es) p = due e p ⨾ due_all es (p + places e)
