-- A worked line, from bytes to bytes. Assumes nothing.
use Rattle.std.specs.Prelude.{◌≡◌, ℕ, List, [], ◌∷◌, map, Ok}
use Rattle.kind.specs.Numbers.{numbers}
use Rattle.kind.specs.declared.number.Number.{Number}
use Rattle.program.specs.declared.program.Program.{Program}
use Rattle.program.specs.Programs.{shown}
use Rattle.program.specs.Verdict.{verdict}
use Rattle.inbox.specs.Contents.{empty_contents}
use Rattle.rules.specs.Cases.{distance}
use Rattle.trace.specs.Calls.{Call, delivery, round_on}
use Rattle.trace.specs.Lines.{Round, rounds}

-- sender 3, 4 away, delivers that it is a source; then a round, whose reading says that this node is none
abbrev pub heard_then_worked : List Call
heard_then_worked =
    delivery (0 ∷ 0 ∷ 0 ∷ 4 ∷ []) (1 ∷ 0 ∷ 15 ∷ 0 ∷ 0 ∷ 0 ∷ 7 ∷ 0 ∷ 3 ∷ 0 ∷ 7 ∷ 0 ∷ 0 ∷ 0 ∷ 0 ∷ 0 ∷ 0 ∷ 0 ∷ []) ∷
    round_on (0 ∷ 0 ∷ 0 ∷ 0 ∷ []) 5184 36864 2048 ∷ []

-- result and tree, as bytes
abbrev pub bytes_given : Round Number → List ℕ × List ℕ
bytes_given r = (numbers.written r.result, r.tree)

-- V are the values of any kind; the line is of numbers. A fresh node 5 with the program of distances, over an inbox for
-- one sender
pub record WorkedLine (V : Type 0) : Type 0 where
  pub distances :
      (p : Program) → verdict numbers distance ≡ Ok (shown p)
      → map bytes_given (rounds numbers (record { program = p; number = 5; inbox = empty_contents 1 2064 1; calls = heard_then_worked }))
      ≡ (0 ∷ 0 ∷ 0 ∷ 4 ∷ [], 1 ∷ 0 ∷ 15 ∷ 0 ∷ 0 ∷ 0 ∷ 7 ∷ 0 ∷ 5 ∷ 0 ∷ 7 ∷ 0 ∷ 0 ∷ 0 ∷ 0 ∷ 0 ∷ 4 ∷ 0 ∷ []) ∷ []
