-- The worked line, by computation: what its two calls answer depends on the program only through what it stands for.
use Rattle.std.proofs.Common.{◌≡◌, ℕ, ◌&&◌, leb, List, [], ◌∷◌, ◌++◌, map, Ok, sym, ap, ◌∙◌}
use Rattle.refusal.specs.declared.cause.Cause.TheVariants as cause
use Rattle.refusal.specs.Outcomes.{Outcome, after, must}
use Rattle.kind.specs.declared.number.Number.{Number}
use Rattle.kind.specs.Numbers.{numbers}
use Rattle.program.specs.declared.program.Program.{Program}
use Rattle.program.specs.Verdict.{Checked, run, suits, shape_of, verdict}
use Rattle.program.specs.Programs.{checked_or, shown}
use Rattle.record.specs.Headers.{most_bytes}
use Rattle.record.specs.Messages.{message}
use Rattle.record.specs.Plans.{due}
use Rattle.record.specs.Writing.{written_tree}
use Rattle.inbox.specs.Contents.{Item, empty_contents}
use Rattle.inbox.specs.Calls.{put_answer}
use Rattle.rules.specs.Cases.{distance}
use Rattle.rules.specs.Held.{held_in}
use Rattle.rules.specs.Rules.{Given, work, record_of, result, tree}
use Rattle.rules.specs.Working.{readings_in, last_in, working_values, working_bytes}
use Rattle.trace.specs.States.{State, made}
use Rattle.trace.specs.Calls.{round_on, allowed_link, deliver_answer, round_answer, put_so}
use Rattle.trace.specs.Lines.{rounds_in, delivered_so, worked_so, history}
use Rattle.trace.specs.Cases.{bytes_given, WorkedLine}

abbrev away : List ℕ
away = 0 ∷ 0 ∷ 0 ∷ 4 ∷ []

abbrev heard : List ℕ
heard = 1 ∷ 0 ∷ 15 ∷ 0 ∷ 0 ∷ 0 ∷ 7 ∷ 0 ∷ 3 ∷ 0 ∷ 7 ∷ 0 ∷ 0 ∷ 0 ∷ 0 ∷ 0 ∷ 0 ∷ 0 ∷ []

abbrev reading : List ℕ
reading = 0 ∷ 0 ∷ 0 ∷ 0 ∷ []

-- the delivery and the round, of any checked program
abbrev delivery_of : Checked → Outcome ℕ
delivery_of c =
    after (after (must (suits numbers c) cause.OtherKind 7) (λ _.
    after (allowed_link (numbers.read away)) (λ _.
    message numbers (due (run c) 0) c.header.number 5 heard))) (λ t.
    after (put_answer (empty_contents 1 2064 1) t.sender (away ++ heard)) (λ _.
    Ok t.sender))

abbrev item : Item
item = record { sender = 3; age = 0; bytes = away ++ heard }

abbrev given_to : Checked → List Number → Given Number
given_to c vs = record {
  number = 5;
  readings = vs;
  held = held_in numbers (due (run c) 0) c.header.number 5 (item ∷ []);
  last = last_in numbers (due (run c) 0) c.header.number 5 [];
}

abbrev round_of : Checked → Outcome (Number × List ℕ)
round_of c =
    after (must (suits numbers c) cause.OtherKind 7) (λ _.
    after (readings_in numbers c.header.sensors reading) (λ vs.
    after (must (leb working_values 5184 && leb working_bytes 36864) cause.MemoryShort 0) (λ _.
    after (must (leb most_bytes 2048) cause.OutputShort 0) (λ _.
    Ok (result numbers (given_to c vs) (run c), written_tree numbers c.header.number (tree numbers (given_to c vs) (run c)))))))

-- the program of distances
abbrev distances_checked : Checked
distances_checked = checked_or (record { block = []; shape = shape_of numbers; header = record { number = 0; sensors = 0; functions = 0 }; functions = [] }) (verdict numbers distance)

module _ (p : Program) (e : verdict numbers distance ≡ Ok (shown p)) where
  same_program : shown p ≡ distances_checked
  same_program = sym (ap (checked_or (record { block = []; shape = shape_of numbers; header = record { number = 0; sensors = 0; functions = 0 }; functions = [] })) e)

  abbrev fresh : State
  fresh = made p 5 (empty_contents 1 2064 1)

  abbrev hearing : State
  hearing = put_so (Ok 3) fresh (away ++ heard)

  is_delivered : deliver_answer numbers fresh away heard ≡ Ok 3
  is_delivered = ap delivery_of same_program

  is_worked : round_answer numbers hearing reading 5184 36864 2048 ≡ round_of distances_checked
  is_worked = ap round_of same_program

  abbrev after_delivery : Outcome ℕ → List (List ℕ × List ℕ)
  after_delivery a = map bytes_given (rounds_in (delivered_so numbers a away heard ++ history numbers (put_so a fresh (away ++ heard)) (round_on reading 5184 36864 2048 ∷ [])))

  abbrev after_work : Outcome (Number × List ℕ) → List (List ℕ × List ℕ)
  after_work r = map bytes_given (rounds_in (worked_so numbers r hearing reading ++ []))

  gives : after_delivery (deliver_answer numbers fresh away heard) ≡ (away, 1 ∷ 0 ∷ 15 ∷ 0 ∷ 0 ∷ 0 ∷ 7 ∷ 0 ∷ 5 ∷ 0 ∷ 7 ∷ 0 ∷ 0 ∷ 0 ∷ 0 ∷ 0 ∷ 4 ∷ 0 ∷ []) ∷ []
  unfolding work record_of
  gives = ap after_delivery is_delivered ∙ ap after_work is_worked

pub worked_line : (V : Type 0) → WorkedLine V
worked_line V = record { distances = gives }
