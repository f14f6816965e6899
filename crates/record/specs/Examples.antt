-- A message and what it says, and for every refusal a message that draws it: 12 causes with their positions. Assumes nothing.
use Rattle.std.specs.Prelude.{◌≡◌, ℕ, true, List, [], ◌∷◌, ◌++◌, pos, Ok}
use Rattle.refusal.specs.Outcomes.{Outcome, refuse}
use Rattle.refusal.specs.declared.cause.Cause.{Cause}
use Rattle.refusal.specs.declared.cause.Cause.TheVariants as cause
use Rattle.kind.specs.declared.number.Number.{Number}
use Rattle.kind.specs.Numbers.{numbers, nearest}
use Rattle.program.specs.Expressions.{Expr, literal, variable, share, branch}
use Rattle.record.specs.Trees.{Tree, Rec, choice, sent}
use Rattle.record.specs.Plans.{due}
use Rattle.record.specs.Messages.{message}

abbrev zeros : List ℕ
zeros = 0 ∷ 0 ∷ 0 ∷ 0 ∷ []

-- a program of one share, and one of one if
abbrev sharing : Expr
sharing = share (literal zeros) (variable 0)

abbrev choosing : Expr
choosing = branch (literal zeros) (literal zeros) (literal zeros)

-- what the node `me` reads, where the program has the number 7
abbrev reads : Expr → ℕ → List ℕ → Outcome (Tree Number)
reads e me m = message numbers (due e 0) 7 me m

-- the header of a message of program 7 from node 3, with a count below 256
abbrev from_3 : ℕ → List ℕ
from_3 count = 1 ∷ 0 ∷ count ∷ 0 ∷ 0 ∷ 0 ∷ 7 ∷ 0 ∷ 3 ∷ []

abbrev Says : Expr → List ℕ → Rec Number → Type 0
Says e m r = reads e 1 m ≡ Ok (record { sender = 3; records = r ∷ [] })

abbrev Refused : Expr → List ℕ → Cause → ℕ → Type 0
Refused e m c p = reads e 1 m ≡ refuse c p

pub record Examples : Type 0 where
  -- 0 to every node; 0 to every node but 2, which gets 5; an if's first branch
  pub all : Says sharing (from_3 15 ++ (0 ∷ 7 ∷ 0 ∷ 0 ∷ 0 ∷ 0 ∷ 0 ∷ 0 ∷ 0 ∷ [])) (sent 0 (nearest (pos 0)) [])
  pub one : Says sharing (from_3 21 ++ (0 ∷ 13 ∷ 0 ∷ 0 ∷ 0 ∷ 0 ∷ 0 ∷ 0 ∷ 1 ∷ 0 ∷ 2 ∷ 0 ∷ 0 ∷ 0 ∷ 5 ∷ [])) (sent 0 (nearest (pos 0)) (record { number = 2; value = nearest (pos 5) } ∷ []))
  pub first : Says choosing (from_3 11 ++ (0 ∷ 3 ∷ 0 ∷ 0 ∷ 1 ∷ [])) (choice 0 true)
  -- 15 to 26
  pub empty : Refused sharing [] cause.MessageLength 0
  pub other_version : Refused sharing (2 ∷ 0 ∷ 6 ∷ 0 ∷ 0 ∷ 0 ∷ 7 ∷ 0 ∷ 3 ∷ []) cause.MessageVersion 0
  pub miscounted : Refused sharing (from_3 7) cause.MessageCount 1
  pub other_program : Refused sharing (1 ∷ 0 ∷ 6 ∷ 0 ∷ 0 ∷ 0 ∷ 8 ∷ 0 ∷ 3 ∷ []) cause.OtherProgram 3
  pub own_message : reads sharing 3 (from_3 6) ≡ refuse cause.OwnMessage 7
  pub no_record : Refused sharing (from_3 6) cause.MessageCut 9
  pub other_count : Refused sharing (from_3 15 ++ (0 ∷ 6 ∷ 0 ∷ 0 ∷ 0 ∷ 0 ∷ 0 ∷ 0 ∷ 0 ∷ [])) cause.RecordCount 9
  pub other_place : Refused sharing (from_3 15 ++ (0 ∷ 7 ∷ 0 ∷ 1 ∷ 0 ∷ 0 ∷ 0 ∷ 0 ∷ 0 ∷ [])) cause.PlaceNotDue 11
  pub no_choice : Refused choosing (from_3 11 ++ (0 ∷ 3 ∷ 0 ∷ 0 ∷ 2 ∷ [])) cause.ChoiceRefused 13
  pub no_value : Refused sharing (from_3 15 ++ (0 ∷ 7 ∷ 0 ∷ 0 ∷ 128 ∷ 0 ∷ 0 ∷ 0 ∷ 0 ∷ [])) cause.ValueRefused 13
  pub entry_of_default : Refused sharing (from_3 21 ++ (0 ∷ 13 ∷ 0 ∷ 0 ∷ 0 ∷ 0 ∷ 0 ∷ 0 ∷ 1 ∷ 0 ∷ 2 ∷ 0 ∷ 0 ∷ 0 ∷ 0 ∷ [])) cause.EntryRefused 20
  pub entry_again :
      Refused sharing (from_3 27 ++ (0 ∷ 19 ∷ 0 ∷ 0 ∷ 0 ∷ 0 ∷ 0 ∷ 0 ∷ 2 ∷ 0 ∷ 2 ∷ 0 ∷ 0 ∷ 0 ∷ 5 ∷ 0 ∷ 2 ∷ 0 ∷ 0 ∷ 0 ∷ 6 ∷ [])) cause.EntryRefused 24
  pub leftover : Refused sharing (from_3 16 ++ (0 ∷ 7 ∷ 0 ∷ 0 ∷ 0 ∷ 0 ∷ 0 ∷ 0 ∷ 0 ∷ 0 ∷ [])) cause.MessageLeftover 18
