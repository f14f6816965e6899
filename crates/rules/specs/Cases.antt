-- Worked cases of the rules, from bytes to bytes. Assumes nothing.
use Rattle.std.specs.Prelude.{◌≡◌, ℕ, zero, suc, ◌+◌, Bool, true, false, List, [], ◌∷◌, ◌++◌, map, replicate, pos, Some, None, Ok, Option}
use Rattle.std.specs.Option.{unwrap_or}
use Rattle.refusal.specs.Outcomes.{Outcome, after}
use Rattle.kind.specs.Kind.{Meaning}
use Rattle.kind.specs.Numbers.{numbers, nearest}
use Rattle.kind.specs.declared.label_set.LabelSet.{LabelSet}
use Rattle.kind.specs.LabelSets.{label_sets, has}
use Rattle.program.specs.Expressions.{Expr, fold}
use Rattle.program.specs.Measures.{places}
use Rattle.program.specs.Verdict.{verdict, run}
use Rattle.record.specs.Plans.{due}
use Rattle.record.specs.Trees.{sent, place_of, reads, record_says}
use Rattle.record.specs.Writing.{written_tree}
use Rattle.inbox.specs.Contents.{Item}
use Rattle.rules.specs.Rules.{Field, Given, mine, work, round, result, tree}
use Rattle.rules.specs.Held.{held_in}

-- the operator n on two written values, written
abbrev pub both_read : {V : Type 0} → Meaning V → ℕ → Option V → Option V → Option (List ℕ)
both_read k n (Some a) (Some b) = Some (k.written (k.apply n a b))
both_read k n (Some a) None = None
both_read k n None b = None

abbrev pub answered : {V : Type 0} → Meaning V → ℕ → List ℕ → List ℕ → Option (List ℕ)
answered k n a b = both_read k n (k.read a) (k.read b)

-- the labels below n, from the highest on, and whether each is in a set that was read
abbrev pub descending : ℕ → List ℕ
descending zero = []
descending (suc n) = n ∷ descending n

abbrev pub labels_of : ℕ → Option LabelSet → List Bool
labels_of n None = []
labels_of n (Some a) = map (has a) (descending n)

-- the value of a reading's bytes
abbrev pub value_in : {V : Type 0} → Meaning V → List ℕ → V
value_in k bs = unwrap_or (k.read bs) k.own

-- ONE ROUND, from bytes to bytes: of a node of this number without a last own tree, with the block of its program, what
-- its inbox holds, and its readings
module _ {V : Type 0} (k : Meaning V) (me : ℕ) (block : List ℕ) (items : List Item) (readings : List (List ℕ)) where
  abbrev pub given_for : Expr → ℕ → Given V
  given_for e program = record { number = me; readings = map (value_in k) readings; held = held_in k (due e 0) program me items; last = [] }

  -- the result, and the tree
  abbrev pub played : Outcome (List ℕ × List ℕ)
  played =
      after (verdict k block) (λ c.
      Ok (
        k.written (result k (given_for (run c) c.header.number) (run c)),
        written_tree k c.header.number (tree k (given_for (run c) c.header.number) (run c)),
      ))

  -- the places of the records
  abbrev pub visited : Outcome (List ℕ)
  visited = after (verdict k block) (λ c. Ok (map place_of (round k (given_for (run c) c.header.number) (run c)).records))

-- an item just delivered: a link, and behind it a message
abbrev pub delivered : ℕ → List ℕ → List ℕ → Item
delivered s link m = record { sender = s; age = 0; bytes = link ++ m }

-- distance to the nearest source: 0 where the reading is true, and elsewhere the least of what the senders say, each
-- with its link added
abbrev pub distance : List ℕ
distance = 1 ∷ 0 ∷ 36 ∷ 0 ∷ 0 ∷ 0 ∷ 7 ∷ 1 ∷ 1 ∷ 1 ∷ 0 ∷ 27 ∷ 0 ∷ 7 ∷ 1 ∷ 127 ∷ 255 ∷ 255 ∷ 255 ∷ 13 ∷ 10 ∷ 0 ∷ 1 ∷ 0 ∷ 0 ∷ 0 ∷ 0 ∷ 5 ∷ 2 ∷ 4 ∷ 0 ∷ 2 ∷ 0 ∷ 11 ∷ 1 ∷ 127 ∷ 255 ∷ 255 ∷ 255 ∷ []

-- function 0 is a share; the run adds two calls of it
abbrev pub shared_twice : List ℕ
shared_twice = 1 ∷ 0 ∷ 27 ∷ 0 ∷ 0 ∷ 0 ∷ 7 ∷ 1 ∷ 0 ∷ 2 ∷ 0 ∷ 9 ∷ 0 ∷ 7 ∷ 1 ∷ 0 ∷ 0 ∷ 0 ∷ 0 ∷ 2 ∷ 0 ∷ 0 ∷ 7 ∷ 0 ∷ 4 ∷ 0 ∷ 9 ∷ 0 ∷ 9 ∷ 0 ∷ []

-- if the reading is true, how many senders are aligned; else 0
abbrev pub counted_in_branch : List ℕ
counted_in_branch = 1 ∷ 0 ∷ 30 ∷ 0 ∷ 0 ∷ 0 ∷ 7 ∷ 1 ∷ 1 ∷ 1 ∷ 0 ∷ 21 ∷ 0 ∷ 8 ∷ 10 ∷ 0 ∷ 5 ∷ 0 ∷ 1 ∷ 0 ∷ 0 ∷ 0 ∷ 1 ∷ 1 ∷ 0 ∷ 0 ∷ 0 ∷ 0 ∷ 1 ∷ 0 ∷ 0 ∷ 0 ∷ 0 ∷ []

-- a round that holds the senders 3, in the first branch, and 4, in the second
abbrev pub two_branches : List Item
two_branches =
    delivered 3 (0 ∷ 0 ∷ 0 ∷ 1 ∷ []) (1 ∷ 0 ∷ 11 ∷ 0 ∷ 0 ∷ 0 ∷ 7 ∷ 0 ∷ 3 ∷ 0 ∷ 3 ∷ 0 ∷ 0 ∷ 1 ∷ []) ∷
    delivered 4 (0 ∷ 0 ∷ 0 ∷ 1 ∷ []) (1 ∷ 0 ∷ 11 ∷ 0 ∷ 0 ∷ 0 ∷ 7 ∷ 0 ∷ 4 ∷ 0 ∷ 3 ∷ 0 ∷ 0 ∷ 0 ∷ []) ∷ []

-- V are the values of any kind; the rest is of numbers and label sets
pub record WorkedCases (V : Type 0) : Type 0 where
  -- adding 4 to the largest number
  pub adds : answered numbers 0 (127 ∷ 255 ∷ 255 ∷ 255 ∷ []) (0 ∷ 0 ∷ 0 ∷ 4 ∷ []) ≡ Some (127 ∷ 255 ∷ 255 ∷ 255 ∷ [])
  -- −7 over 2 is −3, and 5 over 0 is 0
  pub halves : answered numbers 9 (255 ∷ 255 ∷ 255 ∷ 249 ∷ []) (0 ∷ 0 ∷ 0 ∷ 2 ∷ []) ≡ Some (255 ∷ 255 ∷ 255 ∷ 253 ∷ [])
  pub by_zero : answered numbers 9 (0 ∷ 0 ∷ 0 ∷ 5 ∷ []) (0 ∷ 0 ∷ 0 ∷ 0 ∷ []) ≡ Some (0 ∷ 0 ∷ 0 ∷ 0 ∷ [])
  -- sixty labels, and a bit above them
  pub all_labels : labels_of 60 (label_sets.read (15 ∷ 255 ∷ 255 ∷ 255 ∷ 255 ∷ 255 ∷ 255 ∷ 255 ∷ [])) ≡ replicate 60 true
  pub bit_above : label_sets.read (16 ∷ 0 ∷ 0 ∷ 0 ∷ 0 ∷ 0 ∷ 0 ∷ 0 ∷ []) ≡ None
  -- a fold without aligned senders gives its start
  pub start :
      (k : Meaning V) (g : Given V) (n : ℕ) (a b : Expr) (env : List (Field V)) (p : ℕ)
      → mine k g (work k g (fold n a b) env (λ _. false) p).value ≡ mine k g (work k g b env (λ _. false) (p + places a)).value
  -- the default 9 with the entry 2 for node 5
  pub entry : record_says 5 (sent 0 (nearest (pos 9)) (record { number = 5; value = nearest (pos 2) } ∷ [])) ≡ reads (nearest (pos 2))
  pub default : record_says 6 (sent 0 (nearest (pos 9)) (record { number = 5; value = nearest (pos 2) } ∷ [])) ≡ reads (nearest (pos 9))
  -- node 5 hears from node 3, 4 away, that it is a source
  pub distances :
      played numbers 5 distance (delivered 3 (0 ∷ 0 ∷ 0 ∷ 4 ∷ []) (1 ∷ 0 ∷ 15 ∷ 0 ∷ 0 ∷ 0 ∷ 7 ∷ 0 ∷ 3 ∷ 0 ∷ 7 ∷ 0 ∷ 0 ∷ 0 ∷ 0 ∷ 0 ∷ 0 ∷ 0 ∷ []) ∷ []) ((0 ∷ 0 ∷ 0 ∷ 0 ∷ []) ∷ [])
      ≡ Ok (0 ∷ 0 ∷ 0 ∷ 4 ∷ [], 1 ∷ 0 ∷ 15 ∷ 0 ∷ 0 ∷ 0 ∷ 7 ∷ 0 ∷ 5 ∷ 0 ∷ 7 ∷ 0 ∷ 0 ∷ 0 ∷ 0 ∷ 0 ∷ 4 ∷ 0 ∷ [])
  -- two calls of one function have places of their own
  pub two_calls : visited numbers 5 shared_twice [] [] ≡ Ok (0 ∷ 1 ∷ [])
  -- a sender with the other choice is not folded
  pub first_branch : played numbers 5 counted_in_branch two_branches ((0 ∷ 0 ∷ 0 ∷ 1 ∷ []) ∷ []) ≡ Ok (0 ∷ 0 ∷ 0 ∷ 1 ∷ [], 1 ∷ 0 ∷ 11 ∷ 0 ∷ 0 ∷ 0 ∷ 7 ∷ 0 ∷ 5 ∷ 0 ∷ 3 ∷ 0 ∷ 0 ∷ 1 ∷ [])
  pub second_branch : played numbers 5 counted_in_branch two_branches ((0 ∷ 0 ∷ 0 ∷ 0 ∷ []) ∷ []) ≡ Ok (0 ∷ 0 ∷ 0 ∷ 0 ∷ [], 1 ∷ 0 ∷ 11 ∷ 0 ∷ 0 ∷ 0 ∷ 7 ∷ 0 ∷ 5 ∷ 0 ∷ 3 ∷ 0 ∷ 0 ∷ 0 ∷ [])
