-- The record of an exchange or share, written from a row. Assumes nothing.
use Rattle.std.specs.Prelude.{◌≡◌, ℕ, ◌≤◌, List, ◌∷◌, map, length}
use Rattle.kind.specs.Kind.{Meaning}
use Rattle.program.specs.Measures.{record_weight}
use Rattle.record.specs.declared.output.Output.{Output}
use Rattle.record.specs.Growth.{Puts}
use Rattle.record.specs.Trees.{sent}
use Rattle.record.specs.Writing.{written_record}
use Rattle.rules.specs.Rules.{Field, at, elsewhere, with_own, entries}

-- a record at the place p was put on an output o, which has become n, from the row xs of the node `me` that holds the senders ns
pub record Put {V : Type 0} (k : Meaning V) (p me : ℕ) (ns : List ℕ) (xs : List V) (o n : Output) : Type 0 where
  pub bytes : List ℕ
  pub puts : Puts o n bytes
  pub light : length bytes ≤ record_weight k.width
  -- where the row is that of a field, the record is the field's: default elsewhere, entries where it is another
  pub means : (f : Field V) → xs ≡ f elsewhere ∷ f (at me) ∷ map (λ n. f (at n)) ns
      → bytes ≡ written_record k (sent p (f elsewhere) (entries k f (f elsewhere) (with_own me ns)))
