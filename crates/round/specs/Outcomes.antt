-- What a round that is not refused leaves. Assumes nothing.
use Rattle.std.specs.Prelude.{◌≡◌, ℕ, ◌≤◌, List, ◌++◌, length, drop, Ok, slice_index_or}
use Rattle.kind.specs.Kind.{Meaning}
use Rattle.program.specs.declared.program.Program.{Program}
use Rattle.program.specs.Programs.{shown, run_of}
use Rattle.record.specs.Headers.{most_bytes}
use Rattle.record.specs.Writing.{written_tree}
use Rattle.inbox.specs.Contents.{Item}
use Rattle.rules.specs.Rules.{Given, result, tree}
use Rattle.rules.specs.Laws.{Orderly}
use Rattle.rules.specs.Working.{readings_in, outcome_of}
use Rattle.hearing.specs.declared.inputs.Inputs.{Inputs}
use Rattle.cursor.specs.Cursors.{Readable}
use Rattle.held.specs.declared.slots.Slots.{Slots}
use Rattle.held.specs.Slots.{Loaded}
use Rattle.hearing.specs.Hearing.{Gives, reading_at}

-- the result v and a tree of n bytes at the front of an output, whose rest is as it was
pub record GivenOut {V : Type 0} (v : V) (n : ℕ) (old new : List ℕ) (outcome : V × List ℕ) : Type 0 where
  pub value : v ≡ outcome.0
  pub length_is : n ≡ length outcome.1
  pub output : new ≡ outcome.1 ++ drop (length outcome.1) old

-- those of the rules, where the inputs are those of g
pub record GivesOut {V : Type 0} (k : Meaning V) (x : Inputs) (v : V) (n : ℕ) (old new : List ℕ) : Type 0 where
  pub fits : n ≤ most_bytes
  pub means : (g : Given V) → Gives k x g → GivenOut v n old new (result k g (run_of x.program.now), written_tree k (shown x.program.now).header.number (tree k g (run_of x.program.now)))

-- the same by the parts of the inputs: the items loaded, the last own tree as far as it counts, and the readings
pub record Supplies {V : Type 0} (k : Meaning V) (p : Program) (me : ℕ) (slots : Slots) (bytes own readings : List ℕ) (g : Given V) : Type 0 where
  pub number : g.number ≡ me
  pub readings_are : (n : ℕ) → reading_at k readings n ≡ slice_index_or g.readings n k.own
  pub held : Loaded k p me bytes slots g.held
  pub last : Readable k own g.last
  pub orderly : Orderly g

pub record GivesParts {V : Type 0} (k : Meaning V) (p : Program) (me : ℕ) (slots : Slots) (bytes own readings : List ℕ) (v : V) (n : ℕ) (old new : List ℕ) : Type 0 where
  pub fits : n ≤ most_bytes
  pub means : (g : Given V) → Supplies k p me slots bytes own readings g → GivenOut v n old new (result k g (run_of p), written_tree k (shown p).header.number (tree k g (run_of p)))

-- those of the rules, where the readings are the values vs
pub record GivesRound {V : Type 0} (k : Meaning V) (p : Program) (me : ℕ) (items : List Item) (last readings : List ℕ) (v : V) (n : ℕ) (old new : List ℕ) : Type 0 where
  pub fits : n ≤ most_bytes
  pub means : (vs : List V) → readings_in k (shown p).header.sensors readings ≡ Ok vs → GivenOut v n old new (outcome_of k p me items last vs)
