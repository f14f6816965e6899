-- Bytes that are put behind others. Assumes nothing.
use Rattle.std.specs.Prelude.{◌≡◌, ℕ, ◌+◌, List, ◌++◌, length, take, drop}
use Rattle.record.specs.declared.output.Output.{Output}

-- an output of which `used` bytes are written becomes a later one, with `more` behind them and all others as they were
pub record Grown (old : List ℕ) (used : ℕ) (new : List ℕ) (top : ℕ) (more : List ℕ) : Type 0 where
  pub room : length new ≡ length old
  pub top_is : top ≡ used + length more
  pub front : take top new ≡ take used old ++ more
  pub tail : drop top new ≡ drop top old

-- output o has become n: `more` stands behind what was written. The bytes are still those that were lent
pub record Puts (o n : Output) (more : List ℕ) : Type 0 where
  pub lender : n.bytes.ghost_name ≡ o.bytes.ghost_name
  pub grown : Grown o.bytes.now o.len n.bytes.now n.len more
