use Rattle.std.proofs.Common.{ℕ, Bool, List}
use Rattle.program.specs.Sizing.{Marked}
use Rattle.program.proofs.Tables.{Safe, Sofar}
use Rattle.program.proofs.block.check_functions.Given as goal

abbrev pub invariant-loop-i : goal.invariant-loop-i
invariant-loop-i l = record {
  safe : Safe l.bytes l.at l.table;
  sofar : (refuses : List ℕ → Bool) → Marked refuses l.shape.width l.bytes l.refused → Sofar refuses l.shape l.header.sensors l.bytes l.count l.i l.at l.table;
}
