use Rattle.std.proofs.Common.{◌≡◌, drop}
use Rattle.script.specs.Script.{decimal_value}
use Rattle.script.proofs.decimal.decimal.Given as goal

abbrev pub invariant-loop-b : goal.invariant-loop-b
invariant-loop-b l = decimal_value l.n (drop l.b-index l.word) ≡ decimal_value 0 l.word
