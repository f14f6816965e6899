use Rattle.std.proofs.Common.{arith}
use Rattle.steps.proofs.Stepping.{standing_later}
use Rattle.steps.proofs.part_ways.part_ways.Goals as goal

pub returns : goal.returns
returns g c = record {
  wrote = c.put_choice.ensures;
  long = c.narrow.ensures.long;
  aligned = λ given al low gives flags stands le. c.narrow.ensures.is given al c.args.place gives flags (c.advance.ensures given low gives stands le) (omega arith);
  stands = λ given low gives stands le. standing_later (c.advance.ensures given low gives stands le) (omega arith);
}
