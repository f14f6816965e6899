use Rattle.std.proofs.Common.{arith}
use Rattle.program.specs.Programs.{run_of}
use Rattle.program.proofs.Shown.{run_within, places_few}
use Rattle.unfolding.proofs.Programs.{body_start}
use Rattle.unfolding.proofs.Bodies.{run_unfolds}
use Rattle.unfolding.proofs.run.run_start.Goals as goal

pub returns : goal.returns
returns c =
    let p = c.args.program.now in
    record {
      is = run_unfolds p c.functions-last.result c.function.result c.functions-last.ensures.is c.function.ensures c.depth.result c.depth.ensures.is;
      near = body_start p _ c.function.result c.function.ensures;
      deep = c.depth.ensures.is;
      shallow = c.depth.ensures.limit;
      few = omega (arith, places_few (run_of p), (run_within p).size);
    }
