use Rattle.std.proofs.Common.{ap, arith}
use Rattle.program.specs.declared.sizes.Sizes.{Sizes}
use Rattle.program.proofs.Shown.{run_within}
use Rattle.program.proofs.program.Program.depth.Goals as goal

pub returns-clause-limit : goal.returns-clause-limit
returns-clause-limit c = omega (arith, ap (λ (s : Sizes). s.depth) c.run_sizes.ensures, (run_within c.args.self.now).depth)
