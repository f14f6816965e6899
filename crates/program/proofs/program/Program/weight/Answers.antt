use Rattle.std.proofs.Common.{ap, arith}
use Rattle.program.specs.declared.sizes.Sizes.{Sizes}
use Rattle.program.proofs.Shown.{run_within}
use Rattle.program.proofs.program.Program.weight.Goals as goal

pub returns-clause-limit : goal.returns-clause-limit
returns-clause-limit c = omega (arith, ap (λ (s : Sizes). s.weight) c.run_sizes.ensures, (run_within c.args.self.now).weight)
