use Rattle.program.proofs.Shown.{run_row}
use Rattle.program.specs.Sizing.{no_row}
use Rattle.program.proofs.program.Program.run_sizes.Goals as goal

pub returns : goal.returns
returns c = run_row c.args.self.now c.functions.result no_row c.functions.ensures.is
