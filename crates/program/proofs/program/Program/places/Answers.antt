use Rattle.std.proofs.Common.{ap, ◌∙◌, arith}
use Rattle.program.specs.declared.sizes.Sizes.{Sizes}
use Rattle.program.specs.Programs.{run_of}
use Rattle.program.proofs.Shown.{run_within, places_listed, places_few}
use Rattle.program.proofs.program.Program.places.Goals as goal

pub returns-clause-listed : goal.returns-clause-listed
returns-clause-listed c = ap (λ (s : Sizes). s.places) c.run_sizes.ensures ∙ places_listed (run_of c.args.self.now)

pub returns-clause-limit : goal.returns-clause-limit
returns-clause-limit c =
    let p = c.args.self.now in
    omega (arith, ap (λ (s : Sizes). s.places) c.run_sizes.ensures, places_few (run_of p), (run_within p).size)
