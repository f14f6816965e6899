use Rattle.std.proofs.Common.{◌+◌, ◌≤◌, length, take, arith}
use Rattle.std.proofs.lemmas.List.{length-take}
use Rattle.program.proofs.Steps.{marked_part}
use Rattle.program.proofs.source.Source.size_body.Goals as goal

pub returns-clause-is : goal.returns-clause-is
returns-clause-is c refuses fs marked tab =
    let b = c.args.self.bytes.now in
    let enough : length (take c.args.end b) ≤ length b + c.args.at = omega (arith, length-take c.args.end b) in
    c.size_expression.ensures.is refuses fs (length b) (marked_part refuses c.args.self.shape.width b c.args.self.refused.now _ marked) tab enough
