use Rattle.std.proofs.Common.{arith}
use Rattle.record.proofs.Rows.{behind_is}
use Rattle.record.proofs.record.framed.Goals as goal

pub returns-else-entries-count-clause-formed : goal.returns-else-entries-count-clause-formed
returns-else-entries-count-clause-formed c =
    let a = c.in_ok-place.ensures.cases in
    let b = c.in_ok-default-in-Exchange.ensures.cases in
    let d = c.in_ok-count-in-Exchange.ensures.cases in
    let e = behind_is c.args.width c.in_ok-count-in-Exchange.field-0-0.now 0 in
    (omega arith, omega arith, omega arith, omega arith)
