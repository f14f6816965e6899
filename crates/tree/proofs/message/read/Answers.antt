use Rattle.std.proofs.Common.{arith}
use Rattle.tree.proofs.RoundTrips.{round_trips}
use Rattle.tree.proofs.message.read.Goals as goal

pub returns-in_err-sender-clause-trips : goal.returns-in_err-sender-clause-trips
returns-in_err-sender-clause-trips g c = round_trips g.K.Kind.meaning g.met.K.Kind.lawful c.args.program.now c.args.node c.args.message.now c.number-number.result c.number-number.ensures c.number-number.type_inv (λ i. omega (arith, (c.type_inv.message i).fits))

pub returns-in_err-walk-clause-trips : goal.returns-in_err-walk-clause-trips
returns-in_err-walk-clause-trips g c = round_trips g.K.Kind.meaning g.met.K.Kind.lawful c.args.program.now c.args.node c.args.message.now c.number-number.result c.number-number.ensures c.number-number.type_inv (λ i. omega (arith, (c.type_inv.message i).fits))

pub returns-then-here-message-clause-trips : goal.returns-then-here-message-clause-trips
returns-then-here-message-clause-trips g c = round_trips g.K.Kind.meaning g.met.K.Kind.lawful c.args.program.now c.args.node c.args.message.now c.number-number.result c.number-number.ensures c.number-number.type_inv (λ i. omega (arith, (c.type_inv.message i).fits))

pub returns-clause-trips : goal.returns-clause-trips
returns-clause-trips g c = round_trips g.K.Kind.meaning g.met.K.Kind.lawful c.args.program.now c.args.node c.args.message.now c.number-number.result c.number-number.ensures c.number-number.type_inv (λ i. omega (arith, (c.type_inv.message i).fits))
