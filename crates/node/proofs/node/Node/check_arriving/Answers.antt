use Rattle.std.proofs.Common.{◌≡◌, true, is_some, rules}
use Rattle.trace.specs.States.{State}
use Rattle.node.specs.Nodes.{state}
use Rattle.node.proofs.Arriving.{arrives, item_short}
use Rattle.node.proofs.node.Node.check_arriving.Goals as goal

pub returns : goal.returns
returns g c =
    let s : State = state {K = g.row.K.Denot} g.I.Inbox.meaning c.args.self.now in
    let linked : is_some (g.K.Kind.meaning.read c.args.link.now) ≡ true = search rules in
    record {
      is = arrives g.K.Kind.meaning s c.args.link.now c.args.message.now _ linked c.read-2.ensures.is;
      fits = item_short g.K.Kind.meaning g.met.K.Kind.lawful s.program s.number c.args.link.now c.args.message.now _ linked c.read-2.ensures.is;
    }
