use Rattle.std.proofs.Common.{rules}
use Rattle.trace.specs.States.{State}
use Rattle.node.specs.Nodes.{state}
use Rattle.node.proofs.Calls.{drop_promise}
use Rattle.node.proofs.node.Node.drop_sender.Goals as goal

pub returns : goal.returns
returns g c =
    let s : State = state {K = g.row.K.Denot} g.I.Inbox.meaning c.args.self.now in
    record {
      value = search rules;
      after = search rules;
      untouched = search rules;
      promise = drop_promise g.K.Kind.meaning g.met.K.Kind.lawful s c.args.sender _ (search rules);
    }
