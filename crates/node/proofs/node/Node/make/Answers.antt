use Rattle.std.proofs.Common.{rules}
use Rattle.trace.proofs.Promised.{keeps}
use Rattle.node.specs.Nodes.{begun}
use Rattle.node.proofs.node.Node.make.Goals as goal

pub returns : goal.returns
returns g c =
    record {
      value = search rules;
      promise = record {
        ends = search rules;
        keeps = keeps g.K.Kind.meaning g.met.K.Kind.lawful (begun c.args.program.now c.args.number (g.I.Inbox.meaning c.args.inbox));
      };
    }
