use Rattle.std.proofs.Common.{◌≡◌, true, sym, refl, subst, arith}
use Rattle.program.specs.declared.program.Program.{Program}
use Rattle.program.specs.Programs.{shown, run_of}
use Rattle.program.specs.Verdict.{suits}
use Rattle.record.specs.Plans.{due}
use Rattle.rules.specs.Held.{held_in}
use Rattle.rules.specs.Working.{given_in}
use Rattle.rules.proofs.Holding.{held_orderly}
use Rattle.held.specs.Slots.{Loaded}
use Rattle.round.proofs.Outputs.{readings_values}
use Rattle.round.proofs.work_out.give.Goals as goal

pub load-slots-requires : goal.load-slots-requires
load-slots-requires g c = record {
  suits = subst (λ (q : Program). suits g.K.Kind.meaning (shown q) ≡ true) (sym c.program.ensures) c.args.program.now.suited;
  room = omega (arith, c.requires.bytes);
}

pub returns : goal.returns
returns g c =
    let k = g.K.Kind.meaning in
    let p = c.args.program.now.program.now in
    let me = c.args.node in
    let contents = g.I.Inbox.meaning c.args.inbox.now in
    record {
      fits = c.run_on.ensures.fits;
      means = λ vs e.
          let y = given_in k p me contents.items c.args.last.now vs in
          c.run_on.ensures.means y (record {
            number = refl;
            readings_are = readings_values k c.args.readings.now g.met.K.Kind.lawful (shown p).header.sensors vs e;
            held = subst
                (λ (q : Program). Loaded k q me c.load-slots.new.bytes c.load-slots.result (held_in k (due (run_of q) 0) (shown q).header.number me contents.items))
                c.program.ensures c.load-slots.ensures;
            last = c.own_tree-own.ensures;
            orderly = held_orderly g.row.K-Value.Denot k (due (run_of p) 0) (shown p).header.number contents (g.I.Inbox.lawful c.args.inbox.now) y (omega (arith, c.ranges.node.fits)) refl;
          });
    }
