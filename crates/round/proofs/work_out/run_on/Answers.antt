use Rattle.hearing.specs.declared.inputs.Inputs.{Inputs}
use Rattle.std.proofs.Common.{subst, arith}
use Rattle.program.specs.declared.program.Program.{Program}
use Rattle.round.specs.Outcomes.{GivesParts}
use Rattle.round.proofs.Starting.{gives_of}
use Rattle.round.proofs.work_out.run_on.Goals as goal

pub returns : goal.returns
returns g c =
    let k = g.K.Kind.meaning in
    let a = c.args in
    let x : Inputs = record { program = c.program.result; node = a.node; slots = a.slots; bytes = a.bytes; own = a.own; readings = a.readings } in
    subst (λ (p : Program). GivesParts k p a.node a.slots.now a.bytes.now a.own.now a.readings.now c.run.result.0 c.run.result.1 a.output.now c.run.new.output) c.program.ensures
    (record {
      fits = c.run.ensures.fits;
      means = λ y s. c.run.ensures.means y (gives_of k g.met.K.Kind.lawful x y (λ i. omega (arith, (c.type_inv.bytes i).fits)) s);
    })
