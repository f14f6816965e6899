use Rattle.std.proofs.Common.{sym, refl, ◌∙◌, subst}
use Rattle.round.specs.Machines.{seen}
use Rattle.round.specs.Outcomes.{GivesOut}
use Rattle.round.proofs.Starting.{start_ready, ended, run_out}
use Rattle.round.proofs.work_out.run.Goals as goal

pub work-requires : goal.work-requires
work-requires g c =
    let r = c.run_start-at.ensures in
    record { ready = start_ready g.K.Kind.meaning c.args.x.now c.requires.suits c.run_start-at.result.1 c.run_start-at.result.0 r.is _ _ c.begin.result c.empty.result _ refl c.requires.values refl c.requires.output c.empty.ensures refl r.near r.deep r.shallow r.few }

pub put_header-requires : goal.put_header-requires
put_header-requires g c =
    let r = c.run_start-at.ensures in
    let e = ended g.K.Kind.meaning c.args.x.now c.requires.suits c.run_start-at.result.1 c.run_start-at.result.0 r.is _ _ c.begin.result c.empty.result _ (seen c.work.new.self c.work.new.output) c.work.result refl c.requires.values refl c.requires.output c.work.ensures in
    record { long = e.long; short = e.short; room = e.room }

pub returns : goal.returns
returns g c =
    let r = c.run_start-at.ensures in
    let h = c.put_header.ensures in
    let x = c.args.x.now in
    let back = c.output-1.given.1.1 (sym (h.lender ∙ c.work.ensures.wrote.lender)) in
    subst (GivesOut g.K.Kind.meaning x c.cell-result.result c.put_header.new.output.len c.args.output.now) (sym back)
    (run_out g.K.Kind.meaning x c.requires.suits c.run_start-at.result.1 c.run_start-at.result.0 r.is _ _ c.begin.result c.empty.result _ (seen c.work.new.self c.work.new.output) c.work.result c.cell-result.result c.put_header.new.output c.number.result
    refl c.requires.values refl c.requires.output c.empty.ensures refl c.number.ensures (λ y gi. c.begin.ensures c.args.x.now y gi) c.work.ensures c.cell-result.ensures h.same h.bytes h.tree)
