use Rattle.std.proofs.Common.{◌≡◌, ℕ, true, sym, ap, ◌∙◌, subst}
use Rattle.program.specs.declared.program.Program.{Program}
use Rattle.program.specs.Programs.{shown}
use Rattle.program.specs.Verdict.{suits}
use Rattle.rules.specs.Working.{readings_in}
use Rattle.round.specs.Outcomes.{GivesRound}
use Rattle.round.proofs.Outputs.{judged}
use Rattle.round.proofs.Starting.{round_worked}
use Rattle.round.proofs.work_out.work_out.Goals as goal

pub returns : goal.returns
returns g c =
    let k = g.K.Kind.meaning in
    let a = c.args in
    let items = (g.I.Inbox.meaning a.inbox.now).items in
    let same = c.in_ok-suited.ensures.same in
    let fits = subst (λ (p : Program). suits k (shown p) ≡ true) same c.in_ok-suited.suited.suited in
    let given = subst (λ (p : Program). GivesRound k p a.node items a.last.now a.readings.now c.give.result.0 c.give.result.1 a.output.now c.give.new.output) same c.give.ensures in
    let r = round_worked k a.program.now a.node items a.last.now a.readings.now _ _ a.output.now c.give.new.output c.give.result.0 c.give.result.1 fits (ap (λ (s : ℕ). judged (readings_in k s a.readings.now)) (sym c.sensors.ensures) ∙ sym c.in_ok-check_readings.ensures) c.if-values-lt-WORKING_VALUES.false c.if-bytes-lt-WORKING_BYTES.false c.if-output-lt-MOST_BYTES.false given in
    record { value = r.0; output = r.1; untouched = tt; fits = c.give.ensures.fits }
