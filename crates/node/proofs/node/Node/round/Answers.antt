use Rattle.std.proofs.Common.{◌≡◌, ℕ, List, length, take, Ok, refl, ◌∙◌, rules}
use Rattle.refusal.specs.Outcomes.{Outcome, mapped}
use Rattle.rules.specs.Working.{worked_out, told, on_output}
use Rattle.trace.specs.States.{State, passed}
use Rattle.trace.proofs.Promised.{round_promise_of}
use Rattle.node.specs.Nodes.{state}
use Rattle.node.proofs.Calls.{if_refused, told_by, output_by, kept_of, refused_of}
use Rattle.node.proofs.node.Node.round.Goals as goal

pub returns-in_err-value : goal.returns-in_err-value
returns-in_err-value g c =
    let s : State = state {K = g.row.K.Denot} g.I.Inbox.meaning c.args.self.now in
    let a = c.from_residual.result in
    let answer : List ℕ → Outcome (g.row.K-Value.Denot × List ℕ) = λ last. worked_out g.K.Kind.meaning s.program s.number s.inbox.items last c.args.readings.now (length c.args.values.now) (length c.args.bytes.now) (length c.args.output.now) in
    let found : a ≡ mapped told (answer c.as_slice.result.now) = search rules in
    let value : a ≡ mapped told (answer s.last) = told_by answer c.as_slice.result.now s.last a c.as_slice.ensures found in
    let output : c.work_out.new.output ≡ on_output (answer s.last) c.args.output.now = output_by answer c.as_slice.result.now s.last c.args.output.now c.work_out.new.output c.as_slice.ensures c.in_err-value.ensures.output in
    let after = refused_of s (answer s.last) a c.from_residual.ensures.0 value in
    record {
      value = value;
      after = after;
      output = output;
      untouched = if_refused a (refl, c.in_err-value.ensures.untouched.0, c.in_err-value.ensures.untouched.1);
      promise = round_promise_of g.K.Kind.meaning g.met.K.Kind.lawful s c.args.readings.now (length c.args.values.now) (length c.args.bytes.now) (length c.args.output.now) a c.args.output.now c.work_out.new.output s value output after;
    }

pub returns : goal.returns
returns g c =
    let s : State = state {K = g.row.K.Denot} g.I.Inbox.meaning c.args.self.now in
    let n = c.in_ok-value.n in
    let answer : List ℕ → Outcome (g.row.K-Value.Denot × List ℕ) = λ last. worked_out g.K.Kind.meaning s.program s.number s.inbox.items last c.args.readings.now (length c.args.values.now) (length c.args.bytes.now) (length c.args.output.now) in
    let value : Ok (c.in_ok-value.value, n) ≡ mapped told (answer s.last) = told_by answer c.as_slice.result.now s.last (Ok (c.in_ok-value.value, n)) c.as_slice.ensures c.in_ok-value.ensures.value in
    let output : c.work_out.new.output ≡ on_output (answer s.last) c.args.output.now = output_by answer c.as_slice.result.now s.last c.args.output.now c.work_out.new.output c.as_slice.ensures c.in_ok-value.ensures.output in
    let gone : state {K = g.row.K.Denot} g.I.Inbox.meaning c.pass.new.self ≡ passed s (take n c.work_out.new.output) = search rules in
    let after = gone ∙ kept_of s (answer s.last) c.in_ok-value.value n c.args.output.now c.work_out.new.output value output in
    record {
      value = value;
      after = after;
      output = output;
      untouched = tt;
      promise = round_promise_of g.K.Kind.meaning g.met.K.Kind.lawful s c.args.readings.now (length c.args.values.now) (length c.args.bytes.now) (length c.args.output.now) (Ok (c.in_ok-value.value, n)) c.args.output.now c.work_out.new.output _ value output after;
    }
