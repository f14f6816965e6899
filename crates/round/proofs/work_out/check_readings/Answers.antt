use Rattle.std.proofs.Common.{◌≡◌, Err, ℕ, ◌+◌, ◌-◌, ◌*◌, length, drop, not, sym, ap, ◌∙◌, subst, arith, rules}
use Rattle.std.specs.Iterator.Adapters.{enumerate_source, enumerate_count}
use Rattle.std.specs.Slice.Iter.{chunks_exact_rest}
use Rattle.refusal.specs.Outcomes.{refusal}
use Rattle.refusal.specs.declared.cause.Cause.TheVariants as cause
use Rattle.rules.specs.Working.{readings_from}
use Rattle.round.proofs.Outputs.{judged, all_passed, chunk_refused, chunk_passed, chunk_cut, chunk_left}
use Rattle.round.proofs.work_out.check_readings.Goals as goal

pub returns-then-is_none : goal.returns-then-is_none
returns-then-is_none g c =
    let k = g.K.Kind.meaning in
    let bs = c.args.readings.now in
    let s = c.args.sensors in
    let i = enumerate_count c.loop-i.i-iterator in
    let inv = c.loop-i.invariant in
    let steps = c.in-Some.ensures.steps in
    let e = c.in-Some.reading.now in
    let long : length bs ≡ s * k.width = c.if-readings-sensors.false ∙ ap (λ (z : ℕ). s * z) (c.WIDTH.ensures ∙ g.met.K.Kind.width_is) in
    ap (λ (z : ℕ). Err (refusal cause.ReadingsRefused (z * length e))) steps.1
    ∙ chunk_refused k bs s i _ g.met.K.Kind.lawful.some long inv.3 inv.4 inv.5 e _ steps.0.1.0 (steps.0.1.1 ∙ inv.2) c.read.result c.read.ensures c.if-is_none.ensures

pub loop-i-preserved : goal.loop-i-preserved
loop-i-preserved g c =
    let k = g.K.Kind.meaning in
    let bs = c.args.readings.now in
    let s = c.args.sensors in
    let i = enumerate_count c.loop-i.i-iterator in
    let inv = c.loop-i.invariant in
    let steps = c.in-Some.ensures.steps in
    let e = c.in-Some.reading.now in
    let some = g.met.K.Kind.lawful.some in
    let long : length bs ≡ s * k.width = c.if-readings-sensors.false ∙ ap (λ (z : ℕ). s * z) (c.WIDTH.ensures ∙ g.met.K.Kind.width_is) in
    let one : length e ≡ k.width = steps.0.1.1 ∙ inv.2 in
    let count : i + 1 ≡ enumerate_count c.next.new.self = sym steps.2 in (
      search rules,
      tt,
      steps.0.0 ∙ inv.2,
      subst (λ (z : ℕ). drop (z * k.width) bs ≡ chunks_exact_rest (enumerate_source c.next.new.self)) count (chunk_cut k bs s i _ some long inv.3 inv.4 inv.5 e _ steps.0.1.0 one),
      subst (λ (z : ℕ). z * k.width + length (chunks_exact_rest (enumerate_source c.next.new.self)) ≡ length bs) count (chunk_left k bs s i _ some long inv.3 inv.4 inv.5 e _ steps.0.1.0 one),
      subst (λ (z : ℕ). judged (readings_from k s 0 bs) ≡ judged (readings_from k (s - z) (z * k.width) bs)) count
          (chunk_passed k bs s i _ some long inv.3 inv.4 inv.5 e _ steps.0.1.0 one c.read.result c.read.ensures (c.is_none.ensures ∙ ap not c.if-is_none.false)),
    )

pub returns : goal.returns
returns g c =
    let k = g.K.Kind.meaning in
    let bs = c.args.readings.now in
    let s = c.args.sensors in
    let i = enumerate_count c.loop-i.i-iterator in
    let inv = c.loop-i.invariant in
    let steps = c.in-None.ensures.steps in
    let long : length bs ≡ s * k.width = c.if-readings-sensors.false ∙ ap (λ (z : ℕ). s * z) (c.WIDTH.ensures ∙ g.met.K.Kind.width_is) in
    all_passed k bs s i _ g.met.K.Kind.lawful.some long inv.3 inv.4 inv.5 (let r = steps.0.1.0 in let w = inv.2 in omega arith)
