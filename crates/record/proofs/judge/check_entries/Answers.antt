use Rattle.std.proofs.Common.{◌≡◌, ◌+◌, ◌-◌, ◌*◌, length, sym, ap, ◌∙◌, subst, arith, rules}
use Rattle.std.proofs.lemmas.Result.{err_from_is_err_and}
use Rattle.std.specs.Iterator.Adapters.{enumerate_source, enumerate_count}
use Rattle.std.specs.Slice.Iter.{chunks_exact_rest}
use Rattle.record.specs.Records.{next_low, entries}
use Rattle.record.proofs.Rows.{Cut, cut_next, cut_left, cut_done, refused, passed, all_done, done}
use Rattle.record.proofs.judge.check_entries.Goals as goal

pub returns-in_err-low : goal.returns-in_err-low
returns-in_err-low g c = λ n fit.
    let k = g.K.Kind.meaning in
    let bs = c.args.entries.now in
    let e = c.in-Some.entry.now in
    let i = enumerate_count c.loop-i.i-iterator in
    let inv = c.loop-i.invariant in
    let steps = c.in-Some.ensures.steps in
    let long : length e ≡ 2 + k.width = steps.0.1.1 ∙ inv.2 in
    let next = cut_next k.width bs i _ e _ inv.3 steps.0.1.0 long in
    let lt = cut_left k.width bs i _ e _ inv.3 steps.0.1.0 long n fit in
    let at : c.args.base + c.in-Some.i * length e ≡ c.args.base + i * (2 + k.width) = λ j. c.args.base + steps.1 j * long j in
    let p = err_from_is_err_and c.from_residual.result c.from_residual.ensures.1 in
    rw (p.1, p.2) (sym (inv.4 n fit ∙ refused k c.args.default c.args.base bs n i c.loop-i.low e _ lt next _ (ap (λ z. next_low k c.args.default z e c.loop-i.low) (sym at) ∙ sym c.in_err-low.ensures.is)))

pub loop-i-preserved : goal.loop-i-preserved
loop-i-preserved g c =
    let k = g.K.Kind.meaning in
    let bs = c.args.entries.now in
    let e = c.in-Some.entry.now in
    let i = enumerate_count c.loop-i.i-iterator in
    let inv = c.loop-i.invariant in
    let steps = c.in-Some.ensures.steps in
    let long : length e ≡ 2 + k.width = steps.0.1.1 ∙ inv.2 in
    let next = cut_next k.width bs i _ e _ inv.3 steps.0.1.0 long in
    let at : c.args.base + c.in-Some.i * length e ≡ c.args.base + i * (2 + k.width) = λ j. c.args.base + steps.1 j * long j in
    let count : i + 1 ≡ enumerate_count c.next.new.self = sym steps.2 in (
      search rules,
      tt,
      steps.0.0 ∙ inv.2,
      subst (λ z. Cut k.width bs z (chunks_exact_rest (enumerate_source c.next.new.self))) count next.cut,
      λ n fit.
          let lt = cut_left k.width bs i _ e _ inv.3 steps.0.1.0 long n fit in
          inv.4 n fit
          ∙ passed k c.args.default c.args.base bs n i c.loop-i.low e _ lt next _ (ap (λ z. next_low k c.args.default z e c.loop-i.low) (sym at) ∙ sym c.in_ok-low.ensures.is)
          ∙ ap (λ z. done (entries k c.args.default c.args.base bs (n - z) c.in_ok-low.low (z * (2 + k.width)))) count,
    )

pub returns : goal.returns
returns g c = λ n fit.
    let k = g.K.Kind.meaning in
    let i = enumerate_count c.loop-i.i-iterator in
    let inv = c.loop-i.invariant in
    let steps = c.in-None.ensures.steps in
    let left = cut_done k.width c.args.entries.now i _ inv.3 n fit (omega (arith, steps.0.1.0, inv.2)) in
    sym (inv.4 n fit ∙ all_done k c.args.default c.args.base c.args.entries.now n i c.loop-i.low _ left)
