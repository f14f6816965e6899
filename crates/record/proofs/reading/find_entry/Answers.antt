use Rattle.std.proofs.Common.{◌≡◌, ◌+◌, ◌-◌, ◌*◌, [], ◌∷◌, length, sym, ap, ◌∙◌, subst, arith, rules, length-append}
use Rattle.std.proofs.lemmas.List.{take_rest}
use Rattle.std.specs.Slice.Iter.{chunks_exact_rest}
use Rattle.record.specs.Records.{bytes_at}
use Rattle.record.proofs.Rows.{Cut, cut_next, cut_left, cut_done, found_here, found_later, none_found}
use Rattle.record.proofs.reading.find_entry.Goals as goal

pub returns-then-pair-number : goal.returns-then-pair-number
returns-then-pair-number g c = λ n fit.
    let w = g.K.Kind.meaning.width in
    let bs = c.args.entries.now in
    let e = c.in-Some.entry.now in
    let i = length c.loop-entry.yielded in
    let inv = c.loop-entry.invariant in
    let steps = c.in-Some.ensures.steps in
    let long : length e ≡ 2 + w = steps.1.1 ∙ inv.2 in
    let next = cut_next w bs i _ e _ inv.3 steps.1.0 long in
    let lt = cut_left w bs i _ e _ inv.3 steps.1.0 long n fit in
    take_rest e 2 ∙ sym (inv.4 n fit ∙ found_here w c.args.number c.args.default.now bs n i e _ lt next (sym c.pair.ensures.is ∙ c.if-pair-number.true))

pub loop-entry-preserved : goal.loop-entry-preserved
loop-entry-preserved g c =
    let w = g.K.Kind.meaning.width in
    let bs = c.args.entries.now in
    let e = c.in-Some.entry.now in
    let i = length c.loop-entry.yielded in
    let inv = c.loop-entry.invariant in
    let steps = c.in-Some.ensures.steps in
    let long : length e ≡ 2 + w = steps.1.1 ∙ inv.2 in
    let next = cut_next w bs i _ e _ inv.3 steps.1.0 long in
    let count = sym (length-append c.loop-entry.yielded (c.in-Some.entry ∷ [])) in (
      search rules,
      tt,
      steps.0 ∙ inv.2,
      subst (λ z. Cut w bs z (chunks_exact_rest c.next.new.self)) count next.cut,
      λ n fit.
          let lt = cut_left w bs i _ e _ inv.3 steps.1.0 long n fit in
          inv.4 n fit
          ∙ found_later w c.args.number c.args.default.now bs n i e _ lt next (λ h. c.if-pair-number.false (c.pair.ensures.is ∙ h))
          ∙ ap (λ z. bytes_at w c.args.number c.args.default.now bs (n - z) (z * (2 + w))) count,
    )

pub returns : goal.returns
returns g c = λ n fit.
    let w = g.K.Kind.meaning.width in
    let i = length c.loop-entry.yielded in
    let inv = c.loop-entry.invariant in
    let steps = c.in-None.ensures.steps in
    let left = cut_done w c.args.entries.now i _ inv.3 n fit (omega (arith, steps.1.0, inv.2)) in
    sym (inv.4 n fit ∙ none_found w c.args.number c.args.default.now c.args.entries.now n i _ left)
