use Rattle.std.proofs.Common.{◌≡◌, ℕ, ◌∷◌, [], get_or, unwrap_or, rules, sym, ap, ◌∙◌, arith}
use Rattle.record.specs.Trees.{says}
use Rattle.rules.specs.Rules.{Sender, received, at}
use Rattle.cursor.specs.Cursors.{said_value}
use Rattle.hearing.specs.Cells.{HeardAt}
use Rattle.hearing.proofs.Laying.{each_sender}
use Rattle.hearing.proofs.Sounding.{or_else_said, received_own}
use Rattle.hearing.proofs.rows.receive.Goals as goal

pub returns : goal.returns
returns g c =
    let k = g.K.Kind.meaning in
    let f = c.lay.ensures in
    let p = c.args.place in
    let initial = c.args.initial in
    record {
      row = initial ∷ c.unwrap_or-own.result ∷ f.held;
      laid = f.laid;
      wide = f.wide;
      means = λ h al low gives flags stands le.
          let d : Sender g.row.K-Value.Denot = record { number = 0; link = k.own; tree = [] } in
          let many = gives.held.many in
          let own : c.unwrap_or-own.result ≡ received h al p initial (at h.number) =
          c.unwrap_or-own.ensures
          ∙ ap (λ o. unwrap_or o initial) (c.value_at.ensures h.last low gives.last stands.own le)
          ∙ ap (λ (n : ℕ). unwrap_or (said_value (says n p h.last)) initial) (sym gives.number)
          ∙ or_else_said initial (says h.number p h.last)
          ∙ sym (received_own h al p initial) in
          let same : f.held ≡ _ =
          each_sender (received h al p initial) f.held h.held k.own d (omega (arith, f.wide)) (λ j l.
          let here = f.each j k.own (omega (arith, f.wide)) in
          let heard : HeardAt k c.args.x.now c.args.aligned.now p c.args.cursors.now initial j (get_or f.held j k.own) = search rules in
          heard.is h al low d gives flags stands le l) in
          λ i. initial ∷ own i ∷ same i;
    }
