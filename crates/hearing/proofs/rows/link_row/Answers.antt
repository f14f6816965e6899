use Rattle.std.proofs.Common.{◌≡◌, ◌∷◌, [], get_or, Option, unwrap_or, rules, sym, ap, ◌∙◌, arith}
use Rattle.rules.specs.Rules.{Sender, links}
use Rattle.held.proofs.Senders.{loaded_link}
use Rattle.hearing.specs.Cells.{link_of}
use Rattle.hearing.proofs.Laying.{each_sender}
use Rattle.hearing.proofs.Sounding.{links_own, links_held}
use Rattle.hearing.proofs.rows.link_row.Goals as goal

pub returns : goal.returns
returns g c =
    let k = g.K.Kind.meaning in
    let f = c.lay.ensures in
    record {
      row = c.UNKNOWN.result ∷ c.OWN.result ∷ f.held;
      laid = f.laid;
      wide = f.wide;
      means = λ h gives.
          let d : Sender g.row.K-Value.Denot = record { number = 0; link = k.own; tree = [] } in
          let many = gives.held.many in
          let same : f.held ≡ _ =
          each_sender (links k h) f.held h.held k.own d (omega (arith, f.wide)) (λ j l.
          let here = f.each j k.own (omega (arith, f.wide)) in
          let link : get_or f.held j k.own ≡ link_of k c.args.x.now j = search rules in
          link ∙ ap (λ (o : Option g.row.K-Value.Denot). unwrap_or o k.unknown) (loaded_link gives.held j d (omega arith)) ∙ sym (links_held h k gives.orderly j d l)) in
          λ i. (c.UNKNOWN.ensures ∙ g.met.K.Kind.unknown_is) i ∷ (c.OWN.ensures ∙ g.met.K.Kind.own_is ∙ sym (links_own h k)) i ∷ same i;
    }
