-- What a row has in the cell of the own number, and in that of the j-th held sender.
use Rattle.std.proofs.Common.{◌≡◌, ℕ, zero, suc, ◌+◌, ◌<◌, ◌≤◌, Bool, true, false, cond, ◌≢◌, List, [], ◌∷◌, map, length, get_or, Option, unwrap_or, sym, refl, ap, ◌∙◌, subst, arith, eq-eqb, ne_eqb}
use Rattle.kind.specs.Kind.{Meaning}
use Rattle.record.specs.Trees.{Rec, Said, silent, chose, reads, says}
use Rattle.rules.specs.Rules.{at, Sender, Given, senders, or_else, hears, link_to, links, received}
use Rattle.rules.specs.Laws.{Apart, from, Orderly}
use Rattle.cursor.specs.Cursors.{Readable, Stands, said_value}
use Rattle.hearing.specs.declared.inputs.Inputs.{Inputs}
use Rattle.hearing.specs.declared.cursors.Cursors.{Cursors}
use Rattle.hearing.specs.Hearing.{spots, tree_of}
use Rattle.hearing.specs.Cells.{HeardAt}
use Rattle.hearing.proofs.Hearers.{hears_nth, link_nth}

module _ {V : Type 0} where
  apart_at : (n : ℕ) (ss : List (Sender V)) → Apart n (senders ss) → (j : ℕ) (d : Sender V) → j < length ss → n ≢ (get_or ss j d).number
  apart_at n [] a j d h = absurd (omega (arith, h))
  apart_at n (s ∷ ss) (from ne a) zero d h = ne
  apart_at n (s ∷ ss) (from ne a) (suc j) d h = apart_at n ss a j d (omega (arith, h))

  long_spots : (ss : List (Sender V)) → length (map at (senders ss)) ≡ length ss
  long_spots [] = refl
  long_spots (s ∷ ss) = ap suc (long_spots ss)

  pub spots_long : (g : Given V) → length (spots g) ≡ 2 + length g.held
  spots_long g = omega (arith, long_spots g.held)

  pub or_else_said : (initial : V) (s : Said V) → unwrap_or (said_value s) initial ≡ or_else initial s
  or_else_said initial silent = refl
  or_else_said initial (chose b) = refl
  or_else_said initial (reads v) = refl

  module _ (g : Given V) where
    -- what is received at the own number, and at the number of the j-th held sender
    pub received_own : (al : ℕ → Bool) (p : ℕ) (initial : V) → received g al p initial (at g.number) ≡ or_else initial (says g.number p g.last)
    received_own al p initial =
        ap (λ (b : Bool). cond b (or_else initial (says g.number p g.last)) (cond (al g.number) (or_else initial (hears g.number p g.number g.held)) initial)) (eq-eqb g.number g.number refl)

    pub received_held : (al : ℕ → Bool) (p : ℕ) (initial : V) → Orderly g → (j : ℕ) (d : Sender V) → j < length g.held
        → received g al p initial (at (get_or g.held j d).number) ≡ cond (al (get_or g.held j d).number) (or_else initial (says g.number p (get_or g.held j d).tree)) initial
    received_held al p initial o j d h =
        let n = (get_or g.held j d).number in
        ap (λ (b : Bool). cond b (or_else initial (says g.number p g.last)) (cond (al n) (or_else initial (hears g.number p n g.held)) initial))
        (ne_eqb n g.number (λ e. apart_at g.number g.held o.apart j d h (sym e)))
        ∙ ap (λ (s : Said V). cond (al n) (or_else initial s) initial) (hears_nth g.number p g.held o.rising j d h)

    -- and the links there
    pub links_own : (k : Meaning V) → links k g (at g.number) ≡ k.own
    links_own k = ap (λ (b : Bool). cond b k.own (link_to k.unknown g.number g.held)) (eq-eqb g.number g.number refl)

    pub links_held : (k : Meaning V) → Orderly g → (j : ℕ) (d : Sender V) → j < length g.held → links k g (at (get_or g.held j d).number) ≡ (get_or g.held j d).link
    links_held k o j d h =
        let n = (get_or g.held j d).number in
        ap (λ (b : Bool). cond b k.own (link_to k.unknown n g.held)) (ne_eqb n g.number (λ e. apart_at g.number g.held o.apart j d h (sym e)))
        ∙ link_nth k.unknown g.held o.rising j d h

-- what is received of an aligned sender, where its tree says this, and of another
module _ {V : Type 0} (k : Meaning V) (x : Inputs) (flags : List Bool) (p : ℕ) (c : Cursors) (initial : V) (j : ℕ) where
  pub heard_aligned : get_or flags j false ≡ true → (m : List ℕ) → m ≡ tree_of k x j → (said : Option V)
      → ((rs : List (Rec V)) (low : ℕ) → Readable k m rs → Stands k m rs low (get_or c.senders j 0) → low ≤ p → said ≡ said_value (says x.node p rs))
      → HeardAt k x flags p c initial j (unwrap_or said initial)
  heard_aligned aligned m is said says_it = record {
    is = λ g al low d gives each stands le l.
        let rs = (get_or g.held j d).tree in
        ap (λ (o : Option V). unwrap_or o initial)
        (says_it rs low
        (subst (λ (t : List ℕ). Readable k t rs) (sym is) (gives.trees j d l))
        (subst (λ (t : List ℕ). Stands k t rs low (get_or c.senders j 0)) (sym is) (stands.senders j d l)) le)
        ∙ ap (λ (n : ℕ). unwrap_or (said_value (says n p rs)) initial) (sym gives.number)
        ∙ or_else_said initial (says g.number p rs)
        ∙ sym (received_held g al p initial gives.orderly j d l ∙ ap (λ (b : Bool). cond b (or_else initial (says g.number p rs)) initial) (sym (each.is j d l) ∙ aligned));
  }

  pub heard_apart : get_or flags j false ≡ false → HeardAt k x flags p c initial j initial
  heard_apart apart = record {
    is = λ g al low d gives each stands le l.
        let rs = (get_or g.held j d).tree in
        sym (received_held g al p initial gives.orderly j d l ∙ ap (λ (b : Bool). cond b (or_else initial (says g.number p rs)) initial) (sym (each.is j d l) ∙ apart));
  }
