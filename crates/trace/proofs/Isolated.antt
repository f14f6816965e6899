-- Isolation of the rounds of two lines.
use Rattle.std.proofs.Common.{◌≡◌, ℕ, zero, suc, true, List, [], ◌∷◌, map, take, sym, refl, ap, ◌∙◌, subst}
use Rattle.kind.specs.Kind.{Meaning, Lawful}
use Rattle.program.specs.declared.program.Program.{Program}
use Rattle.program.specs.Programs.{shown, run_of}
use Rattle.record.specs.Trees.{Rec}
use Rattle.record.specs.Writing.{written_tree}
use Rattle.rules.specs.Rules.{Out, at, work, round}
use Rattle.rules.specs.Working.{readings_in, last_in}
use Rattle.rules.proofs.Isolation.{isolation}
use Rattle.trace.specs.States.{State}
use Rattle.trace.specs.Lines.{Round, Event, rounds_in, Line, start, Possible, rounds, values_or_none, values_of, given_of}
use Rattle.trace.specs.Promises.{gift, Alike, AllAlike, Ruled, AllRuled, RoundsIsolated}
use Rattle.trace.specs.Promises as promise
use Rattle.trace.proofs.Turns.{plan_of, program_number, gives, took, went, turned, Turns, over, more, turns, Well, well_turn, well_start}
use Rattle.trace.proofs.Own.{read_back, values_at, records_at}

module _ {V : Type 0} (k : Meaning V) where
  abbrev out : Round V → Out V
  out r = round k (given_of k r) (run_of r.found.program)

  module _ (p : Program) (me : ℕ) where
    same_values : {last last' : List (Rec V)} (r q : Round V) → Ruled k p me last r → Ruled k p me last' q → r.readings ≡ q.readings → values_of k r ≡ values_of k q
    same_values r q a b e = λ j. values_or_none k (readings_in k (shown ((a.program ∙ sym b.program) j)).header.sensors (e j))

    same_out : {last last' : List (Rec V)} (r q : Round V) → last ≡ last' → Ruled k p me last r → Ruled k p me last' q → Alike k r q → out r ≡ out q
    same_out r q l a b x =
        isolation V k (given_of k r) (given_of k q) (run_of r.found.program) [] (λ n. true) 0 (record {
          number = a.number ∙ sym b.number;
          readings = same_values r q a b x.readings;
          held = x.held;
          last = a.last_own ∙ l ∙ sym b.last_own;
        })
        ∙ ap (λ (t : Program). work k (given_of k q) (run_of t) [] (λ n. true) 0) (a.program ∙ sym b.program)

    same_gift : {last last' : List (Rec V)} (r q : Round V) → Ruled k p me last r → Ruled k p me last' q → out r ≡ out q → gift r ≡ gift q
    same_gift r q a b o =
        let n = a.number ∙ sym b.number in
        let t = a.program ∙ sym b.program in
        a.gives ∙ (λ j. ((o j).value (at (n j)), written_tree k (shown (t j)).header.number (record { sender = n j; records = (o j).records }))) ∙ sym b.gives

    same_gifts : {rs qs : List (Round V)} {last last' : List (Rec V)} → AllAlike k rs qs → last ≡ last' → AllRuled k p me last rs → AllRuled k p me last' qs → map gift rs ≡ map gift qs
    same_gifts promise.AllAlike.no_round l a b = refl
    same_gifts (promise.AllAlike.round_then {r = r} {q = q} x xs) l (promise.AllRuled.round_then a as') (promise.AllRuled.round_then b bs) =
        let o = same_out r q l a b x in
        let g = same_gift r q a b o in
        let gs = same_gifts xs (ap (λ (z : Out V). z.records) o) as' bs in
        λ j. g j ∷ gs j

    ruled_first : (n : ℕ) {last : List (Rec V)} (rs : List (Round V)) → AllRuled k p me last rs → AllRuled k p me last (take n rs)
    ruled_first zero rs h = promise.AllRuled.no_round
    ruled_first (suc n) [] h = promise.AllRuled.no_round
    ruled_first (suc n) (r ∷ rs) (promise.AllRuled.round_then a h) = promise.AllRuled.round_then a (ruled_first n rs h)

  module _ (law : Lawful k) where
    -- each round is by the rules, with the tree before it read back
    ruled : {p : Program} {me : ℕ} {s t : State} {es : List (Event V)} {last : List (Rec V)} → Turns k s es t → Well k s → s.program ≡ p → s.number ≡ me
        → last_in k (plan_of k s) (program_number k s) s.number s.last ≡ last → AllRuled k p me last (rounds_in es)
    ruled over w f g e = promise.AllRuled.no_round
    ruled (more (took a) r) w f g e = ruled r (well_turn k law (took a) w) f g e
    ruled (more (went n) r) w f g e = ruled r (well_turn k law (went n) w) f g e
    ruled {s = s} (more (turned b vs u h) r) w f g e =
        let v = values_at k law s b vs h in
        promise.AllRuled.round_then
        (record { program = f; number = g; last_own = e; gives = ap (gives k s) v })
        (ruled r (well_turn k law (turned b vs u h) w) f g (read_back k law s w u vs ∙ ap (records_at k law s) v))

    pub line_ruled : (l : Line) → Possible l → AllRuled k l.program l.number [] (rounds k l)
    line_ruled l c = ruled (turns k (start l) l.calls c.messages) (well_start k l c) refl refl refl

pub rounds_isolated : (V : Type 0) → RoundsIsolated V
rounds_isolated V k law l m c d p n = record {
  same = λ i h. same_gifts k l.program l.number h refl
      (ruled_first k l.program l.number i (rounds k l) (line_ruled k law l c))
      (ruled_first k l.program l.number i (rounds k m)
      (subst (λ (q : Program). AllRuled k q l.number [] (rounds k m)) p (subst (λ (q : ℕ). AllRuled k m.program q [] (rounds k m)) n (line_ruled k law m d))));
  ruled = line_ruled k law l c;
}
