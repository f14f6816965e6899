-- Trees that a node gave are read as what they were, at every other node and as its last own tree.
use Rattle.std.proofs.Common.{◌≡◌, ℕ, ◌+◌, ◌≤◌, Bool, true, false, cond, eqb, ◌≢◌, List, [], Some, Ok, Option, sym, refl, ap, ◌∙◌, subst, ⊎_elim, arith}
use Rattle.std.proofs.lemmas.Bool.{cases_Bool, eqb-true, eqb-false, eq-eqb}
use Rattle.std.proofs.lemmas.Bool.Decides.{nat_tests}
use Rattle.refusal.specs.declared.cause.Cause.TheVariants as cause
use Rattle.refusal.specs.Outcomes.{Outcome, after, must}
use Rattle.kind.specs.Kind.{Meaning, Lawful}
use Rattle.program.specs.declared.program.Program.{Program}
use Rattle.program.specs.Measures.{places, weight}
use Rattle.program.specs.Verdict.{suits}
use Rattle.program.specs.Programs.{shown, run_of}
use Rattle.program.proofs.Shown.{run_within, places_few}
use Rattle.record.specs.Headers.{most_bytes, header_length}
use Rattle.record.specs.Messages.{message}
use Rattle.record.specs.Plans.{due}
use Rattle.record.specs.Trees.{Rec, Tree}
use Rattle.rules.specs.Laws.{Orderly}
use Rattle.rules.specs.Rules.{Given, round}
use Rattle.rules.specs.Working.{readings_in, given_in, other_node, records_by, last_in}
use Rattle.rules.proofs.Followed.{own_trees_read}
use Rattle.rules.proofs.Holding.{held_orderly}
use Rattle.trace.specs.States.{State}
use Rattle.trace.specs.Calls.{allowed_link}
use Rattle.trace.specs.Lines.{Round, Event, rounds_in, start, end, values_or_none, records_of}
use Rattle.trace.specs.Promises.{Among, this, later, OwnTreesPass}
use Rattle.trace.proofs.Stays.{limits_stay_lem}
use Rattle.trace.proofs.Turns.{plan_of, program_number, gives, took, went, turned, Turns, over, more, turns, Well, well_turn, well_start}

-- a program of this kind has its width
same_width : {V : Type 0} (k : Meaning V) (p : Program) → suits k (shown p) ≡ true → (shown p).shape.width ≡ k.width
same_width k p h = grind (arith, nat_tests)

light : {V : Type 0} (k : Meaning V) (p : Program) → suits k (shown p) ≡ true → weight k.width (run_of p) + header_length ≤ most_bytes
light k p h =
    let w : weight k.width (run_of p) ≤ 2039 = subst (λ (v : ℕ). weight v (run_of p) ≤ 2039) (same_width k p h) (run_within p).weight in
    omega arith

few_places : (p : Program) → places (run_of p) ≤ 65536
few_places p = omega (arith, places_few (run_of p), (run_within p).size)

other_node_differs : (me : ℕ) → me ≢ other_node me
other_node_differs me = ⊎_elim
    (λ (e : eqb me 0 ≡ true). let z = eqb-true me 0 e in rw e (λ f. omega arith))
    (λ (e : eqb me 0 ≡ false). rw e (eqb-false me 0 e))
    (cases_Bool (eqb me 0))

module _ {V : Type 0} (k : Meaning V) (law : Lawful k) where
  abbrev pub given_at : State → List V → Given V
  given_at s vs = given_in k s.program s.number s.inbox.items s.last vs

  abbrev pub records_at : State → List V → List (Rec V)
  records_at s vs = (round k (given_at s vs) (run_of s.program)).records

  orderly : (s : State) → Well k s → (vs : List V) → Orderly (given_at s vs)
  orderly s w vs = held_orderly V k (plan_of k s) (program_number k s) s.inbox w.lawful (given_at s vs) w.node refl

  pub read_at : (s : State) → Well k s → suits k (shown s.program) ≡ true → (vs : List V) (n : ℕ) → s.number ≢ n
      → message k (plan_of k s) (program_number k s) n (gives k s vs).1 ≡ Ok (record { sender = s.number; records = records_at s vs })
  read_at s w h vs n d =
      own_trees_read V k law (given_at s vs) (orderly s w vs) (run_of s.program) (program_number k s) n
      (few_places s.program) (light k s.program h) w.program d

  -- a round's tree, kept as the last own one, is read back at the next round
  pub read_back : (s : State) → Well k s → suits k (shown s.program) ≡ true → (vs : List V)
      → last_in k (plan_of k s) (program_number k s) s.number (gives k s vs).1 ≡ records_at s vs
  read_back s w h vs =
      ap (λ (o : Outcome (Tree V)). records_by s.number o) (read_at s w h vs (other_node s.number) (other_node_differs s.number))
      ∙ ap (λ (b : Bool). cond b (records_at s vs) []) (eq-eqb s.number s.number refl)

  pub values_at : (s : State) (b : List ℕ) (vs : List V) → readings_in k (shown s.program).header.sensors b ≡ Ok vs
      → vs ≡ values_or_none k (readings_in k (shown s.program).header.sensors b)
  values_at s b vs e = sym (ap (values_or_none k) e)

  among_read : {s t : State} {es : List (Event V)} → Turns k s es t → Well k s → (n : ℕ) → s.number ≢ n → (r : Round V) → Among r (rounds_in es)
      → (message k (plan_of k s) (program_number k s) n r.tree ≡ Ok (record { sender = s.number; records = records_of k r })) × (suits k (shown s.program) ≡ true)
  among_read over w n d r i = elim i [ ]
  among_read (more (took a) rest) w n d r i = among_read rest (well_turn k law (took a) w) n d r i
  among_read (more (went m) rest) w n d r i = among_read rest (well_turn k law (went m) w) n d r i
  among_read {s} (more (turned b vs u e) rest) w n d r this =
      (read_at s w u vs n d ∙ ap (λ (xs : List V). Ok (record { sender = s.number; records = records_at s xs })) (values_at s b vs e), u)
  among_read (more (turned b vs u e) rest) w n d r (later i) = among_read rest (well_turn k law (turned b vs u e) w) n d r i

  arrives : (p : Program) (n : ℕ) (link m : List ℕ) (v : V) (t : Tree V) → suits k (shown p) ≡ true → k.read link ≡ Some v → message k (due (run_of p) 0) (shown p).header.number n m ≡ Ok t
      → after (must (suits k (shown p)) cause.OtherKind 7) (λ _. after (allowed_link (k.read link)) (λ _. message k (due (run_of p) 0) (shown p).header.number n m)) ≡ Ok t
  arrives p n link m v t h e f =
      ap (λ (b : Bool). after (must b cause.OtherKind 7) (λ _. after (allowed_link (k.read link)) (λ _. message k (due (run_of p) 0) (shown p).header.number n m))) h
      ∙ ap (λ (o : Option V). after (allowed_link o) (λ _. message k (due (run_of p) 0) (shown p).header.number n m)) e
      ∙ f

pub own_trees_pass_lem : (V : Type 0) → OwnTreesPass V
own_trees_pass_lem V k law l c = record {
  accepted = λ r i m p n link v e.
      let x = among_read k law (turns k (start l) l.calls c.messages) (well_start k l c) m.number (λ f. n (sym f)) r i in
      let st = limits_stay_lem V k m in
      let a = arrives k law l.program m.number link r.tree v (record { sender = l.number; records = records_of k r }) x.1 e x.0 in
      subst (λ (q : Program). after (must (suits k (shown q)) cause.OtherKind 7) (λ _. after (allowed_link (k.read link)) (λ _. message k (due (run_of q) 0) (shown q).header.number (end k m).number r.tree)) ≡ Ok (record { sender = l.number; records = records_of k r })) (sym (st.program ∙ p))
      (subst (λ (q : ℕ). after (must (suits k (shown l.program)) cause.OtherKind 7) (λ _. after (allowed_link (k.read link)) (λ _. message k (due (run_of l.program) 0) (shown l.program).header.number q r.tree)) ≡ Ok (record { sender = l.number; records = records_of k r })) (sym st.number) a);
}
