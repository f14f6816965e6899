-- A line without its refused calls, and what holds of the states of a line.
use Rattle.std.proofs.Common.{◌≡◌, ℕ, ◌<◌, true, cond, ◌&&◌, leb, List, [], ◌∷◌, ◌++◌, length, take, drop, Some, None, Ok, Err, Option, sym, refl, ap, ◌∙◌, subst, arith}
use Rattle.std.specs.List.{AllByRecursion}
use Rattle.std.proofs.lemmas.List.{take_at, drop_at}
use Rattle.std.proofs.lemmas.Bool.{eq-eqb, lt-ltb}
use Rattle.refusal.specs.declared.cause.Cause.TheVariants as cause
use Rattle.refusal.specs.Outcomes.{Outcome, must}
use Rattle.refusal.proofs.Outcomes.{after_ok, must_ok, ok_same}
use Rattle.kind.specs.Kind.{Meaning}
use Rattle.kind.specs.Kind as kind
use Rattle.program.specs.declared.program.Program.{Program}
use Rattle.program.specs.Verdict.{suits}
use Rattle.program.specs.Programs.{shown, run_of}
use Rattle.record.specs.Fields.{Bytes}
use Rattle.record.specs.Headers.{most_bytes}
use Rattle.record.specs.Messages.{message}
use Rattle.record.specs.Plans.{Plan, due}
use Rattle.record.specs.Trees.{Tree}
use Rattle.record.proofs.Canonical.{read_written}
use Rattle.inbox.specs.Contents.{Item, Lawful, holding}
use Rattle.inbox.specs.Calls.{without, with_item, new_item, put_answer}
use Rattle.inbox.specs.Calls as inbox
use Rattle.inbox.proofs.Items.{admitted, free_without, lawful_without, lawful_with_item}
use Rattle.rules.specs.Held.{sender_in, sender_with}
use Rattle.rules.specs.Rules.{Sender}
use Rattle.rules.specs.Working.{readings_in, outcome_of, working_values, working_bytes}
use Rattle.trace.specs.States.{State, with_inbox, passed}
use Rattle.trace.specs.Calls.{Call, delivery, drop_of, round_on, allowed_link, arriving, deliver_answer, round_answer, put_so, passed_so, after_call}
use Rattle.trace.specs.Lines.{Event, delivered, dropped, worked, Line, start, OfBytes, Possible, delivered_so, worked_so, done_by, after_calls, history}
use Rattle.trace.proofs.Items.{all_without, all_with_item, all_aged, lawful_aged}

module _ {V : Type 0} (k : Meaning V) where
  abbrev pub plan_of : State → Plan
  plan_of s = due (run_of s.program) 0

  abbrev pub program_number : State → ℕ
  program_number s = (shown s.program).header.number

  abbrev pub gives : State → List V → V × List ℕ
  gives s vs = outcome_of k s.program s.number s.inbox.items s.last vs

  abbrev pub with_new : State → ℕ → List ℕ → State
  with_new s n x = with_inbox s (holding s.inbox (with_item (without s.inbox.items n) (new_item n x)))

  -- an accepted delivery
  pub record Taken (s : State) (n : ℕ) (link m : List ℕ) : Type 0 where
    pub value : V
    pub tree : Tree V
    pub linked : k.read link ≡ Some value
    pub reads : message k (plan_of s) (program_number s) s.number m ≡ Ok tree
    pub own : tree.sender ≡ n
    pub admits : put_answer s.inbox n (link ++ m) ≡ Ok tt
    pub bytes : Bytes m

  -- an accepted call
  pub data Turn : State → Event V → State → Type 0 where
    took : {s : State} {n : ℕ} {link m : List ℕ} → Taken s n link m → Turn s (delivered n link m) (with_new s n (link ++ m))
    went : {s : State} (n : ℕ) → Turn s (dropped n) (with_inbox s (holding s.inbox (without s.inbox.items n)))
    turned : {s : State} (b : List ℕ) (vs : List V) → suits k (shown s.program) ≡ true → readings_in k (shown s.program).header.sensors b ≡ Ok vs
        → Turn s (worked (record { found = s; readings = b; result = (gives s vs).0; tree = (gives s vs).1 })) (passed s (gives s vs).1)

  -- accepted calls one after another
  pub data Turns : State → List (Event V) → State → Type 0 where
    over : {s : State} → Turns s [] s
    more : {s t u : State} {x : Event V} {es : List (Event V)} → Turn s x t → Turns t es u → Turns s (x ∷ es) u

  -- a call is refused and leaves the state, or is a turn
  pub data Did (s : State) : List (Event V) → State → Type 0 where
    refused : Did s [] s
    did : {x : Event V} {t : State} → Turn s x t → Did s (x ∷ []) t

  unit_same : (u : Unit {0}) → u ≡ tt
  unit_same tt = refl

  link_allowed : (o : Option V) (v : V) → allowed_link o ≡ Ok v → o ≡ Some v
  link_allowed (Some w) v e = ap Some (ok_same w v e)
  link_allowed None v e = let z : ◌≡◌ {A = ℕ} 0 1 = cc in absurd (omega arith)

  deliver_did : (s : State) (link m : List ℕ) → Bytes m → (r : Outcome ℕ) → deliver_answer k s link m ≡ r → Did s (delivered_so k r link m) (put_so r s (link ++ m))
  deliver_did s link m bs (Err x) e = refused
  deliver_did s link m bs (Ok n) e =
      let a = after_ok (arriving k s link m) _ n e in
      let b = after_ok (put_answer s.inbox a.0.sender (link ++ m)) _ n a.2 in
      let c = after_ok (must (suits k (shown s.program)) cause.OtherKind 7) _ a.0 a.1 in
      let d = after_ok (allowed_link (k.read link)) _ a.0 c.2 in
      let own : a.0.sender ≡ n = ok_same _ _ b.2 in
      let put : put_answer s.inbox n (link ++ m) ≡ Ok tt = subst (λ i. put_answer s.inbox i (link ++ m) ≡ Ok tt) own (b.1 ∙ ap Ok (unit_same b.0)) in
      subst (λ (o : Outcome (Unit {0})). Did s (delivered n link m ∷ []) (with_inbox s (inbox.put_so o s.inbox n (link ++ m)))) (sym put)
      (did (took (record { value = d.0; tree = a.0; linked = link_allowed (k.read link) d.0 d.1; reads = d.2; own = own; admits = put; bytes = bs })))

  round_did : (s : State) (b : List ℕ) (values bytes output : ℕ) (r : Outcome (V × List ℕ)) → round_answer k s b values bytes output ≡ r → Did s (worked_so k r s b) (passed_so r s)
  round_did s b values bytes output (Err x) e = refused
  round_did s b values bytes output (Ok x) e =
      let a = after_ok (must (suits k (shown s.program)) cause.OtherKind 7) _ x e in
      let c = after_ok (readings_in k (shown s.program).header.sensors b) _ x a.2 in
      let d = after_ok (must (leb working_values values && leb working_bytes bytes) cause.MemoryShort 0) _ x c.2 in
      let f = after_ok (must (leb most_bytes output) cause.OutputShort 0) _ x d.2 in
      subst (λ (y : V × List ℕ). Did s (worked_so k (Ok y) s b) (passed_so {V = V} (Ok y) s)) (ok_same _ _ f.2)
      (did (turned b c.0 (must_ok _ _ _ _ a.1) c.1))

  pub each_did : (c : Call) (s : State) → OfBytes c → Did s (done_by k s c) (after_call k s c)
  each_did (delivery link m) s bs = deliver_did s link m bs _ refl
  each_did (drop_of n) s bs = did (went n)
  each_did (round_on b values bytes output) s bs = round_did s b values bytes output _ refl

  -- refused calls leave no trace
  pub turns : (s : State) (cs : List Call) → AllByRecursion OfBytes cs → Turns s (history k s cs) (after_calls k s cs)
  turns s [] h = over
  turns s (c ∷ cs) h = go (each_did c s h.0) (turns (after_call k s c) cs h.1)
    where
      go : {es : List (Event V)} {t : State} → Did s es t → Turns t (history k (after_call k s c) cs) (after_calls k (after_call k s c) cs)
          → Turns s (es ++ history k (after_call k s c) cs) (after_calls k (after_call k s c) cs)
      go refused r = r
      go (did x) r = more x r

  -- ---- what always holds
  -- an item is a link, and behind it a tree of its sender
  pub record Passes (p : Program) (me : ℕ) (i : Item) : Type 0 where
    pub value : V
    pub tree : Tree V
    pub linked : k.read (take k.width i.bytes) ≡ Some value
    pub reads : message k (due (run_of p) 0) (shown p).header.number me (drop k.width i.bytes) ≡ Ok tree
    pub own : tree.sender ≡ i.sender

  -- a round counts it
  abbrev pub sender_from : {p : Program} {me : ℕ} (i : Item) → Passes p me i → Sender V
  sender_from i h = record { number = i.sender; link = h.value; tree = h.tree.records }

  pub passes_in : {p : Program} {me : ℕ} (i : Item) (h : Passes p me i) → sender_in k (due (run_of p) 0) (shown p).header.number me i ≡ Some (sender_from i h)
  passes_in i h =
      (λ j. sender_with i.sender (h.linked j) (h.reads j))
      ∙ ap (λ b. cond b (Some (record { number = i.sender; link = h.value; tree = h.tree.records })) None) (eq-eqb h.tree.sender i.sender h.own)

  pub record Well (s : State) : Type 0 where
    pub node : s.number < 65536
    pub program : (shown s.program).header.number < 4294967296
    pub lawful : Lawful s.inbox
    pub pass : AllByRecursion (Passes s.program s.number) s.inbox.items

  module _ (law : kind.Lawful k) where
    pub link_wide : (link : List ℕ) (v : V) → k.read link ≡ Some v → length link ≡ k.width
    link_wide link v e = ap length (law.only link v e) ∙ law.long v

    passes : (s : State) (n : ℕ) (link m : List ℕ) → Taken s n link m → Passes s.program s.number (new_item n (link ++ m))
    passes s n link m a =
        let w = link_wide link a.value a.linked in
        record {
          value = a.value;
          tree = a.tree;
          linked = ap k.read (take_at link m k.width w) ∙ a.linked;
          reads = ap (message k (plan_of s) (program_number s) s.number) (drop_at link m k.width w) ∙ a.reads;
          own = a.own;
        }

    pub well_turn : {s t : State} {x : Event V} → Turn s x t → Well s → Well t
    well_turn {s} (took {n = n} {link = link} {m = m} a) w =
        let b = s.inbox in
        let i = new_item n (link ++ m) in
        let ad = admitted b n (link ++ m) w.lawful a.admits in
        let can = read_written k law (plan_of s) (program_number s) s.number m a.tree a.bytes a.reads in
        record {
          node = w.node;
          program = w.program;
          lawful = lawful_with_item (holding b (without b.items n)) i (lawful_without b n w.lawful) (free_without b.items n)
              (subst (λ c. c < 65536) a.own can.small) ad.few ad.short (lt-ltb 0 b.life (omega (arith, w.lawful.lives))) ad.room;
          pass = all_with_item (Passes s.program s.number) (without b.items n) i (passes s n link m a) (all_without (Passes s.program s.number) b.items n w.pass);
        }
    well_turn {s} (went n) w = record {
      node = w.node;
      program = w.program;
      lawful = lawful_without s.inbox n w.lawful;
      pass = all_without (Passes s.program s.number) s.inbox.items n w.pass;
    }
    well_turn {s} (turned b vs u e) w = record {
      node = w.node;
      program = w.program;
      lawful = lawful_aged s.inbox w.lawful;
      pass = all_aged (Passes s.program s.number) (Passes s.program s.number) s.inbox.life
          (λ i h y. record { value = h.value; tree = h.tree; linked = h.linked; reads = h.reads; own = h.own }) s.inbox.items w.pass;
    }

    pub well_end : {s t : State} {es : List (Event V)} → Turns s es t → Well s → Well t
    well_end over w = w
    well_end (more x r) w = well_end r (well_turn x w)

  pub well_start : (l : Line) → Possible l → Well (start l)
  well_start l c = record {
    node = c.node;
    program = c.program;
    lawful = record {
      some = c.inbox.some;
      most = c.inbox.most;
      lives = c.inbox.lives;
      short = c.inbox.short;
      few = omega arith;
      rising = tt;
      numbers = tt;
      fits = tt;
      young = tt;
      within = omega arith;
    };
    pass = tt;
  }
