-- Who is held at the end of a line, and with what.
use Rattle.std.proofs.Common.{◌≡◌, ℕ, ◌+◌, ◌<◌, ◌≤◌, Bool, true, false, cond, eqb, ◌⊎◌, List, [], ◌∷◌, ◌++◌, map, length, take, drop, is_some, Some, None, Option, sym, refl, ap, ◌∙◌, subst, inl, inr, ⊎_elim, arith}
use Rattle.std.specs.List.{AllByRecursion}
use Rattle.std.proofs.ByRecursion.{All-weaker}
use Rattle.std.proofs.lemmas.List.{take_at, drop_at}
use Rattle.std.proofs.lemmas.Bool.{cases_Bool, eqb-true, eqb-false, eq-eqb, ne_eqb, ltb-true, lt-ltb}
use Rattle.kind.specs.Kind.{Meaning, Lawful}
use Rattle.program.specs.declared.program.Program.{Program}
use Rattle.program.specs.Programs.{shown, run_of}
use Rattle.record.specs.Messages.{message}
use Rattle.record.specs.Plans.{due}
use Rattle.inbox.specs.Contents.{Item, lasts}
use Rattle.inbox.specs.Calls.{without, with_item, new_item, bytes_of}
use Rattle.rules.specs.Held.{held_in, before}
use Rattle.rules.specs.Rules.{Sender, senders}
use Rattle.trace.specs.States.{State}
use Rattle.trace.specs.Lines.{Event, delivered, dropped, worked, rounds_in, Line, start, Possible, end, events}
use Rattle.trace.specs.Promises.{Quiet, still, other_delivered, other_dropped, round_went, Latest, counts, sender_of, held_of, HeldWith, HeldExactly, LatestDeliveriesHeld}
use Rattle.trace.proofs.Items.{look, pass, bytes_in, look_bytes, look_without, look_with, look_aged}
use Rattle.trace.proofs.Turns.{took, went, turned, Turns, over, more, turns, Passes, sender_from, passes_in, Well, well_turn, well_end, well_start, link_wide}

-- what is known of a sender: link and message of its latest delivery, and how many rounds went since
record Known : Type 0 where
  link : List ℕ
  message : List ℕ
  age : ℕ

abbrev Memory : Type 0
Memory = Option Known

abbrev known : List ℕ → List ℕ → ℕ → Memory
known link m a = Some (record { link = link; message = m; age = a })

abbrev aging : ℕ → Memory → Memory
aging life None = None
aging life (Some x) = cond (lasts life (x.age + 1)) (known x.link x.message (x.age + 1)) None

some_same : {x y : Known} → Some x ≡ Some y → x ≡ y
some_same e = cc

-- the item that it stands for
abbrev as_item : ℕ → Memory → Option Item
as_item n None = None
as_item n (Some x) = Some (record { sender = n; age = x.age; bytes = x.link ++ x.message })

item_aging : (life n : ℕ) (o : Memory) → pass life (as_item n o) ≡ as_item n (aging life o)
item_aging life n None = refl
item_aging life n (Some x) = go (lasts life (x.age + 1))
  where
    go : (b : Bool) → cond b (Some (record { sender = n; age = x.age + 1; bytes = x.link ++ x.message })) None ≡ as_item n (cond b (known x.link x.message (x.age + 1)) None)
    go true = refl
    go false = refl

abbrev Fine : ℕ → Memory → Type 0
Fine life o = (x : Known) → o ≡ Some x → x.age < life

nobody : {A : Type 0} (x : Known) → None ≡ Some x → A
nobody x e = absurd (let c : ◌≡◌ {A = ℕ} 0 1 = cc in let y : ⊥ = omega arith in y)

fine_aging : (life : ℕ) (o : Memory) → Fine life (aging life o)
fine_aging life None x e = nobody x e
fine_aging life (Some z) x e = ⊎_elim
    (λ (t : lasts life (z.age + 1) ≡ true). let u : known z.link z.message (z.age + 1) ≡ Some x = rw t at e in
    let v : z.age + 1 ≡ x.age = cc in omega (arith, ltb-true (z.age + 1) life t))
    (λ (t : lasts life (z.age + 1) ≡ false). let u : None ≡ Some x = rw t at e in nobody x u)
    (cases_Bool (lasts life (z.age + 1)))

was_younger : (life : ℕ) (o : Memory) (link m : List ℕ) (a : ℕ) → aging life o ≡ known link m a → (b : ℕ) × (o ≡ known link m b) × (a ≡ b + 1)
was_younger life None link m a e = nobody _ e
was_younger life (Some z) link m a e = ⊎_elim
    (λ (t : lasts life (z.age + 1) ≡ true). let u : known z.link z.message (z.age + 1) ≡ known link m a = rw t at e in
    let i = some_same u in
    let v : z.age + 1 ≡ a = ap (λ (q : Known). q.age) i in
    let w : z.link ≡ link = ap (λ (q : Known). q.link) i in
    let x : z.message ≡ m = ap (λ (q : Known). q.message) i in
    (z.age, (λ j. known (w j) (x j) z.age), sym v))
    (λ (t : lasts life (z.age + 1) ≡ false). let u : None ≡ known link m a = rw t at e in nobody _ u)
    (cases_Bool (lasts life (z.age + 1)))

module _ {V : Type 0} where
  module _ (life n : ℕ) where
    abbrev recall : Memory → List (Event V) → Memory
    recall o [] = o
    recall o (delivered s link m ∷ es) = recall (cond (eqb s n) (known link m 0) o) es
    recall o (dropped s ∷ es) = recall (cond (eqb s n) None o) es
    recall o (worked r ∷ es) = recall (aging life o) es

    recall_append : (o : Memory) (es fs : List (Event V)) → recall o (es ++ fs) ≡ recall (recall o es) fs
    recall_append o [] fs = refl
    recall_append o (delivered s link m ∷ es) fs = recall_append (cond (eqb s n) (known link m 0) o) es fs
    recall_append o (dropped s ∷ es) fs = recall_append (cond (eqb s n) None o) es fs
    recall_append o (worked r ∷ es) fs = recall_append (aging life o) es fs

    recall_quiet : (link m : List ℕ) (a : ℕ) {es : List (Event V)} → Quiet n es → a + length (rounds_in es) < life → (b : ℕ) × (recall (known link m a) es ≡ known link m b)
    recall_quiet link m a still h = (a, refl)
    recall_quiet link m a (other_delivered {s = s} d q) h = rw (ne_eqb s n d) (recall_quiet link m a q h)
    recall_quiet link m a (other_dropped {s = s} d q) h = rw (ne_eqb s n d) (recall_quiet link m a q h)
    recall_quiet link m a (round_went {es = es} q) h =
        let l : a + 1 < life = omega arith in
        rw (lt-ltb (a + 1) life l) (recall_quiet link m (a + 1) q (omega arith))

    -- what is remembered to the end was there at the beginning, and nothing came between
    record Since (o : Memory) (link m : List ℕ) (es : List (Event V)) : Type 0 where
      age : ℕ
      was : o ≡ known link m age
      quiet : Quiet n es
      young : age + length (rounds_in es) < life

    latest_more : (x : Event V) {link m : List ℕ} {es : List (Event V)} → Latest life n link m es → Latest life n link m (x ∷ es)
    latest_more x h = record { before = x ∷ h.before; since = h.since; whole = ap (λ l. x ∷ l) h.whole; quiet = h.quiet; young = h.young }

    found : 1 ≤ life → (es : List (Event V)) (o : Memory) (x : Known) → Fine life o → recall o es ≡ Some x → Latest life n x.link x.message es ⊎ Since o x.link x.message es
    found some [] o x h e = inr (record { age = x.age; was = e; quiet = still; young = omega (arith, h x e) })
    found some (delivered s link m ∷ es) o x h e = ⊎_elim
        (λ (t : eqb s n ≡ true). ⊎_elim
        (λ l. inl (latest_more (delivered s link m) l))
        (λ (z : Since (known link m 0) x.link x.message es).
        let w = some_same z.was in
        let a : link ≡ x.link = ap (λ (q : Known). q.link) w in
        let b : m ≡ x.message = ap (λ (q : Known). q.message) w in
        let c : ◌≡◌ {A = ℕ} 0 z.age = ap (λ (q : Known). q.age) w in
        let d = eqb-true s n t in
        inl (record { before = []; since = es; whole = (λ j. delivered (d j) (a j) (b j) ∷ es); quiet = z.quiet; young = let y = z.young in omega arith }))
        (found some es (known link m 0) x (λ y u. let a : ◌≡◌ {A = ℕ} 0 y.age = cc in omega arith) (rw t at e)))
        (λ (t : eqb s n ≡ false). ⊎_elim
        (λ l. inl (latest_more (delivered s link m) l))
        (λ (z : Since o x.link x.message es). inr (record { age = z.age; was = z.was; quiet = other_delivered (eqb-false s n t) z.quiet; young = z.young }))
        (found some es o x h (rw t at e)))
        (cases_Bool (eqb s n))
    found some (dropped s ∷ es) o x h e = ⊎_elim
        (λ (t : eqb s n ≡ true). ⊎_elim
        (λ l. inl (latest_more (dropped s) l))
        (λ (z : Since None x.link x.message es). nobody _ z.was)
        (found some es None x (λ y u. nobody y u) (rw t at e)))
        (λ (t : eqb s n ≡ false). ⊎_elim
        (λ l. inl (latest_more (dropped s) l))
        (λ (z : Since o x.link x.message es). inr (record { age = z.age; was = z.was; quiet = other_dropped (eqb-false s n t) z.quiet; young = z.young }))
        (found some es o x h (rw t at e)))
        (cases_Bool (eqb s n))
    found some (worked r ∷ es) o x h e = ⊎_elim
        (λ l. inl (latest_more (worked r) l))
        (λ (z : Since (aging life o) x.link x.message es).
        let b = was_younger life o x.link x.message z.age z.was in
        let c = b.2 in
        let y = z.young in
        inr (record { age = b.0; was = b.1; quiet = round_went z.quiet; young = omega arith }))
        (found some es (aging life o) x (fine_aging life o) e)

    remembered : 1 ≤ life → (es : List (Event V)) (x : Known) → recall None es ≡ Some x → Latest life n x.link x.message es
    remembered some es x e = ⊎_elim
        (λ l. l)
        (λ (z : Since None x.link x.message es). nobody _ z.was)
        (found some es None x (λ y u. nobody y u) e)

    recalled : (es : List (Event V)) (link m : List ℕ) → Latest life n link m es → (b : ℕ) × (recall None es ≡ known link m b)
    recalled es link m h =
        let q = recall_quiet link m 0 h.quiet (let y = h.young in omega arith) in
        (q.0, ap (recall None) h.whole ∙ recall_append None h.before (delivered n link m ∷ h.since) ∙ rw (eq-eqb n n refl) q.1)

-- the inbox remembers so
put_look : (n s : ℕ) (link m : List ℕ) (is : List Item) (o : Memory) → look n is ≡ as_item n o
    → look n (with_item (without is s) (new_item s (link ++ m))) ≡ as_item n (cond (eqb s n) (known link m 0) o)
put_look n s link m is o h =
    look_with n (without is s) (new_item s (link ++ m))
    ∙ ap (λ (z : Option Item). cond (eqb s n) (Some (new_item s (link ++ m))) z) (look_without n s is ∙ ap (λ (z : Option Item). cond (eqb s n) None z) h)
    ∙ go (eqb s n) refl
  where
    go : (b : Bool) → eqb s n ≡ b → cond b (Some (new_item s (link ++ m))) (cond b None (as_item n o)) ≡ as_item n (cond b (known link m 0) o)
    go true e = ap (λ (i : ℕ). Some (new_item i (link ++ m))) (eqb-true s n e)
    go false e = refl

drop_look : (n s : ℕ) (is : List Item) (o : Memory) → look n is ≡ as_item n o → look n (without is s) ≡ as_item n (cond (eqb s n) None o)
drop_look n s is o h = look_without n s is ∙ ap (λ (z : Option Item). cond (eqb s n) None z) h ∙ go (eqb s n)
  where
    go : (b : Bool) → cond b None (as_item n o) ≡ as_item n (cond b None o)
    go true = refl
    go false = refl

abbrev Wide : {V : Type 0} → ℕ → Event V → Type 0
Wide w (delivered s link m) = length link ≡ w
Wide w (dropped s) = Unit {0}
Wide w (worked r) = Unit {0}

all_here : {X : Type 0} (P : X → Type 0) (p q : List X) (x : X) → AllByRecursion P (p ++ x ∷ q) → P x
all_here P [] q x h = h.0
all_here P (i ∷ p) q x h = all_here P p q x h.1

module _ {V : Type 0} (k : Meaning V) (law : Lawful k) where
  run_look : (n : ℕ) {s t : State} {es : List (Event V)} (o : Memory) → Turns k s es t → Well k s → look n s.inbox.items ≡ as_item n o
      → look n t.inbox.items ≡ as_item n (recall s.inbox.life n o es)
  run_look n o over w h = h
  run_look n {s} o (more (took {n = i} {link = link} {m = m} a) r) w h =
      run_look n (cond (eqb i n) (known link m 0) o) r (well_turn k law (took a) w) (put_look n i link m s.inbox.items o h)
  run_look n {s} o (more (went i) r) w h =
      run_look n (cond (eqb i n) None o) r (well_turn k law (went i) w) (drop_look n i s.inbox.items o h)
  run_look n {s} o (more (turned b vs u e) r) w h =
      run_look n (aging s.inbox.life o) r (well_turn k law (turned b vs u e) w)
      (look_aged s.inbox.life n s.inbox.items w.lawful.rising ∙ ap (pass s.inbox.life) h ∙ item_aging s.inbox.life n o)

  all_wide : {s t : State} {es : List (Event V)} → Turns k s es t → AllByRecursion (Wide k.width) es
  all_wide over = tt
  all_wide (more (took {link = link} a) r) = (link_wide k law link a.value a.linked, all_wide r)
  all_wide (more (went i) r) = (tt, all_wide r)
  all_wide (more (turned b vs u e) r) = (tt, all_wide r)

  latest_wide : {s t : State} {es : List (Event V)} (life n : ℕ) (link m : List ℕ) → Turns k s es t → Latest life n link m es → length link ≡ k.width
  latest_wide life n link m r h = all_here (Wide k.width) h.before h.since (delivered n link m) (subst (AllByRecursion (Wide k.width)) h.whole (all_wide r))

  -- ---- what a round counts
  module _ (p : Program) (me : ℕ) where
    abbrev all_held : List Item → List (Sender V)
    all_held is = held_in k (due (run_of p) 0) (shown p).header.number me is

    passes_counted : (is : List Item) → AllByRecursion (Passes k p me) is → senders (all_held is) ≡ map sender_of is
    passes_counted [] h = refl
    passes_counted (i ∷ is) h =
        ap (λ (o : Option (Sender V)). senders (before o (all_held is))) (passes_in k i h.0)
        ∙ ap (λ (l : List ℕ). i.sender ∷ l) (passes_counted is h.1)

    -- the item of n, and what a round holds of n
    record Seen (n : ℕ) (is : List Item) (i : Item) : Type 0 where
      pass : Passes k p me i
      own : i.sender ≡ n
      held : held_of n (all_held is) ≡ Some (sender_from k i pass)

    seen : (n : ℕ) (is : List Item) → AllByRecursion (Passes k p me) is → (i : Item) → look n is ≡ Some i → Seen n is i
    seen n [] h i e = absurd (let z : ◌≡◌ {A = ℕ} 0 1 = cc in let y : ⊥ = omega arith in y)
    seen n (j ∷ is) h i e = ⊎_elim
        (λ (t : eqb j.sender n ≡ true). let u : Some j ≡ Some i = rw t at e in let v : j ≡ i = cc in
        subst (Seen n (j ∷ is)) v (record {
          pass = h.0;
          own = eqb-true j.sender n t;
          held = ap (λ (o : Option (Sender V)). held_of n (before o (all_held is))) (passes_in k j h.0) ∙ ap (λ (b : Bool). cond b (Some (sender_from k j h.0)) (held_of n (all_held is))) t;
        }))
        (λ (t : eqb j.sender n ≡ false).
        let r = seen n is h.1 i (rw t at e) in
        record {
          pass = r.pass;
          own = r.own;
          held = ap (λ (o : Option (Sender V)). held_of n (before o (all_held is))) (passes_in k j h.0) ∙ ap (λ (b : Bool). cond b (Some (sender_from k j h.0)) (held_of n (all_held is))) t ∙ r.held;
        })
        (cases_Bool (eqb j.sender n))

  module _ (l : Line) (c : Possible l) where
    run : Turns k (start l) (events k l) (end k l)
    run = turns k (start l) l.calls c.messages

    end_look : (n : ℕ) → look n (end k l).inbox.items ≡ as_item n (recall l.inbox.life n None (events k l))
    end_look n = run_look n None run (well_start k l c) refl

    end_bytes : (n : ℕ) → bytes_of (end k l).inbox.items n ≡ bytes_in (as_item n (recall l.inbox.life n None (events k l)))
    end_bytes n = look_bytes n (end k l).inbox.items ∙ ap bytes_in (end_look n)

    -- bytes of an item are link and message in one way only
    one_way : (n : ℕ) (link m : List ℕ) (o : Memory) → recall l.inbox.life n None (events k l) ≡ o → length link ≡ k.width → bytes_in (as_item n o) ≡ Some (link ++ m) → Latest l.inbox.life n link m (events k l)
    one_way n link m None e w h = absurd (let z : ◌≡◌ {A = ℕ} 0 1 = cc in let y : ⊥ = omega arith in y)
    one_way n link m (Some x) e w h =
        let a = remembered l.inbox.life n c.inbox.lives (events k l) x e in
        let v = latest_wide l.inbox.life n x.link x.message run a in
        let b : x.link ++ x.message ≡ link ++ m = cc in
        let s : x.link ≡ link = sym (take_at x.link x.message k.width v) ∙ ap (take k.width) b ∙ take_at link m k.width w in
        let t : x.message ≡ m = sym (drop_at x.link x.message k.width v) ∙ ap (drop k.width) b ∙ drop_at link m k.width w in
        subst (λ y. Latest l.inbox.life n y m (events k l)) s (subst (λ y. Latest l.inbox.life n x.link y (events k l)) t a)

    well : Well k (end k l)
    well = well_end k law run (well_start k l c)

    is_held : (n : ℕ) (link m : List ℕ) → Latest l.inbox.life n link m (events k l) → HeldWith k (end k l) n link m
    is_held n link m h =
        let x = recalled l.inbox.life n (events k l) link m h in
        let w = latest_wide l.inbox.life n link m run h in
        let i : Item = record { sender = n; age = x.0; bytes = link ++ m } in
        let e : look n (end k l).inbox.items ≡ Some i = end_look n ∙ ap (as_item n) x.1 in
        let y = seen (end k l).program (end k l).number n (end k l).inbox.items well.pass i e in
        record {
          item = look_bytes n (end k l).inbox.items ∙ ap bytes_in e;
          value = y.pass.value;
          tree = y.pass.tree;
          linked = ap k.read (sym (take_at link m k.width w)) ∙ y.pass.linked;
          reads = ap (message k (due (run_of (end k l).program) 0) (shown (end k l).program).header.number (end k l).number) (sym (drop_at link m k.width w)) ∙ y.pass.reads;
          own = y.pass.own;
          held = y.held;
        }

    pub held_exactly : HeldExactly k l
    held_exactly = record {
      only = λ n link m h. one_way n link m _ refl (link_wide k law link h.value h.linked) (sym (end_bytes n) ∙ h.item);
      always = is_held;
      counted = All-weaker (Passes k (end k l).program (end k l).number) (λ i. counts k (end k l) i ≡ true) (λ i p. ap (is_some {T = Sender V}) (passes_in k i p)) (end k l).inbox.items well.pass;
      same_senders = passes_counted (end k l).program (end k l).number (end k l).inbox.items well.pass;
    }

pub latest_deliveries_held : (V : Type 0) → LatestDeliveriesHeld V
latest_deliveries_held V k law l c = held_exactly k law l c
