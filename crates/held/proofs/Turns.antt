-- Loading over the held senders, turn by turn.
use Rattle.std.proofs.Common.{◌≡◌, ℕ, suc, ◌+◌, ◌*◌, ◌<◌, ◌≤◌, List, [], ◌∷◌, ◌++◌, length, get_or, take, drop, Some, None, Option, sym, refl, ap, ◌∙◌, subst, arith}
use Rattle.std.specs.List.{AllByRecursion}
use Rattle.std.proofs.ByRecursion.{All-weaker, All-get_or, All-from_get_or}
use Rattle.std.proofs.lemmas.List.{drop_more, length-take-le, take_all, take_at, take_more}
use Rattle.kind.specs.Kind.{Meaning}
use Rattle.program.specs.declared.program.Program.{Program}
use Rattle.program.specs.Programs.{shown, run_of}
use Rattle.record.specs.Plans.{due}
use Rattle.inbox.specs.Contents.{Item, Contents, Lawful, Rising, longest_item}
use Rattle.inbox.specs.Calls.{next_sender, bytes_of, at_front}
use Rattle.inbox.specs.Search.{LowerBound, no_item}
use Rattle.inbox.proofs.Items.{finds_some, rising_below, split_row}
use Rattle.inbox.proofs.Ascending.{bound_found, bound_done, bound_step, bound_last}
use Rattle.rules.specs.Held.{before, sender_in, held_in}
use Rattle.rules.specs.Rules.{Sender}
use Rattle.held.specs.declared.slots.Slots.{Slots}
use Rattle.held.specs.Slots.{Loaded}
use Rattle.held.specs.Loading.{ReadsItem, sender_of_bytes, Keeps}
use Rattle.held.proofs.Reading.{part_below}

module _ {V : Type 0} (k : Meaning V) (p : Program) (me : ℕ) where
  -- the senders among some items
  abbrev pub held_of : List Item → List (Sender V)
  held_of is = held_in k (due (run_of p) 0) (shown p).header.number me is

  abbrev pub sender_of_item : Item → Option (Sender V)
  sender_of_item i = sender_in k (due (run_of p) 0) (shown p).header.number me i

  -- the items before the sender `from` are passed, and the slots hold the senders among them
  pub record Sofar (is : List Item) (bytes : List ℕ) (s : Slots) (from : ℕ) : Type 0 where
    pub passed : ℕ
    pub bound : LowerBound is from passed
    pub loaded : Loaded k p me bytes s (held_of (take passed is))

  held_more : (is : List Item) (i : Item) → held_of (is ++ i ∷ []) ≡ held_of is ++ before (sender_of_item i) []
  held_more [] i = refl
  held_more (j ∷ is) i = go (sender_of_item j) (held_more is i)
    where
      go : (o : Option (Sender V)) → held_of (is ++ i ∷ []) ≡ held_of is ++ before (sender_of_item i) [] → before o (held_of (is ++ i ∷ [])) ≡ before o (held_of is) ++ before (sender_of_item i) []
      go None e = e
      go (Some s) e = ap (λ l. s ∷ l) e

  few_held : (is : List Item) → length (held_of is) ≤ length is
  few_held [] = omega arith
  few_held (i ∷ is) = go (sender_of_item i) (few_held is)
    where
      go : (o : Option (Sender V)) → length (held_of is) ≤ length is → length (before o (held_of is)) ≤ length (i ∷ is)
      go None h = omega (arith, h)
      go (Some s) h = omega (arith, h)

  pub sofar_start : (is : List Item) (bytes : List ℕ) (s : Slots) → s.count ≡ 0 → Sofar is bytes s 0
  sofar_start is bytes s e = record {
    passed = 0;
    bound = record { in_range = omega arith; below = tt; above = All-from_get_or (λ (x : Item). 0 ≤ x.sender) is no_item (λ i h. omega arith) };
    loaded = record { many = sym e; slots = λ j d l. absurd (omega arith); fits = λ j l. absurd (omega arith) };
  }

module _ {V : Type 0} {k : Meaning V} {p : Program} {me : ℕ} {c : Contents} (ok : Lawful c) {old : List ℕ} {t : Slots} {from : ℕ} (h : Sofar k p me c.items old t from) where
  -- no sender is left
  pub sofar_done : next_sender c.items from ≡ None → Loaded k p me old t (held_of k p me c.items)
  sofar_done e =
      let all = bound_done c.items from h.passed h.bound e in
      subst (λ is. Loaded k p me old t (held_of k p me is)) (take_all h.passed c.items (omega arith)) h.loaded

  module _ {s : ℕ} (e : next_sender c.items from ≡ Some s) where
    found : (h.passed < length c.items) × ((get_or c.items h.passed no_item).sender ≡ s)
    found = bound_found c.items from h.passed h.bound s e

    -- there is a free slot
    pub sofar_free : t.count < 16
    sofar_free =
        let f = found.0 in
        let long = length-take-le h.passed c.items (omega arith) in
        let less = few_held k p me (take h.passed c.items) in
        let many = h.loaded.many in
        let a = ok.few in
        let b = ok.most in
        omega arith

    -- the senders rise
    pub sofar_rises : (from ≤ s) × (s < 65536)
    sofar_rises =
        let here = found.1 in
        let up = (subst (AllByRecursion (λ (x : Item). from ≤ x.sender)) (drop_more c.items h.passed no_item found.0) h.bound.above).0 in
        let small = All-get_or (λ (x : Item). x.sender < 65536) c.items h.passed no_item found.0 ok.numbers in
        (omega arith, omega arith)

    its_bytes : bytes_of c.items s ≡ Some (get_or c.items h.passed no_item).bytes
    its_bytes =
        let i : Item = get_or c.items h.passed no_item in
        let low = rising_below (take h.passed c.items) (drop (suc h.passed) c.items) i (subst Rising (split_row c.items h.passed no_item found.0) ok.rising) in
        let here = found.1 in
        (finds_some c.items s h.passed no_item ok.rising found.0
        (All-weaker (λ x. x.sender < i.sender) (λ x. x.sender ≡ s → ⊥) (λ x l q. omega arith) (take h.passed c.items) low) here).read no_item

    module _ (room : 33024 ≤ length old) {new : List ℕ} {n : ℕ} (reads : ReadsItem c s (t.count * longest_item) old new n) where
      -- the slots below hold what they held
      kept : take (t.count * longest_item) new ≡ take (t.count * longest_item) old
      kept =
          let free = sofar_free in
          ap (take (t.count * longest_item)) reads.bytes
          ∙ take_at (take (t.count * longest_item) old) (at_front (bytes_of c.items s) (drop (t.count * longest_item) old)) (t.count * longest_item) (length-take-le (t.count * longest_item) old (omega arith))

      loaded_kept : (ss : List (Sender V)) → Loaded k p me old t ss → Loaded k p me new t ss
      loaded_kept ss l = record {
        many = l.many;
        slots = λ j d b.
            ap (λ (x : List ℕ). sender_of_bytes k p me (get_or t.numbers j 0) x) (part_below (t.count * longest_item) (j * longest_item) (get_or t.lengths j 0) new old (let f = l.fits j b in omega arith) kept)
            ∙ l.slots j d b;
        fits = l.fits;
      }

      module _ {u : Slots} (keeps : Keeps k p me new t s n u) where
        passed_more : Loaded k p me new u (held_of k p me (take (h.passed + 1) c.items))
        passed_more =
            let i : Item = get_or c.items h.passed no_item in
            let before-it : List Item = take h.passed c.items in
            subst (Loaded k p me new u)
            (ap (λ (x : List ℕ). held_of k p me before-it ++ before (sender_of_bytes k p me s x) []) (reads.item i.bytes its_bytes)
            ∙ ap (λ (m : ℕ). held_of k p me before-it ++ before (sender_of_bytes k p me m i.bytes) []) (sym found.1)
            ∙ sym (held_more k p me before-it i)
            ∙ ap (held_of k p me) (sym (take_more c.items h.passed no_item found.0)))
            (keeps.loaded (held_of k p me before-it) (loaded_kept (held_of k p me before-it) h.loaded))

        pub sofar_again : (next : ℕ) → next ≡ s + 1 → Sofar k p me c.items new u next
        sofar_again next z = subst (Sofar k p me c.items new u) (sym z) (record {
          passed = h.passed + 1;
          bound = bound_step c.items from h.passed h.bound s ok.rising e;
          loaded = passed_more;
        })

        -- the sender is the last that there can be
        pub sofar_last : s ≡ 65535 → Loaded k p me new u (held_of k p me c.items)
        sofar_last z =
            let all = bound_last c.items from h.passed h.bound s ok.rising e ok.numbers z in
            subst (λ is. Loaded k p me new u (held_of k p me is)) (take_all (h.passed + 1) c.items (omega arith)) passed_more
