-- Which items count, and the slots with one item more.
use Rattle.std.proofs.Common.{◌≡◌, ℕ, ◌+◌, ◌*◌, ◌<◌, ◌≤◌, Bool, true, false, cond, eqb, List, [], ◌∷◌, ◌++◌, get_or, take, drop, set, is_some, Some, None, Ok, Err, Option, sym, refl, ap, ◌∙◌, subst, ⊎_elim, arith}
use Rattle.std.proofs.lemmas.Bool.{cases_lt, true≢false, false≢true}
use Rattle.std.proofs.lemmas.List.{append-nil, length_push, get_or_push, get_or_append_left, get_or-set_same, get_or-set_other}
use Rattle.std.specs.Result.{result_eq}
use Rattle.refusal.specs.declared.cause.Cause.TheVariants.{OtherKind}
use Rattle.refusal.specs.declared.refused.Refusal.{Refusal}
use Rattle.refusal.specs.Outcomes.{Outcome, after, must, mapped}
use Rattle.kind.specs.Kind.{Meaning}
use Rattle.program.specs.declared.program.Program.{Program}
use Rattle.program.specs.Programs.{shown, run_of}
use Rattle.program.specs.Verdict.{suits}
use Rattle.record.specs.Fields.{part}
use Rattle.record.specs.Messages.{message}
use Rattle.record.specs.Plans.{due}
use Rattle.record.specs.Trees.{Tree}
use Rattle.inbox.specs.Contents.{longest_item}
use Rattle.rules.specs.Held.{sender_with, before}
use Rattle.rules.specs.Rules.{Sender}
use Rattle.tree.specs.Trees.{tree_in, sender_of}
use Rattle.held.specs.declared.slots.Slots.{Slots}
use Rattle.held.specs.Slots.{Loaded}
use Rattle.held.specs.Loading.{sender_of_bytes, is_held, Keeps}

some_if : {A : Type 0} (b : Bool) (a : A) → is_some (cond b (Some a) None) ≡ b
some_if true a = refl
some_if false a = refl

none_is : {A : Type 0} (o : Option A) → is_some o ≡ false → o ≡ None
none_is None e = refl
none_is (Some a) e = absurd (true≢false e)

some_is : {A : Type 0} (o : Option A) → is_some o ≡ true → (a : A) × (o ≡ Some a)
some_is None e = absurd (false≢true e)
some_is (Some a) e = (a, refl)

module _ {V : Type 0} (k : Meaning V) where
  module _ (same : Refusal → Refusal → Bool) where
    from_sender : (s : ℕ) (v : Option V) (t : Outcome (Tree V)) → is_some v ≡ true → result_eq eqb same (mapped sender_of t) (Ok s) ≡ is_some (sender_with s v t)
    from_sender s None t e = absurd (cc)
    from_sender s (Some v) (Err r) e = refl
    from_sender s (Some v) (Ok t) e = sym (some_if (eqb t.sender s) _)

    -- an item with a link is its sender's where its message is read with this answer
    pub held_by_answers : (p : Program) (me s : ℕ) (x link rest : List ℕ) (w : ℕ) → w ≡ k.width → link ≡ take w x → rest ≡ drop w x → suits k (shown p) ≡ true
        → (v : Option V) (r : Outcome ℕ) → v ≡ k.read link → r ≡ mapped sender_of (tree_in k p me rest) → is_some v ≡ true
        → result_eq eqb same r (Ok s) ≡ is_held k p me s x
    held_by_answers p me s x link rest w e el er fit v r f g h =
        let body : List ℕ → Outcome (Tree V) = λ m. message k (due (run_of p) 0) (shown p).header.number me m in
        let read : v ≡ k.read (take k.width x) = f ∙ ap k.read (el ∙ ap (λ n. take n x) e) in
        let told : r ≡ mapped sender_of (body (drop k.width x)) =
        g ∙ ap (λ m. mapped sender_of (tree_in k p me m)) (er ∙ ap (λ n. drop n x) e)
        ∙ ap (λ b. mapped sender_of (after (must b OtherKind 7) (λ _. body (drop k.width x)))) fit in
        ap (λ q. result_eq eqb same q (Ok s)) told ∙ from_sender s v (body (drop k.width x)) h ∙ ap (λ o. is_some (sender_with s o (body (drop k.width x)))) read

  module _ (p : Program) (me : ℕ) (bytes : List ℕ) (s : Slots) (sender n : ℕ) where
    -- the sender in slot j under a number, of so many bytes
    abbrev at_slot : ℕ → ℕ → ℕ → Option (Sender V)
    at_slot j number size = sender_of_bytes k p me number (part bytes (j * longest_item) size)

    pub keeps_none : is_held k p me sender (part bytes (s.count * longest_item) n) ≡ false → Keeps k p me bytes s sender n s
    keeps_none e = record {
      loaded = λ ss h. subst (Loaded k p me bytes s) (sym (ap (λ o. ss ++ before o []) (none_is _ e) ∙ append-nil ss)) h;
    }

    pub keeps_one : is_held k p me sender (part bytes (s.count * longest_item) n) ≡ true → s.count < 16 → n ≤ longest_item
        → (t : Slots) → t.numbers ≡ set s.numbers s.count sender → t.lengths ≡ set s.lengths s.count n → t.count ≡ s.count + 1 → Keeps k p me bytes s sender n t
    keeps_one e free short t en el ec = record {
      loaded = λ ss h. subst (λ o. Loaded k p me bytes t (ss ++ before o [])) (sym found.1) (more ss h);
    }
      where
        found : (a : Sender V) × (sender_of_bytes k p me sender (part bytes (s.count * longest_item) n) ≡ Some a)
        found = some_is _ e

        number_old : (j : ℕ) → j < s.count → get_or t.numbers j 0 ≡ get_or s.numbers j 0
        number_old j l = ap (λ (xs : List ℕ). get_or xs j 0) en ∙ get_or-set_other s.numbers s.count j sender 0 (λ q. omega arith)

        length_old : (j : ℕ) → j < s.count → get_or t.lengths j 0 ≡ get_or s.lengths j 0
        length_old j l = ap (λ (xs : List ℕ). get_or xs j 0) el ∙ get_or-set_other s.lengths s.count j n 0 (λ q. omega arith)

        number_new : get_or t.numbers s.count 0 ≡ sender
        number_new = let i = s.numbered in ap (λ (xs : List ℕ). get_or xs s.count 0) en ∙ get_or-set_same s.numbers s.count sender 0 (omega arith)

        length_new : get_or t.lengths s.count 0 ≡ n
        length_new = let i = s.measured in ap (λ (xs : List ℕ). get_or xs s.count 0) el ∙ get_or-set_same s.lengths s.count n 0 (omega arith)

        more : (ss : List (Sender V)) → Loaded k p me bytes s ss → Loaded k p me bytes t (ss ++ found.0 ∷ [])
        more ss h = record {
          many = length_push ss found.0 ∙ ap (λ i. i + 1) h.many ∙ sym ec;
          slots = λ j d l. ⊎_elim
              (λ (b : j < s.count).
              ap (λ i. at_slot j i (get_or t.lengths j 0)) (number_old j b) ∙ ap (at_slot j (get_or s.numbers j 0)) (length_old j b)
              ∙ h.slots j d b ∙ ap Some (sym (get_or_append_left ss (found.0 ∷ []) d j (let m = h.many in omega arith))))
              (λ (b : s.count ≤ j).
              let at : s.count ≡ j = omega arith in
              subst (λ i. at_slot i (get_or t.numbers i 0) (get_or t.lengths i 0) ≡ Some (get_or (ss ++ found.0 ∷ []) i d)) at
              (ap (λ i. at_slot s.count i (get_or t.lengths s.count 0)) number_new ∙ ap (at_slot s.count sender) length_new
              ∙ found.1 ∙ ap Some (sym (get_or_push ss found.0 d s.count h.many))))
              (cases_lt j s.count);
          fits = λ j l. ⊎_elim
              (λ (b : j < s.count). subst (λ i. i ≤ longest_item) (sym (length_old j b)) (h.fits j b))
              (λ (b : s.count ≤ j).
              let at : s.count ≡ j = omega arith in
              subst (λ i. get_or t.lengths i 0 ≤ longest_item) at (subst (λ i. i ≤ longest_item) (sym length_new) short))
              (cases_lt j s.count);
        }
