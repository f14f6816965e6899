-- Readings, the last own tree, and what stands on the output in the end.
use Rattle.std.specs.Result.{result_eq}
use Rattle.std.proofs.Common.{eqb-true, take_at, lt_of_mul-lt-mul_right, ◌≡◌, ℕ, zero, suc, ◌+◌, ◌-◌, ◌*◌, ◌<◌, ◌≤◌, Bool, true, false, cond, eqb, ◌≢◌, List, [], ◌∷◌, ◌++◌, length, get_or, take, drop, is_some, Some, None, Ok, Err, Option, unwrap_or, sym, refl, ap, ◌∙◌, subst, suc-mul, add-mul, one-mul, zero-mul, arith, length-append, length-drop, take-append-drop, length-take, drop-drop, drop_at, eq-eqb, ne_eqb}
use Rattle.std.proofs.lemmas.Bool.Decides.{nat_tests}
use Rattle.refusal.specs.Outcomes.{Outcome, refusal, refuse, after, must, mapped}
use Rattle.refusal.specs.declared.cause.Cause.TheVariants as cause
use Rattle.refusal.proofs.Outcomes.{after_ok, must_ok, ok_same}
use Rattle.kind.specs.Kind.{Meaning, Lawful}
use Rattle.refusal.specs.declared.refused.Refusal.{Refusal}
use Rattle.program.specs.declared.program.Program.{Program}
use Rattle.program.specs.Measures.{places}
use Rattle.program.specs.Programs.{shown, run_of}
use Rattle.program.specs.Verdict.{suits}
use Rattle.program.proofs.Shown.{run_within, places_few}
use Rattle.record.specs.Fields.{part, Bytes}
use Rattle.record.specs.Messages.{message}
use Rattle.record.specs.Plans.{Plan, due}
use Rattle.record.specs.Trees.{Tree}
use Rattle.tree.specs.Trees.{tree_in, sender_of}
use Rattle.cursor.specs.Cursors.{Readable}
use Rattle.cursor.proofs.Standing.{readable_accepted, readable_none}
use Rattle.rules.specs.Working.{allowed_reading, readings_from, readings_in, other_node, records_by, last_in}
use Rattle.hearing.specs.Hearing.{reading_at}

-- one less, in products
pub step_mul : (n w : ℕ) → 1 ≤ n → n * w ≡ w + (n - 1) * w
step_mul n w h = let e : n ≡ 1 + (n - 1) = omega arith in ap (λ (z : ℕ). z * w) e ∙ add-mul 1 (n - 1) w ∙ ap (λ (z : ℕ). z + (n - 1) * w) (one-mul w)

-- a refusal or nothing
abbrev pub judged : {A : Type 0} → Outcome A → Outcome (Unit {0})
judged o = mapped (λ _. tt) o

module _ {V : Type 0} (k : Meaning V) (bs : List ℕ) where
  pub reading_refused : (n at : ℕ) → 1 ≤ n → k.read (part bs at k.width) ≡ None → readings_from k n at bs ≡ refuse cause.ReadingsRefused at
  reading_refused zero at h e = absurd (omega arith)
  reading_refused (suc n) at h e = ap (λ (o : Option V). after (allowed_reading at o) (λ v. after (readings_from k n (at + k.width) bs) (λ vs. Ok (v ∷ vs)))) e

  judged_more : (v : V) (o : Outcome (List V)) → judged (after o (λ vs. Ok (v ∷ vs))) ≡ judged o
  judged_more v (Ok vs) = refl
  judged_more v (Err e) = refl

  pub reading_passed : (n at : ℕ) (v : V) → 1 ≤ n → k.read (part bs at k.width) ≡ Some v → judged (readings_from k n at bs) ≡ judged (readings_from k (n - 1) (at + k.width) bs)
  reading_passed zero at v h e = absurd (omega arith)
  reading_passed (suc n) at v h e =
      let p : n ≡ suc n - 1 = omega arith in
      ap (λ (o : Option V). judged (after (allowed_reading at o) (λ v. after (readings_from k n (at + k.width) bs) (λ vs. Ok (v ∷ vs))))) e
      ∙ judged_more v (readings_from k n (at + k.width) bs)
      ∙ ap (λ (z : ℕ). judged (readings_from k z (at + k.width) bs)) p

  -- THE READINGS, chunk by chunk: i of s were looked at, and `rest` is left
  module _ (s i : ℕ) (rest : List ℕ) (wide : 1 ≤ k.width) (long : length bs ≡ s * k.width) (cut : drop (i * k.width) bs ≡ rest) (left : i * k.width + length rest ≡ length bs)
      (same : judged (readings_from k s 0 bs) ≡ judged (readings_from k (s - i) (i * k.width) bs)) where
    counted : judged (readings_in k s bs) ≡ judged (readings_from k (s - i) (i * k.width) bs)
    counted = ap (λ (b : Bool). judged (after (must b cause.ReadingsRefused 0) (λ _. readings_from k s 0 bs))) (eq-eqb (length bs) (s * k.width) long) ∙ same

    pub all_passed : length rest < k.width → Ok tt ≡ judged (readings_in k s bs)
    all_passed short =
        let n : (i + 1) * k.width ≡ i * k.width + k.width = add-mul i 1 k.width ∙ ap (λ (z : ℕ). i * k.width + z) (one-mul k.width) in
        let h : s < i + 1 = lt_of_mul-lt-mul_right k.width (omega arith) in
        let none : s - i ≡ 0 = omega arith in
        sym (counted ∙ ap (λ (z : ℕ). judged (readings_from k z (i * k.width) bs)) none)

    -- the next is e
    module _ (e more : List ℕ) (split : rest ≡ e ++ more) (one : length e ≡ k.width) where
      inside : i * k.width + (k.width + length more) ≡ length bs
      inside = let a = ap length split ∙ length-append e more in omega arith

      pub next_fits : i * length e + length e ≤ length bs
      next_fits = let a = inside in let b = ap (λ (z : ℕ). i * z) one in omega arith

      here : i < s
      here = let a = inside in lt_of_mul-lt-mul_right k.width (omega arith)

      chunk_is : part bs (i * k.width) k.width ≡ e
      chunk_is = ap (take k.width) (cut ∙ split) ∙ take_at e more k.width one

      pub chunk_refused : (o : Option V) → o ≡ k.read e → is_some o ≡ false → Err (refusal cause.ReadingsRefused (i * length e)) ≡ judged (readings_in k s bs)
      chunk_refused o is h =
          let lt = here in
          sym (counted ∙ ap judged (reading_refused (s - i) (i * k.width) (omega arith) (ap k.read chunk_is ∙ sym is ∙ no_value o h))
          ∙ ap (λ (z : ℕ). Err (refusal cause.ReadingsRefused (i * z))) (sym one))
        where
          no_value : (q : Option V) → is_some q ≡ false → q ≡ None
          no_value None h = refl
          no_value (Some v) h = let z : ◌≡◌ {A = ℕ} 0 1 = cc in absurd (omega arith)

      pub chunk_passed : (o : Option V) → o ≡ k.read e → is_some o ≡ true → judged (readings_from k s 0 bs) ≡ judged (readings_from k (s - (i + 1)) ((i + 1) * k.width) bs)
      chunk_passed o is h =
          let a : i * k.width + k.width ≡ (i + 1) * k.width = sym (add-mul i 1 k.width ∙ ap (λ (z : ℕ). i * k.width + z) (one-mul k.width)) in
          let b : s - i - 1 ≡ s - (i + 1) = omega arith in
          same ∙ go o (is ∙ ap k.read (sym chunk_is)) h ∙ (λ j. judged (readings_from k (b j) (a j) bs))
        where
          go : (q : Option V) → q ≡ k.read (part bs (i * k.width) k.width) → is_some q ≡ true → judged (readings_from k (s - i) (i * k.width) bs) ≡ judged (readings_from k (s - i - 1) (i * k.width + k.width) bs)
          go None e h = let z : ◌≡◌ {A = ℕ} 0 1 = cc in absurd (omega arith)
          go (Some v) e h = let lt = here in reading_passed (s - i) (i * k.width) v (omega arith) (sym e)

      pub chunk_cut : drop ((i + 1) * k.width) bs ≡ more
      chunk_cut =
          let a : (i + 1) * k.width ≡ i * k.width + k.width = add-mul i 1 k.width ∙ ap (λ (z : ℕ). i * k.width + z) (one-mul k.width) in
          ap (λ (z : ℕ). drop z bs) a ∙ sym (drop-drop k.width (i * k.width) bs) ∙ ap (drop k.width) (cut ∙ split) ∙ drop_at e more k.width one

      pub chunk_left : (i + 1) * k.width + length more ≡ length bs
      chunk_left =
          let a : (i + 1) * k.width ≡ i * k.width + k.width = add-mul i 1 k.width ∙ ap (λ (z : ℕ). i * k.width + z) (one-mul k.width) in
          let b = inside in
          omega arith

  module _ (lawful : Lawful k) where
    -- fewer bytes than the width are no value
    short_read : (m : List ℕ) → length m ≢ k.width → unwrap_or (k.read m) k.own ≡ k.own
    short_read m ne = go (k.read m) refl
      where
        go : (o : Option V) → k.read m ≡ o → unwrap_or o k.own ≡ k.own
        go None e = refl
        go (Some v) e = absurd (ne (ap length (lawful.only m v e) ∙ lawful.long v))

    part_short : (i : ℕ) → length bs ≤ i → length (part bs i k.width) ≡ 0
    part_short i h = simp (length-take, length-drop) (omega arith)

    allowed_is : (at : ℕ) (o : Option V) (v : V) → allowed_reading at o ≡ Ok v → unwrap_or o k.own ≡ v
    allowed_is at None v h = let z : ◌≡◌ {A = ℕ} 0 1 = cc in absurd (omega arith)
    allowed_is at (Some u) v h = ok_same u v h

    from_values : (s at : ℕ) (vs : List V) → readings_from k s at bs ≡ Ok vs → length bs ≡ at + s * k.width → (n : ℕ) → unwrap_or (k.read (part bs (at + n * k.width) k.width)) k.own ≡ get_or vs n k.own
    from_values zero at vs e l n =
        let none : vs ≡ [] = sym (ok_same [] vs e) in
        let z = zero-mul k.width in
        let short = part_short (at + n * k.width) (omega arith) in
        short_read (part bs (at + n * k.width) k.width) (λ q. omega (arith, q)) ∙ ap (λ (xs : List V). get_or xs n k.own) (sym none)
    from_values (suc s) at vs e l zero =
        let a = after_ok (allowed_reading at (k.read (part bs at k.width))) _ vs e in
        let b = after_ok (readings_from k s (at + k.width) bs) _ vs a.2 in
        let is : (a.0 ∷ b.0) ≡ vs = ok_same (a.0 ∷ b.0) vs b.2 in
        let z = zero-mul k.width in
        let q : at + 0 * k.width ≡ at = omega arith in
        ap (λ (i : ℕ). unwrap_or (k.read (part bs i k.width)) k.own) q ∙ allowed_is at (k.read (part bs at k.width)) a.0 a.1 ∙ ap (λ (xs : List V). get_or xs 0 k.own) is
    from_values (suc s) at vs e l (suc n) =
        let a = after_ok (allowed_reading at (k.read (part bs at k.width))) _ vs e in
        let b = after_ok (readings_from k s (at + k.width) bs) _ vs a.2 in
        let is : (a.0 ∷ b.0) ≡ vs = ok_same (a.0 ∷ b.0) vs b.2 in
        let m = suc-mul s k.width in
        let m' = suc-mul n k.width in
        let q : at + suc n * k.width ≡ at + k.width + n * k.width = omega arith in
        ap (λ (i : ℕ). unwrap_or (k.read (part bs i k.width)) k.own) q ∙ from_values s (at + k.width) b.0 b.1 (omega arith) n ∙ ap (λ (xs : List V). get_or xs (suc n) k.own) is

    pub readings_values : (s : ℕ) (vs : List V) → readings_in k s bs ≡ Ok vs → (n : ℕ) → reading_at k bs n ≡ get_or vs n k.own
    readings_values s vs e n =
        let a = after_ok (must (eqb (length bs) (s * k.width)) cause.ReadingsRefused 0) _ vs e in
        let long : eqb (length bs) (s * k.width) ≡ true = must_ok _ _ _ _ a.1 in
        let l : length bs ≡ s * k.width = grind (arith, nat_tests) in
        let q : 0 + n * k.width ≡ n * k.width = omega arith in
        ap (λ (i : ℕ). unwrap_or (k.read (part bs i k.width)) k.own) (sym q) ∙ from_values s 0 vs a.2 (omega arith) n

-- THE LAST OWN TREE
module _ {V : Type 0} (k : Meaning V) (lawful : Lawful k) (p : Program) (me : ℕ) (last : List ℕ) (bytes : Bytes last) (fits : suits k (shown p) ≡ true) where
  abbrev plan : Plan
  plan = due (run_of p) 0

  abbrev number : ℕ
  number = (shown p).header.number

  places_small : places (run_of p) ≤ 65536
  places_small = let a = places_few (run_of p) in let b = (run_within p).size in omega arith

  read_is : tree_in k p (other_node me) last ≡ message k plan number (other_node me) last
  read_is = ap (λ b. after (must b cause.OtherKind 7) (λ _. message k plan number (other_node me) last)) fits

  -- another node takes it for a tree of this one
  pub own_counts : (sender : ℕ) → Ok sender ≡ mapped sender_of (tree_in k p (other_node me) last) → sender ≡ me → Readable k last (last_in k plan number me last)
  own_counts sender e same = go (message k plan number (other_node me) last) refl (e ∙ ap (mapped sender_of) read_is)
    where
      go : (o : Outcome (Tree V)) → message k plan number (other_node me) last ≡ o → Ok sender ≡ mapped sender_of o → Readable k last (records_by me o)
      go (Err r) h q = let z : ◌≡◌ {A = ℕ} 0 1 = cc in absurd (omega arith)
      go (Ok t) h q =
          let s : t.sender ≡ me = sym (ok_same sender t.sender q) ∙ same in
          let b : eqb t.sender me ≡ true = eq-eqb t.sender me s in
          subst (Readable k last) (ap (λ (c : Bool). cond c t.records []) (sym b)) (readable_accepted lawful (run_of p) places_small number (other_node me) last t bytes h)

  -- or it does not
  pub own_other : (sender : ℕ) → Ok sender ≡ mapped sender_of (tree_in k p (other_node me) last) → sender ≢ me → Readable k [] (last_in k plan number me last)
  own_other sender e other = go (message k plan number (other_node me) last) refl (e ∙ ap (mapped sender_of) read_is)
    where
      go : (o : Outcome (Tree V)) → message k plan number (other_node me) last ≡ o → Ok sender ≡ mapped sender_of o → Readable k [] (records_by me o)
      go (Err r) h q = readable_none
      go (Ok t) h q =
          let s : t.sender ≡ sender = sym (ok_same sender t.sender q) in
          let b : eqb t.sender me ≡ false = ne_eqb t.sender me (λ z. other (sym s ∙ z)) in
          subst (Readable k []) (ap (λ (c : Bool). cond c t.records []) (sym b)) readable_none

  pub own_refused : (r : Refusal) → Err r ≡ mapped sender_of (tree_in k p (other_node me) last) → Readable k [] (last_in k plan number me last)
  own_refused r e = go (message k plan number (other_node me) last) refl (e ∙ ap (mapped sender_of) read_is)
    where
      go : (o : Outcome (Tree V)) → message k plan number (other_node me) last ≡ o → Err r ≡ mapped sender_of o → Readable k [] (records_by me o)
      go (Err x) h q = readable_none
      go (Ok t) h q = let z : ◌≡◌ {A = ℕ} 0 1 = cc in absurd (omega arith)

  -- by whether the other node read a tree of this one
  pub own_true : (same : Refusal → Refusal → Bool) (o : Outcome ℕ) → o ≡ mapped sender_of (tree_in k p (other_node me) last) → result_eq eqb same o (Ok me) ≡ true → Readable k last (last_in k plan number me last)
  own_true same (Ok s) e h = own_counts s e (eqb-true s me h)
  own_true same (Err r) e h = absurd (cc)

  pub own_false : (same : Refusal → Refusal → Bool) (o : Outcome ℕ) → o ≡ mapped sender_of (tree_in k p (other_node me) last) → result_eq eqb same o (Ok me) ≡ false → Readable k [] (last_in k plan number me last)
  own_false same (Ok s) e h = own_other s e (λ q. let z : eqb s me ≡ true = eq-eqb s me q in absurd (cc))
  own_false same (Err r) e h = own_refused r e

-- THE OUTPUT: the header in front of the records, and the old tail
pub tree_out : (old mid new tree header : List ℕ) (n : ℕ) → n ≤ length old → length mid ≡ length old → length header ≡ 9 → 9 ≤ n
    → take n new ≡ tree → new ≡ header ++ drop 9 mid → drop n mid ≡ drop n old → (n ≡ length tree) × (new ≡ tree ++ drop (length tree) old)
tree_out old mid new tree header n room long nine low front is tail =
    let ln : length new ≡ length old = ap length is ∙ simp (length-append, length-drop) (omega arith) in
    let len : n ≡ length tree = let h = ap length front in let t = length-take n new in omega arith in
    let cut : drop n new ≡ drop n old =
    let e : n ≡ 9 + (n - 9) = omega arith in
    ap (drop n) is ∙ ap (λ (z : ℕ). drop z (header ++ drop 9 mid)) e ∙ drop_behind header (drop 9 mid) 9 (n - 9) nine ∙ drop-drop (n - 9) 9 mid ∙ ap (λ (z : ℕ). drop z mid) (sym e) ∙ tail in
    (len, sym (take-append-drop n new) ∙ (λ i. front i ++ cut i) ∙ ap (λ (z : ℕ). tree ++ drop z old) len)
  where
    drop_behind : (xs ys : List ℕ) (m n : ℕ) → length xs ≡ m → drop (m + n) (xs ++ ys) ≡ drop n ys
    drop_behind xs ys m n e = sym (drop-drop n m (xs ++ ys)) ∙ ap (drop n) (drop_at xs ys m e)
