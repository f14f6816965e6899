-- The record that begins where a reader stands. Assumes nothing.
use Rattle.std.proofs.Common.{◌≡◌, ℕ, ◌+◌, ◌*◌, ◌<◌, ◌≤◌, cond, eqb, List, [], ◌∷◌, ◌++◌, length, take, drop, IfSome, Some, None, Option, sym, refl, ap, ◌∙◌, subst, append_assoc, arith, length-append, length-drop, drop-drop, ne_eqb, le-leb}
use lib.Seq.{take-append_seam, drop-append_seam}
use borrow.Author.Tests.{lt-leb}
use Rattle.std.specs.List.{AllByRecursion}
use Rattle.std.proofs.ByRecursion.{All-push}
use Rattle.kind.specs.Kind.{Meaning, Lawful}
use Rattle.record.specs.Fields.{pair_at, pair_of}
use Rattle.record.specs.Shapes.{end_at}
use Rattle.record.specs.Trees.{Rec, choice, sent, place_of, silent, record_says, says, RisingPlaces, no_record, record_then}
use Rattle.record.specs.Writing.{written_entries, written_record, written_records}
use Rattle.record.proofs.Spans.{Spans, spans_is, spans_first, spans_rest, spans_pair}
use Rattle.record.proofs.Written.{head_then, sent_long}
use Rattle.cursor.specs.Cursors.{Sound, Readable, Stands, head_at}

-- a list that begins at a position with bytes has them there
spans_begin : (m : List ℕ) (at : ℕ) (xs ys : List ℕ) → 1 ≤ length xs → drop at m ≡ xs ++ ys → Spans m at xs
spans_begin m at xs ys some e =
    let l = length-append xs ys in
    let d = length-drop at m in
    let h = ap length e in
    record { room = omega arith; is = ap (take (length xs)) e ∙ take-append_seam xs ys }

drop_behind : (m : List ℕ) (at : ℕ) (xs ys : List ℕ) → drop at m ≡ xs ++ ys → drop (at + length xs) m ≡ ys
drop_behind m at xs ys e = sym (drop-drop (length xs) at m) ∙ ap (drop (length xs)) e ∙ drop-append_seam xs ys

drop_none : (m : List ℕ) (at : ℕ) → drop at m ≡ [] → length m ≤ at
drop_none m at e = let h = ap length e in let d = length-drop at m in omega arith

module _ {V : Type 0} (k : Meaning V) (laws : Lawful k) where
  -- how a written record begins
  pub record Begins (m : List ℕ) (at : ℕ) (r : Rec V) : Type 0 where
    pub place : pair_at m (at + 2) ≡ place_of r
    pub ends : end_at m at ≡ at + length (written_record k r)
    pub long : 5 ≤ length (written_record k r)

  pub begins : (m : List ℕ) (at : ℕ) (r : Rec V) → Spans m at (written_record k r) → Begins m at r
  begins m at (choice p b) s =
      let bit : List ℕ = cond b 1 0 ∷ [] in
      let s1 : Spans m (at + 2) (pair_of p ++ bit) = spans_rest (pair_of 3) (pair_of p ++ bit) s in
      let count : pair_at m at ≡ 3 = spans_pair 3 (spans_first (pair_of 3) (pair_of p ++ bit) s) in
      record { place = spans_pair p (spans_first (pair_of p) bit s1); ends = omega arith; long = omega arith }
  begins m at (sent p d es) span =
      let w = k.width in
      let c : ℕ = 3 + w + length es * (2 + w) in
      let rest = k.written d ++ (length es ∷ written_entries k es) in
      let s : Spans m at (pair_of c ++ (pair_of p ++ rest)) = spans_is (head_then k laws p d (length es) (written_entries k es)) span in
      let s1 : Spans m (at + 2) (pair_of p ++ rest) = spans_rest (pair_of c) (pair_of p ++ rest) s in
      let count : pair_at m at ≡ c = spans_pair c (spans_first (pair_of c) (pair_of p ++ rest) s) in
      let l = sent_long k laws p d es in
      record { place = spans_pair p (spans_first (pair_of p) rest s1); ends = omega arith; long = omega arith }

  record_long : (r : Rec V) → 5 ≤ length (written_record k r)
  record_long (choice p b) = omega arith
  record_long (sent p d es) = let l = sent_long k laws p d es in omega arith

  head_none : (m : List ℕ) (at : ℕ) → length m ≤ at → head_at m at ≡ None
  head_none m at h = rw (lt-leb (at + 4) (length m) (omega arith))

  head_some : (m : List ℕ) (at : ℕ) (r : Rec V) → Spans m at (written_record k r) → head_at m at ≡ Some (place_of r, at + length (written_record k r))
  head_some m at r s =
      let b = begins m at r s in
      let room = s.room in
      let e = b.ends in
      let l = b.long in
      rw (le-leb (at + 4) (length m) (omega arith), le-leb (end_at m at) (length m) (omega arith)) (λ j. Some (b.place j, b.ends j))

  -- over one record whose place is below
  pub stands_next : {m : List ℕ} {rs : List (Rec V)} {place at p end : ℕ} → Stands k m rs place at → Some (p, end) ≡ head_at m at → p < place → Stands k m rs place end
  stands_next {m} {rs} {place} {at} {p} {end} s e lt = go s.ahead s.split s.here
    where
      go : (ahead : List (Rec V)) → rs ≡ s.passed ++ ahead → drop at m ≡ written_records k ahead → Stands k m rs place end
      go [] split here =
          let n = head_none m at (drop_none m at here) in
          let z : ◌≡◌ {A = ℕ} 0 1 = cc in
          absurd (omega arith)
      go (r ∷ rest) split here =
          let l = record_long r in
          let h = head_some m at r (spans_begin m at (written_record k r) (written_records k rest) (omega arith) here) in
          let x : ◌≡◌ {A = ℕ × ℕ} (place_of r, at + length (written_record k r)) (p, end) = cc in
          let xp : place_of r ≡ p = ap (λ (y : ℕ × ℕ). y.0) x in
          let xe : at + length (written_record k r) ≡ end = ap (λ (y : ℕ × ℕ). y.1) x in
          record {
            passed = s.passed ++ (r ∷ []);
            ahead = rest;
            split = split ∙ sym (append_assoc s.passed (r ∷ []) rest);
            here = ap (λ i. drop i m) (sym xe) ∙ drop_behind m at (written_record k r) (written_records k rest) here;
            below = All-push (λ x. place_of x < place) s.passed r s.below (omega arith);
          }

  -- nothing is said at a place that the records have passed, or have not reached
  says_behind : (n place : ℕ) (passed ahead : List (Rec V)) → AllByRecursion (λ r. place_of r < place) passed → says n place (passed ++ ahead) ≡ says n place ahead
  says_behind n place [] ahead below = refl
  says_behind n place (r ∷ passed) ahead below = let l = below.0 in rw (ne_eqb (place_of r) place (λ e. omega arith)) (says_behind n place passed ahead below.1)

  says_before : (n place high low : ℕ) (rs : List (Rec V)) → RisingPlaces high low rs → place < low → says n place rs ≡ silent
  says_before n place high low [] no_record lt = refl
  says_before n place high low (r ∷ rs) (record_then l u f) lt = rw (ne_eqb (place_of r) place (λ e. omega arith)) (says_before n place high (place_of r + 1) rs f (omega arith))

  -- what is sound and rises, does so in its last part
  sound_ahead : (passed ahead : List (Rec V)) → AllByRecursion (Sound k) (passed ++ ahead) → AllByRecursion (Sound k) ahead
  sound_ahead [] ahead s = s
  sound_ahead (r ∷ passed) ahead s = sound_ahead passed ahead s.1

  rising_ahead : (high low : ℕ) (passed ahead : List (Rec V)) → RisingPlaces high low (passed ++ ahead) → (low' : ℕ) × RisingPlaces high low' ahead
  rising_ahead high low [] ahead f = (low, f)
  rising_ahead high low (r ∷ passed) ahead (record_then l u f) = rising_ahead high (place_of r + 1) passed ahead f

  -- what a reader meets that has gone over all records below a place, and over no other
  pub data Met (m : List ℕ) (rs : List (Rec V)) (place at : ℕ) : Type 0 where
    at_end : head_at m at ≡ None → ((n : ℕ) → says n place rs ≡ silent) → Met m rs place at
    at_record : (r : Rec V) → Sound k r → Spans m at (written_record k r) → head_at m at ≡ Some (place_of r, at + length (written_record k r)) → ((n : ℕ) → says n place rs ≡ cond (eqb (place_of r) place) (record_says n r) silent) → Met m rs place at

  pub met : {m : List ℕ} {rs : List (Rec V)} {place at : ℕ} → Readable k m rs → Stands k m rs place at → IfSome (head_at m at) (λ x. place ≤ x.0) → Met m rs place at
  met {m} {rs} {place} {at} readable s stops = go s.ahead s.split s.here
    where
      go : (ahead : List (Rec V)) → rs ≡ s.passed ++ ahead → drop at m ≡ written_records k ahead → Met m rs place at
      go [] split here = at_end (head_none m at (drop_none m at here)) (λ n. ap (says n place) split ∙ says_behind n place s.passed [] s.below)
      go (r ∷ rest) split here =
          let l = record_long r in
          let span = spans_begin m at (written_record k r) (written_records k rest) (omega arith) here in
          let h = head_some m at r span in
          let reached : place ≤ place_of r = subst (λ (o : Option (ℕ × ℕ)). IfSome o (λ x. place ≤ x.0)) h stops in
          let rises = rising_ahead 65536 0 s.passed (r ∷ rest) (subst (RisingPlaces 65536 0) split readable.rising) in
          at_record r (sound_ahead s.passed (r ∷ rest) (subst (AllByRecursion (Sound k)) split readable.sound)).0 span h
          (λ n. ap (says n place) split ∙ says_behind n place s.passed (r ∷ rest) s.below ∙ ap (cond (eqb (place_of r) place) (record_says n r)) (after_it n r rest rises.0 reached rises.1))
        where
          after_it : (n : ℕ) (r : Rec V) (rest : List (Rec V)) (low : ℕ) → place ≤ place_of r → RisingPlaces 65536 low (r ∷ rest) → says n place rest ≡ silent
          after_it n r rest low h (record_then l u f) = says_before n place 65536 (place_of r + 1) rest f (omega arith)
