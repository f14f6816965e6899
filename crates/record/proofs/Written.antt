-- What was written is read. Assumes nothing.
use Rattle.std.proofs.Common.{◌≡◌, ℕ, suc, ◌+◌, ◌*◌, ◌<◌, ◌≤◌, Bool, true, false, eqb, ◌≢◌, List, [], ◌∷◌, ◌++◌, length, get_or, Some, Ok, sym, refl, ap, ◌∙◌, append_assoc, append-nil, arith, length-append, eq-eqb, ne_eqb, le-leb}
use lib.Seq.{take-length}
use Rattle.kind.specs.Kind.{Meaning, Lawful}
use Rattle.record.specs.Fields.{pair_at, quad_at, part, pair_of}
use Rattle.record.specs.Headers.{count_offset, program_offset, sender_offset, header_length, most_bytes, counted}
use Rattle.record.specs.Shapes.{sending, end_at, most_entries, fits, shape_at}
use Rattle.record.specs.Records.{entries, judged, record_at}
use Rattle.record.specs.Trees.{Entry, Rec, choice, sent, Tree}
use Rattle.record.specs.Plans.{Plan}
use Rattle.record.specs.Messages.{records, message}
use Rattle.record.specs.Writing.{written_entry, written_entries, written_head, written_record, written_records, written_tree, RisingEntries, no_entry, entry_then, Follows, ended, sends, first, second, both}
use Rattle.record.specs.declared.record.Body.TheVariants as body
use Rattle.record.proofs.Spans.{Spans, at_is, spans_is, spans_first, spans_rest, spans_byte, spans_pair}

spans_whole : (xs : List ℕ) → Spans xs 0 xs
spans_whole xs = record { room = omega arith; is = take-length xs }

pair_back : (n : ℕ) → pair_at (pair_of n) 0 ≡ n
pair_back n = omega arith

module _ {V : Type 0} (k : Meaning V) (laws : Lawful k) where
  pub entries_read : {d : V} {low : ℕ} {es : List (Entry V)} → RisingEntries k d low es → (base : ℕ) (bs : List ℕ) (at : ℕ) → Spans bs at (written_entries k es) → entries k d base bs (length es) low at ≡ Ok es
  entries_read no_entry base bs at s = refl
  entries_read {d} (entry_then {low} {e} {es} le small apart f) base bs at s =
      let n = pair_of e.number in
      let v = k.written e.value in
      let long = laws.long e.value in
      let s1 : Spans bs (at + 2) (v ++ written_entries k es) = spans_rest n (v ++ written_entries k es) s in
      let s2 = at_is {bt = at + (2 + k.width)} (omega arith) (spans_rest v (written_entries k es) s1) in
      let number : pair_at bs at ≡ e.number = spans_pair e.number (spans_first n (v ++ written_entries k es) s) in
      let value : k.read (part bs (at + 2) k.width) ≡ Some e.value = ap (λ i. k.read (part bs (at + 2) i)) (sym long) ∙ ap k.read (spans_first v (written_entries k es) s1).is ∙ laws.back e.value in
      let rest = entries_read f base bs (at + (2 + k.width)) s2 in
      rw (value, number, le-leb low e.number le, apart, rest)

  pub entries_long : (es : List (Entry V)) → length (written_entries k es) ≡ length es * (2 + k.width)
  entries_long [] = omega arith
  entries_long (e ∷ es) =
      let h = entries_long es in
      let l = laws.long e.value in
      let a = length-append (k.written e.value) (written_entries k es) in
      let m : suc (length es) * (2 + k.width) ≡ length es * (2 + k.width) + (2 + k.width) = omega arith in
      omega arith

  -- a head and what follows it
  pub head_then : (p : ℕ) (d : V) (n : ℕ) (rest : List ℕ) → written_head k p d n ++ rest ≡ pair_of (3 + k.width + n * (2 + k.width)) ++ (pair_of p ++ (k.written d ++ (n ∷ rest)))
  head_then p d n rest = ap (λ (z : List ℕ). pair_of (3 + k.width + n * (2 + k.width)) ++ (pair_of p ++ z)) (append_assoc (k.written d) (n ∷ []) rest)

  -- one entry more behind others
  pub entries_then : (es : List (Entry V)) (e : Entry V) → written_entries k (es ++ (e ∷ [])) ≡ written_entries k es ++ written_entry k e.number e.value
  entries_then [] e = append-nil (written_entry k e.number e.value)
  entries_then (x ∷ es) e = ap (λ (z : List ℕ). written_entry k x.number x.value ++ z) (entries_then es e) ∙ sym (append_assoc (written_entry k x.number x.value) (written_entries k es) (written_entry k e.number e.value))

  module _ (m : List ℕ) (at p : ℕ) (small : p < 65536) where
    choice_by : (x : ℕ) → x ≤ 1 → Spans m at (pair_of 3 ++ (pair_of p ++ (x ∷ []))) → record_at k body.Choice p m at ≡ Ok (choice p (eqb x 1), at + 5)
    choice_by x le s =
        let bit = x ∷ [] in
        let s1 : Spans m (at + 2) (pair_of p ++ bit) = spans_rest (pair_of 3) (pair_of p ++ bit) s in
        let s2 : Spans m (at + 4) bit = at_is (omega arith) (spans_rest (pair_of p) bit s1) in
        let count : pair_at m at ≡ 3 = spans_pair 3 (spans_first (pair_of 3) (pair_of p ++ bit) s) in
        let room = s2.room in
        let end : end_at m at ≡ at + 5 = omega arith in
        let t1 = le-leb (at + 2) (length m) (omega arith) in
        let t2 = le-leb (at + 5) (length m) (omega arith) in
        let t3 = eq-eqb (at + 5) (at + 5) refl in
        let place : part m (at + 2) 2 ≡ pair_of p = (spans_first (pair_of p) bit s1).is in
        let byte : part m (at + 4) 1 ≡ bit = s2.is in
        rw (t1, end, t2, t3, place, byte, eq-eqb (pair_at (pair_of p) 0) p (pair_back p), le-leb x 1 le)

    choice_read : (b : Bool) → Spans m at (written_record k (choice p b)) → record_at k body.Choice p m at ≡ Ok (choice p b, at + 5)
    choice_read true s = choice_by 1 (omega arith) s
    choice_read false s = choice_by 0 (omega arith) s

    module _ (d : V) (es : List (Entry V)) (few : length es ≤ most_entries) (span : Spans m at (written_record k (sent p d es))) where
      abbrev dv : List ℕ
      dv = k.written d

      abbrev ev : List ℕ
      ev = written_entries k es

      abbrev count : ℕ
      count = 3 + k.width + length es * (2 + k.width)

      s : Spans m at (pair_of count ++ (pair_of p ++ (dv ++ (length es ∷ ev))))
      s = spans_is (head_then p d (length es) ev) span

      s1 : Spans m (at + 2) (pair_of p ++ (dv ++ (length es ∷ ev)))
      s1 = spans_rest (pair_of count) (pair_of p ++ (dv ++ (length es ∷ ev))) s

      s2 : Spans m (at + 4) (dv ++ (length es ∷ ev))
      s2 = at_is (omega arith) (spans_rest (pair_of p) (dv ++ (length es ∷ ev)) s1)

      s3 : Spans m (at + 4 + k.width) (length es ∷ ev)
      s3 = let l = laws.long d in at_is (omega arith) (spans_rest dv (length es ∷ ev) s2)

      s4 : Spans m (at + 5 + k.width) ev
      s4 = at_is (omega arith) (spans_rest (length es ∷ []) ev s3)

      count_is : pair_at m at ≡ count
      count_is = spans_pair count (spans_first (pair_of count) (pair_of p ++ (dv ++ (length es ∷ ev))) s)

      number_is : get_or m (at + 4 + k.width) 0 ≡ length es
      number_is = spans_byte (spans_first (length es ∷ []) ev s3)

      ends : end_at m at ≡ at + 5 + k.width + length es * (2 + k.width)
      ends = let c = count_is in omega arith

      room : at + 5 + k.width + length es * (2 + k.width) ≤ length m
      room = let r = s4.room in let l = entries_long es in omega arith

      fits_is : fits body.Exchange k.width m at ≡ true
      fits_is =
          let e = ends in
          let h = number_is in
          rw (number_is, le-leb (at + 5 + k.width) (end_at m at) (omega arith), le-leb (length es) most_entries few, eq-eqb (end_at m at) (at + 5 + k.width + length es * (2 + k.width)) ends)

      place_is : part m (at + 2) 2 ≡ pair_of p
      place_is = (spans_first (pair_of p) (dv ++ (length es ∷ ev)) s1).is

      default_is : part m (at + 4) k.width ≡ dv
      default_is = ap (part m (at + 4)) (sym (laws.long d)) ∙ (spans_first dv (length es ∷ ev) s2).is

      entries_is : part m (at + 5 + k.width) (get_or m (at + 4 + k.width) 0 * (2 + k.width)) ≡ ev
      entries_is = ap (λ n. part m (at + 5 + k.width) (n * (2 + k.width))) number_is ∙ ap (part m (at + 5 + k.width)) (sym (entries_long es)) ∙ s4.is

      shape_is : shape_at body.Exchange k.width m at ≡ Ok (sending at (pair_of p) dv (length es) ev)
      shape_is =
          let e = ends in
          let r = room in
          rw (le-leb (at + 2) (length m) (omega arith), le-leb (end_at m at) (length m) (omega arith), fits_is) (λ j. Ok (sending at (place_is j) (default_is j) (number_is j) (entries_is j)))

      judged_is : RisingEntries k d 0 es → judged k p (sending at (pair_of p) dv (length es) ev) ≡ Ok (sent p d es)
      judged_is fair = rw (eq-eqb (pair_at (pair_of p) 0) p (pair_back p), laws.back d, entries_read fair (at + 5 + k.width) ev 0 (spans_whole ev))

      sent_read : RisingEntries k d 0 es → record_at k body.Exchange p m at ≡ Ok (sent p d es, at + 5 + k.width + length es * (2 + k.width))
      sent_read fair = rw (shape_is, judged_is fair, ends)

  pub sent_long : (p : ℕ) (d : V) (es : List (Entry V)) → length (written_record k (sent p d es)) ≡ 5 + k.width + length es * (2 + k.width)
  sent_long p d es =
      let l = laws.long d in
      let h = ap length (head_then p d (length es) (written_entries k es)) in
      let a = length-append (k.written d) (length es ∷ written_entries k es) in
      let e = entries_long es in
      omega arith

  pub records_both : (rs ss : List (Rec V)) → written_records k (rs ++ ss) ≡ written_records k rs ++ written_records k ss
  records_both [] ss = refl
  records_both (r ∷ rs) ss = ap (λ (x : List ℕ). written_record k r ++ x) (records_both rs ss) ∙ sym (append_assoc (written_record k r) (written_records k rs) (written_records k ss))

  -- the records that a plan has due are read
  pub records_read : (m : List ℕ) {plan : Plan} {rs : List (Rec V)} → Follows k plan rs → (at : ℕ) → Spans m at (written_records k rs) → records k m plan at ≡ Ok (rs, at + length (written_records k rs))
  records_read m ended at s = let e : at ≡ at + 0 = omega arith in ap (λ i. Ok ([], i)) e
  records_read m (sends {p} {d} {es} small few fair) at s =
      let r = written_record k (sent p d es) in
      let l = sent_long p d es in
      let e : at + 5 + k.width + length es * (2 + k.width) ≡ at + length (r ++ []) = let a = length-append r [] in omega arith in
      rw (sent_read m at p small d es few (spans_first r [] s) fair) (ap (λ i. Ok (sent p d es ∷ [], i)) e)
  records_read m (first {p} {a} {b} {rs} small f) at s =
      let r = written_record k (choice p true) in
      let e = records_read m f (at + 5) (spans_rest r (written_records k rs) s) in
      let h : at + 5 + length (written_records k rs) ≡ at + length (r ++ written_records k rs) = omega arith in
      rw (choice_read m at p small true (spans_first r (written_records k rs) s), e) (ap (λ i. Ok (choice p true ∷ rs, i)) h)
  records_read m (second {p} {a} {b} {rs} small f) at s =
      let r = written_record k (choice p false) in
      let e = records_read m f (at + 5) (spans_rest r (written_records k rs) s) in
      let h : at + 5 + length (written_records k rs) ≡ at + length (r ++ written_records k rs) = omega arith in
      rw (choice_read m at p small false (spans_first r (written_records k rs) s), e) (ap (λ i. Ok (choice p false ∷ rs, i)) h)
  records_read m (both {a} {b} {rs} {ss} f g) at s =
      let x = written_records k rs in
      let y = written_records k ss in
      let t : Spans m at (x ++ y) = spans_is (records_both rs ss) s in
      let e = records_read m f at (spans_first x y t) in
      let h = records_read m g (at + length x) (spans_rest x y t) in
      let l : at + length x + length y ≡ at + length (written_records k (rs ++ ss)) = let a = length-append x y in let c = ap length (records_both rs ss) in omega arith in
      rw (e, h) (ap (λ i. Ok (rs ++ ss, i)) l)

  pub written_read : (plan : Plan) (program me : ℕ) (t : Tree V) → program < 4294967296 → t.sender < 65536 → t.sender ≢ me → Follows k plan t.records → length (written_tree k program t) ≤ most_bytes
      → message k plan program me (written_tree k program t) ≡ Ok t
  written_read plan program me t big small apart f short =
      let m = written_tree k program t in
      let body = written_records k t.records in
      let count : pair_at m count_offset ≡ counted (header_length + length body) = omega arith in
      let number : quad_at m program_offset ≡ program = omega arith in
      let sender : pair_at m sender_offset ≡ t.sender = omega arith in
      let s : Spans m header_length body = record { room = omega arith; is = take-length body } in
      let e = records_read m f header_length s in
      rw (le-leb header_length (length m) (omega arith), le-leb (length m) most_bytes short, eq-eqb (pair_at m count_offset) (counted (length m)) (omega arith), eq-eqb (quad_at m program_offset) program number, sender, ne_eqb t.sender me apart, e, eq-eqb (header_length + length body) (length m) (omega arith))
