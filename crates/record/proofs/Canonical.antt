-- What was read is what is written. Assumes nothing.
use Rattle.std.proofs.Common.{◌≡◌, ℕ, zero, suc, ◌+◌, ◌*◌, ◌/◌, ◌%◌, ◌<◌, ◌≤◌, Bool, true, false, cond, not, ◌&&◌, eqb, leb, ◌≢◌, List, [], ◌∷◌, ◌++◌, length, get_or, take, drop, Ok, sym, refl, ap, ◌∙◌, subst, append-nil, arith, length-append, take_all, eqb-true, leb-true}
use borrow.Author.Tests.{eqb-false, not-true}
use Rattle.std.proofs.lemmas.Bool.{and_parts}
use Rattle.kind.specs.Kind.{Meaning, Lawful}
use Rattle.refusal.specs.Outcomes.{after, must}
use Rattle.record.specs.Fields.{Bytes, byte_at, pair_at, quad_at, part, pair_of, quad_of}
use Rattle.record.specs.Headers.{version, count_offset, program_offset, sender_offset, header_length, most_bytes, counted, header, written_header}
use Rattle.record.specs.Shapes.{end_at, most_entries, fits, shape, shape_at}
use Rattle.record.specs.Records.{allowed, behind, entries, judged, record_at}
use Rattle.record.specs.Trees.{Entry, Rec, choice, sent, Tree, is_first}
use Rattle.record.specs.Plans.{Plan, nothing, sent_at, choice_at, ◌⨾◌}
use Rattle.record.specs.Messages.{records, message, alone, behind_records}
use Rattle.record.specs.Writing.{written_entries, written_record, written_records, RisingEntries, no_entry, entry_then, Follows, ended, sends, first, second, both}
use Rattle.record.specs.Laws.{Canonical}
use Rattle.record.specs.declared.record.Body.TheVariants as body
use Rattle.record.proofs.Rows.{behind_grows, behind_is}
use Rattle.record.proofs.Spans.{Spans, at_is, spans_is, spans_none, spans_both, spans_part, byte_spans, pair_spans, bytes_part, part_length}
use Rattle.record.proofs.Inverse.{was_read}
use Rattle.refusal.proofs.Outcomes.{after_ok, must_ok, ok_same}
use Rattle.record.proofs.Written.{head_then, entries_long, sent_long, records_both}

two_bytes : (x : List ℕ) → Bytes x → length x ≡ 2 → x ≡ pair_of (pair_at x 0)
two_bytes x b l = sym (take_all 2 x (omega arith)) ∙ (pair_spans x 0 b (omega arith)).is

pair_back : (a b n : ℕ) → b < 256 → a * 256 + b ≡ n → a ∷ b ∷ [] ≡ pair_of n
pair_back a b n h e = let x : a ≡ n / 256 = omega arith in let y : b ≡ n % 256 = omega arith in λ i. x i ∷ y i ∷ []

pair_below : (a b : ℕ) → a < 256 → b < 256 → a * 256 + b < 65536
pair_below a b h g = omega arith

quad_back : (a b c d n : ℕ) → b < 256 → c < 256 → d < 256 → a * 16777216 + b * 65536 + c * 256 + d ≡ n → a ∷ b ∷ c ∷ d ∷ [] ≡ quad_of n
quad_back a b c d n hb hc hd e =
    let w : a ≡ n / 16777216 = omega arith in
    let x : b ≡ n / 65536 % 256 = omega arith in
    let y : c ≡ n / 256 % 256 = omega arith in
    let z : d ≡ n % 256 = omega arith in
    λ i. w i ∷ x i ∷ y i ∷ z i ∷ []

pair_small : (x : List ℕ) → Bytes x → pair_at x 0 < 65536
pair_small x b = let b0 = b 0 in let b1 = b 1 in omega arith

one_byte : (x : List ℕ) → length x ≡ 1 → x ≡ get_or x 0 0 ∷ []
one_byte x l = sym (take_all 1 x (omega arith)) ∙ (byte_spans x 0 (omega arith)).is

module _ {V : Type 0} (k : Meaning V) (laws : Lawful k) where
  record EntriesTaken (d : V) (bs : List ℕ) (n low at : ℕ) (es : List (Entry V)) : Type 0 where
    fair : RisingEntries k d low es
    spans : Spans bs at (written_entries k es)
    count : length es ≡ n

  entries_exact : (d : V) (base : ℕ) (bs : List ℕ) → Bytes bs → (n low at : ℕ) (es : List (Entry V)) → entries k d base bs n low at ≡ Ok es → behind k.width n at ≤ length bs → EntriesTaken d bs n low at es
  entries_exact d base bs b zero low at es e h =
      let g : [] ≡ es = cc in
      subst (EntriesTaken d bs 0 low at) g (record { fair = no_entry; spans = spans_none bs at h; count = refl })
  entries_exact d base bs b (suc n) low at es e h =
      let c1 = after_ok (allowed _ (k.read (part bs (at + 2) k.width))) _ es e in
      let c2 = after_ok (must (leb low (pair_at bs at)) _ _) _ es c1.2 in
      let c3 = after_ok (must (not (k.same c1.0 d)) _ _) _ es c2.2 in
      let c4 = after_ok (entries k d base bs n (pair_at bs at + 1) (at + (2 + k.width))) _ es c3.2 in
      let low-is : low ≤ pair_at bs at = leb-true _ _ (must_ok _ _ _ _ c2.1) in
      let apart : k.same c1.0 d ≡ false = not-true _ (must_ok _ _ _ _ c3.1) in
      let written = laws.only _ _ (was_read _ _ _ c1.1) in
      let room = behind_grows k.width n (at + (2 + k.width)) in
      let b0 = b at in
      let b1 = b (at + 1) in
      let r = entries_exact d base bs b n (pair_at bs at + 1) (at + (2 + k.width)) c4.0 c4.1 h in
      let long = laws.long c1.0 in
      let value : Spans bs (at + 2) (k.written c1.0) = spans_part bs (at + 2) k.width (k.written c1.0) (omega arith) written in
      let next = c4.2 in
      let g : record { number = pair_at bs at; value = c1.0 } ∷ c4.0 ≡ es = cc in
      subst (EntriesTaken d bs (suc n) low at) g (record {
        fair = entry_then low-is (omega arith) apart r.fair;
        spans = spans_both (pair_spans bs at b (omega arith)) (spans_both value (at_is (omega arith) r.spans));
        count = ap suc r.count;
      })

  record Taken (m : List ℕ) (plan : Plan) (at : ℕ) (x : List (Rec V) × ℕ) : Type 0 where
    follows : Follows k plan x.0
    spans : Spans m at (written_records k x.0)
    end : x.1 ≡ at + length (written_records k x.0)

  module _ (m : List ℕ) (b : Bytes m) where
    record SentTaken (p at : ℕ) (x : Rec V × ℕ) : Type 0 where
      default : V
      list : List (Entry V)
      is : x.0 ≡ sent p default list
      small : p < 65536
      few : length list ≤ most_entries
      fair : RisingEntries k default 0 list
      spans : Spans m at (written_record k (sent p default list))
      end : x.1 ≡ at + length (written_record k (sent p default list))

    -- what each check of an exchange's record told
    record SentRead (p at : ℕ) (x : Rec V × ℕ) : Type 0 where
      default : V
      list : List (Entry V)
      is : x.0 ≡ sent p default list
      end : end_at m at ≡ x.1
      inside : end_at m at ≤ length m
      few : get_or m (at + 4 + k.width) 0 ≤ most_entries
      ends : end_at m at ≡ at + 5 + k.width + get_or m (at + 4 + k.width) 0 * (2 + k.width)
      place : pair_at (part m (at + 2) 2) 0 ≡ p
      default_is : part m (at + 4) k.width ≡ k.written default
      entries_are : entries k default (at + 5 + k.width) (part m (at + 5 + k.width) (get_or m (at + 4 + k.width) 0 * (2 + k.width))) (get_or m (at + 4 + k.width) 0) 0 0 ≡ Ok list

    sent_checks : (p at : ℕ) (x : Rec V × ℕ) → record_at k body.Exchange p m at ≡ Ok x → SentRead p at x
    sent_checks p at x e =
        let w = k.width in
        let n = get_or m (at + 4 + w) 0 in
        let bs = part m (at + 5 + w) (n * (2 + w)) in
        let c = after_ok (shape_at body.Exchange w m at) _ x e in
        let a1 = after_ok (must (leb (at + 2) (length m)) _ _) _ _ c.1 in
        let a2 = after_ok (must (leb (end_at m at) (length m)) _ _) _ _ a1.2 in
        let a3 = after_ok (must (fits body.Exchange w m at) _ _) _ _ a2.2 in
        let f = and_parts (leb (at + 5 + w) (end_at m at) && leb n most_entries) (eqb (end_at m at) (at + 5 + w + n * (2 + w))) (must_ok _ _ _ _ a3.1) in
        let g = and_parts (leb (at + 5 + w) (end_at m at)) (leb n most_entries) f.0 in
        let j : after (judged k p (shape body.Exchange w m at)) (λ r. Ok (r, end_at m at)) ≡ Ok x = subst (λ s. after (judged k p s) (λ r. Ok (r, end_at m at)) ≡ Ok x) (sym (ok_same (shape body.Exchange w m at) c.0 a3.2)) c.2 in
        let d0 = after_ok (judged k p (shape body.Exchange w m at)) _ x j in
        let d1 = after_ok (must (eqb (pair_at (part m (at + 2) 2) 0) p) _ _) _ _ d0.1 in
        let d2 = after_ok (allowed _ (k.read (part m (at + 4) w))) _ _ d1.2 in
        let d3 = after_ok (entries k d2.0 (at + 5 + w) bs n 0 0) _ _ d2.2 in
        let rec-is : sent p d2.0 d3.0 ≡ d0.0 = ok_same _ _ d3.2 in
        let pair_is : ◌≡◌ {A = Rec V × ℕ} (d0.0, end_at m at) x = ok_same _ _ d0.2 in
        record {
          default = d2.0;
          list = d3.0;
          is = sym (rec-is ∙ ap (λ (y : Rec V × ℕ). y.0) pair_is);
          end = ap (λ (y : Rec V × ℕ). y.1) pair_is;
          inside = leb-true _ _ (must_ok _ _ _ _ a2.1);
          few = leb-true _ _ g.1;
          ends = eqb-true _ _ f.1;
          place = eqb-true _ _ (must_ok _ _ _ _ d1.1);
          default_is = laws.only _ _ (was_read _ _ _ d2.1);
          entries_are = d3.1;
        }

    -- a record's parts one behind the other
    sent_spans :
        (p at n : ℕ) (d : V) (es : List (Entry V)) → n ≡ length es → pair_at m at ≡ 3 + k.width + n * (2 + k.width)
        → at + 5 + k.width + n * (2 + k.width) ≤ length m → get_or m (at + 4 + k.width) 0 ≡ n → part m (at + 2) 2 ≡ pair_of p
        → part m (at + 4) k.width ≡ k.written d → part m (at + 5 + k.width) (n * (2 + k.width)) ≡ written_entries k es
        → Spans m at (written_record k (sent p d es))
    sent_spans p at n d es number count inside byte place default entries =
        let w = k.width in
        let size = n * (2 + w) in
        let dw = k.written d in
        let ew = written_entries k es in
        let long = laws.long d in
        let s0 : Spans m at (pair_of (3 + w + length es * (2 + w))) = spans_is (ap pair_of (count ∙ ap (λ i. 3 + w + i * (2 + w)) number)) (pair_spans m at b (omega arith)) in
        let s1 : Spans m (at + 2) (pair_of p) = spans_part m (at + 2) 2 (pair_of p) (omega arith) place in
        let s2 : Spans m (at + 2 + 2) dw = at_is {at = at + 4} (omega arith) (spans_part m (at + 4) w dw (omega arith) default) in
        let s3 : Spans m (at + 2 + 2 + length dw) (length es ∷ []) = at_is {at = at + 4 + w} (omega arith) (spans_is (ap (λ (z : ℕ). z ∷ []) (byte ∙ number)) (byte_spans m (at + 4 + w) (omega arith))) in
        let s4 : Spans m (at + 2 + 2 + length dw + 1) ew = at_is {at = at + 5 + w} (omega arith) (spans_part m (at + 5 + w) size ew (omega arith) entries) in
        spans_is (sym (head_then k laws p d (length es) ew)) (spans_both s0 (spans_both s1 (spans_both s2 (spans_both {xs = length es ∷ []} s3 s4))))

    sent_exact : (p at : ℕ) (x : Rec V × ℕ) → record_at k body.Exchange p m at ≡ Ok x → SentTaken p at x
    sent_exact p at x e =
        let c = sent_checks p at x e in
        let w = k.width in
        let n = get_or m (at + 4 + w) 0 in
        let size = n * (2 + w) in
        let bs = part m (at + 5 + w) size in
        let ends = c.ends in
        let inside : at + 5 + w + size ≤ length m = let i = c.inside in omega arith in
        let long = part_length m (at + 5 + w) size inside in
        let beh : behind w n 0 ≤ length bs = let h = behind_is w n 0 in omega arith in
        let es = entries_exact c.default (at + 5 + w) bs (bytes_part m (at + 5 + w) size b) n 0 0 c.list c.entries_are beh in
        let number : n ≡ length c.list = sym es.count in
        let ew = written_entries k c.list in
        let elong : length ew ≡ size = entries_long k laws c.list ∙ ap (λ i. i * (2 + w)) es.count in
        let entries_is : bs ≡ ew = sym (take_all (length ew) bs (omega arith)) ∙ es.spans.is in
        let pb = bytes_part m (at + 2) 2 b in
        let place : part m (at + 2) 2 ≡ pair_of p = two_bytes (part m (at + 2) 2) pb (part_length m (at + 2) 2 (omega arith)) ∙ ap pair_of c.place in
        record {
          default = c.default;
          list = c.list;
          is = c.is;
          small = subst (λ i. i < 65536) c.place (pair_small (part m (at + 2) 2) pb);
          few = subst (λ i. i ≤ most_entries) number c.few;
          fair = es.fair;
          spans = sent_spans p at n c.default c.list number (omega arith) inside refl place c.default_is entries_is;
          end = sym c.end ∙ ends ∙ ap (λ i. at + 5 + w + i * (2 + w)) number ∙ (let l = sent_long k laws p c.default c.list in omega arith);
        }

    record ChoiceTaken (p at : ℕ) (x : Rec V × ℕ) : Type 0 where
      chosen : Bool
      is : x.0 ≡ choice p chosen
      small : p < 65536
      spans : Spans m at (written_record k (choice p chosen))
      end : x.1 ≡ at + 5

    bit_is : (y : ℕ) → y ≤ 1 → y ≡ cond (eqb y 1) 1 0
    bit_is zero h = refl
    bit_is (suc zero) h = refl
    bit_is (suc (suc y)) h = absurd (omega arith)

    choice_exact : (p at : ℕ) (x : Rec V × ℕ) → record_at k body.Choice p m at ≡ Ok x → ChoiceTaken p at x
    choice_exact p at x e =
        let w = k.width in
        let y = part m (at + 4) 1 in
        let c = after_ok (shape_at body.Choice w m at) _ x e in
        let a1 = after_ok (must (leb (at + 2) (length m)) _ _) _ _ c.1 in
        let a2 = after_ok (must (leb (end_at m at) (length m)) _ _) _ _ a1.2 in
        let a3 = after_ok (must (eqb (end_at m at) (at + 5)) _ _) _ _ a2.2 in
        let room1 : at + 2 ≤ length m = leb-true _ _ (must_ok _ _ _ _ a1.1) in
        let room2 : end_at m at ≤ length m = leb-true _ _ (must_ok _ _ _ _ a2.1) in
        let ends : end_at m at ≡ at + 5 = eqb-true _ _ (must_ok _ _ _ _ a3.1) in
        let last = a3.2 in
        let shape_is : shape body.Choice w m at ≡ c.0 = ok_same _ _ last in
        let j : after (judged k p (shape body.Choice w m at)) (λ r. Ok (r, end_at m at)) ≡ Ok x = subst (λ s. after (judged k p s) (λ r. Ok (r, end_at m at)) ≡ Ok x) (sym shape_is) c.2 in
        let d0 = after_ok (judged k p (shape body.Choice w m at)) _ x j in
        let d1 = after_ok (must (eqb (pair_at (part m (at + 2) 2) 0) p) _ _) _ _ d0.1 in
        let d2 = after_ok (must (leb (byte_at y 0) 1) _ _) _ _ d1.2 in
        let place : pair_at (part m (at + 2) 2) 0 ≡ p = eqb-true _ _ (must_ok _ _ _ _ d1.1) in
        let bit : byte_at y 0 ≤ 1 = leb-true _ _ (must_ok _ _ _ _ d2.1) in
        let pb = bytes_part m (at + 2) 2 b in
        let pb0 = pb 0 in
        let pb1 = pb 1 in
        let place_is : part m (at + 2) 2 ≡ pair_of p = two_bytes (part m (at + 2) 2) pb (part_length m (at + 2) 2 (omega arith)) ∙ ap pair_of place in
        let count_is : pair_at m at ≡ 3 = omega arith in
        let byte-is : y ≡ cond (eqb (byte_at y 0) 1) 1 0 ∷ [] = one_byte y (part_length m (at + 4) 1 (omega arith)) ∙ ap (λ (z : ℕ). z ∷ []) (bit_is (byte_at y 0) bit) in
        let s0 : Spans m at (pair_of 3) = spans_is (ap pair_of count_is) (pair_spans m at b room1) in
        let s1 : Spans m (at + 2) (pair_of p) = spans_part m (at + 2) 2 (pair_of p) (omega arith) place_is in
        let s2 : Spans m (at + 2 + 2) (cond (eqb (byte_at y 0) 1) 1 0 ∷ []) = at_is {at = at + 4} (omega arith) (spans_part m (at + 4) 1 _ (omega arith) byte-is) in
        let d2n = d2.2 in
        let d0n = d0.2 in
        let rec-is : choice p (eqb (byte_at y 0) 1) ≡ d0.0 = ok_same _ _ d2n in
        let pair_is : ◌≡◌ {A = Rec V × ℕ} (d0.0, end_at m at) x = ok_same _ _ d0n in
        let end_is : end_at m at ≡ x.1 = ap (λ (y : Rec V × ℕ). y.1) pair_is in
        record {
          chosen = eqb (byte_at y 0) 1;
          is = sym (rec-is ∙ ap (λ (y : Rec V × ℕ). y.0) pair_is);
          small = omega arith;
          spans = spans_both s0 (spans_both s1 s2);
          end = omega arith;
        }

    module _ (p : ℕ) (a a' : Plan) (at : ℕ) (x : List (Rec V) × ℕ) (small : p < 65536) where
      joins : (ch : Bool) (plan : Plan) (y : List (Rec V) × ℕ) → Spans m at (written_record k (choice p ch)) → behind_records (choice p ch ∷ []) y ≡ Ok x → Taken m plan (at + 5) y → Follows k (choice_at p a a') (choice p ch ∷ y.0) → Taken m (choice_at p a a') at x
      joins ch plan y s e t f =
          let wr = written_record k (choice p ch) in
          let l = length-append wr (written_records k y.0) in
          let ye = t.end in
          let g : ◌≡◌ {A = List (Rec V) × ℕ} (choice p ch ∷ y.0, y.1) x = cc in
          subst (Taken m (choice_at p a a') at) g (record { follows = f; spans = spans_both s t.spans; end = omega arith })

      branch_exact : (ch : Bool) → Spans m at (written_record k (choice p ch))
          → ((y : List (Rec V) × ℕ) → at + 5 ≤ length m → records k m a (at + 5) ≡ Ok y → Taken m a (at + 5) y)
          → ((y : List (Rec V) × ℕ) → at + 5 ≤ length m → records k m a' (at + 5) ≡ Ok y → Taken m a' (at + 5) y)
          → after (cond ch (records k m a (at + 5)) (records k m a' (at + 5))) (behind_records (choice p ch ∷ [])) ≡ Ok x → Taken m (choice_at p a a') at x
      branch_exact true s f g e =
          let c = after_ok (records k m a (at + 5)) (behind_records (choice p true ∷ [])) x e in
          let t = f c.0 s.room c.1 in
          joins true a c.0 s c.2 t (first small t.follows)
      branch_exact false s f g e =
          let c = after_ok (records k m a' (at + 5)) (behind_records (choice p false ∷ [])) x e in
          let t = g c.0 s.room c.1 in
          joins false a' c.0 s c.2 t (second small t.follows)

    records_exact : (plan : Plan) (at : ℕ) (x : List (Rec V) × ℕ) → at ≤ length m → records k m plan at ≡ Ok x → Taken m plan at x
    records_exact nothing at x h e =
        let g : ◌≡◌ {A = List (Rec V) × ℕ} ([], at) x = cc in
        subst (Taken m nothing at) g (record { follows = ended; spans = spans_none m at h; end = omega arith })
    records_exact (sent_at p) at x h e =
        let c = after_ok (record_at k body.Exchange p m at) alone x e in
        let t = sent_exact p at c.0 c.1 in
        let r = sent p t.default t.list in
        let wr = written_record k r in
        let next = c.2 in
        let g : ◌≡◌ {A = List (Rec V) × ℕ} (c.0.0 ∷ [], c.0.1) x = cc in
        let f : ◌≡◌ {A = List (Rec V) × ℕ} (r ∷ [], at + length wr) (c.0.0 ∷ [], c.0.1) = λ i. (sym t.is i ∷ [], sym t.end i) in
        subst (Taken m (sent_at p) at) (f ∙ g) (record {
          follows = sends t.small t.few t.fair;
          spans = spans_is (sym (append-nil wr)) t.spans;
          end = ap (λ (l : List ℕ). at + length l) (sym (append-nil wr));
        })
    records_exact (choice_at p a a') at x h e =
        let c = after_ok (record_at k body.Choice p m at) _ x e in
        let t = choice_exact p at c.0 c.1 in
        let room = t.spans.room in
        branch_exact p a a' at x t.small t.chosen t.spans (records_exact a (at + 5)) (records_exact a' (at + 5))
        (subst (λ (y : Rec V × ℕ). after (cond (is_first y.0) (records k m a y.1) (records k m a' y.1)) (behind_records (y.0 ∷ [])) ≡ Ok x) (λ i. (t.is i, t.end i)) c.2)
    records_exact (a ⨾ a') at x h e =
        let c = after_ok (records k m a at) _ x e in
        let t = records_exact a at c.0 h c.1 in
        let room = t.spans.room in
        let te = t.end in
        let d = after_ok (records k m a' c.0.1) _ x c.2 in
        let u = records_exact a' c.0.1 d.0 (omega arith) d.1 in
        let ue = u.end in
        let xs = written_records k c.0.0 in
        let ys = written_records k d.0.0 in
        let j = records_both k laws c.0.0 d.0.0 in
        let l = length-append xs ys in
        let jl = ap length j in
        let next = d.2 in
        let g : ◌≡◌ {A = List (Rec V) × ℕ} (c.0.0 ++ d.0.0, d.0.1) x = cc in
        subst (Taken m (a ⨾ a') at) g (record {
          follows = both t.follows u.follows;
          spans = spans_is (sym j) (spans_both t.spans (at_is te u.spans));
          end = omega arith;
        })

  -- the header's bytes
  record Headed (program me : ℕ) (m : List ℕ) (sender : ℕ) : Type 0 where
    rest : List ℕ
    is : m ≡ written_header program sender (length rest) ++ rest
    other : sender ≢ me
    small : sender < 65536
    short : length m ≤ most_bytes

  header_exact : (program me : ℕ) (m : List ℕ) (sender : ℕ) → Bytes m → header program me m ≡ Ok sender → Headed program me m sender
  header_exact program me m sender b e =
      let c1 = after_ok (must (leb header_length (length m) && leb (length m) most_bytes) _ _) _ sender e in
      let c2 = after_ok (must (eqb (byte_at m 0) version) _ _) _ sender c1.2 in
      let c3 = after_ok (must (eqb (pair_at m count_offset) (counted (length m))) _ _) _ sender c2.2 in
      let c4 = after_ok (must (eqb (quad_at m program_offset) program) _ _) _ sender c3.2 in
      let c5 = after_ok (must (not (eqb (pair_at m sender_offset) me)) _ _) _ sender c4.2 in
      let last = c5.2 in
      let sender-is : pair_at m sender_offset ≡ sender = cc in
      let apart = eqb-false _ _ (not-true _ (must_ok _ _ _ _ c5.1)) in
      go m b (leb-true header_length (length m) (and_parts (leb header_length (length m)) (leb (length m) most_bytes) (must_ok _ _ _ _ c1.1)).0) (eqb-true _ _ (must_ok _ _ _ _ c2.1)) (eqb-true _ _ (must_ok _ _ _ _ c3.1)) (eqb-true _ _ (must_ok _ _ _ _ c4.1)) sender-is (λ f. apart (sender-is ∙ f)) (leb-true (length m) most_bytes (and_parts (leb header_length (length m)) (leb (length m) most_bytes) (must_ok _ _ _ _ c1.1)).1)
    where
      go : (m : List ℕ) → Bytes m → header_length ≤ length m → get_or m 0 0 ≡ version → pair_at m count_offset ≡ counted (length m) → quad_at m program_offset ≡ program → pair_at m sender_offset ≡ sender → sender ≢ me → length m ≤ most_bytes → Headed program me m sender
      go [] b l v c q s o n = absurd (omega arith)
      go (x0 ∷ []) b l v c q s o n = absurd (omega arith)
      go (x0 ∷ x1 ∷ []) b l v c q s o n = absurd (omega arith)
      go (x0 ∷ x1 ∷ x2 ∷ []) b l v c q s o n = absurd (omega arith)
      go (x0 ∷ x1 ∷ x2 ∷ x3 ∷ []) b l v c q s o n = absurd (omega arith)
      go (x0 ∷ x1 ∷ x2 ∷ x3 ∷ x4 ∷ []) b l v c q s o n = absurd (omega arith)
      go (x0 ∷ x1 ∷ x2 ∷ x3 ∷ x4 ∷ x5 ∷ []) b l v c q s o n = absurd (omega arith)
      go (x0 ∷ x1 ∷ x2 ∷ x3 ∷ x4 ∷ x5 ∷ x6 ∷ []) b l v c q s o n = absurd (omega arith)
      go (x0 ∷ x1 ∷ x2 ∷ x3 ∷ x4 ∷ x5 ∷ x6 ∷ x7 ∷ []) b l v c q s o n = absurd (omega arith)
      go (x0 ∷ x1 ∷ x2 ∷ x3 ∷ x4 ∷ x5 ∷ x6 ∷ x7 ∷ x8 ∷ rest) b l v c q s o n =
          let count = pair_back x1 x2 (counted (header_length + length rest)) (b 2) (c ∙ omega arith) in
          let number = quad_back x3 x4 x5 x6 program (b 4) (b 5) (b 6) q in
          let from = pair_back x7 x8 sender (b 8) s in
          record { rest = rest; is = λ i. v i ∷ (count i ++ (number i ++ (from i ++ rest))); other = o; small = subst (λ i. i < 65536) s (pair_below x7 x8 (b 7) (b 8)); short = n }

  pub read_written : (plan : Plan) (program me : ℕ) (m : List ℕ) (t : Tree V) → Bytes m → message k plan program me m ≡ Ok t → Canonical k plan program me m t
  read_written plan program me m t b e =
      let c1 = after_ok (header program me m) _ t e in
      let c2 = after_ok (records k m plan header_length) _ t c1.2 in
      let c3 = after_ok (must (eqb c2.0.1 (length m)) _ _) _ t c2.2 in
      let h = header_exact program me m c1.0 b c1.1 in
      let long : length m ≡ header_length + length h.rest = let q = ap length h.is in omega arith in
      let r = records_exact m b plan header_length c2.0 (omega arith) c2.1 in
      let ends : c2.0.1 ≡ length m = eqb-true _ _ (must_ok _ _ _ _ c3.1) in
      let re = r.end in
      let w = written_records k c2.0.0 in
      let rest_is : h.rest ≡ w = sym (take_all (length w) h.rest (omega arith)) ∙ ap (λ (l : List ℕ). take (length w) (drop header_length l)) (sym h.is) ∙ r.spans.is in
      let last = c3.2 in
      let tree_is : ◌≡◌ {A = Tree V} (record { sender = c1.0; records = c2.0.0 }) t = cc in
      subst (Canonical k plan program me m) tree_is (record {
        is = h.is ∙ ap (λ (l : List ℕ). written_header program c1.0 (length l) ++ l) rest_is;
        follows = r.follows;
        other = h.other;
        small = h.small;
        short = h.short;
      })
