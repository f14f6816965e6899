-- What the record says that begins where a reader stands. Assumes nothing.
use Rattle.std.proofs.Common.{◌≡◌, ℕ, ◌+◌, ◌*◌, ◌<◌, ◌≤◌, Bool, true, false, cond, eqb, leb, List, [], ◌∷◌, length, IfSome, Some, None, Ok, Err, Option, option_map, option_and_then, sym, refl, ap, ◌∙◌, append-nil, arith, eqb-true, leb-true}
use Rattle.std.proofs.lemmas.Bool.{and_parts, both_ways}
use Rattle.std.specs.Result.{result_ok}
use Rattle.refusal.specs.Outcomes.{Outcome, must, mapped}
use Rattle.refusal.proofs.Outcomes.{after_ok, must_ok, ok_same}
use Rattle.kind.specs.Kind.{Meaning, Lawful}
use Rattle.record.specs.Fields.{byte_at, pair_at, part}
use Rattle.record.specs.Forms.{reads_at}
use Rattle.record.specs.Messages.{records, alone, behind_records}
use Rattle.record.specs.Plans.{nothing, choice_at}
use Rattle.record.specs.Records.{judged, record_at}
use Rattle.record.specs.Shapes.{Shape, shown, end_at, fits, shape, shape_at, most_entries}
use Rattle.record.specs.Trees.{Entry, Rec, choice, sent, entry_at, silent, record_says, says}
use Rattle.record.specs.Writing.{RisingEntries, written_record, Follows, ended, sends, first, second}
use Rattle.record.specs.declared.record.Body.{Body}
use Rattle.record.specs.declared.record.Body.TheVariants as body
use Rattle.record.specs.declared.record.Record.{Record}
use Rattle.record.proofs.Numbers.{reads_entry}
use Rattle.record.proofs.Spans.{Spans, spans_is}
use Rattle.record.proofs.Written.{sent_long, records_read}
use Rattle.cursor.specs.Cursors.{Sound, sound_choice, sound_sent, Readable, Stands, head_at, head_has, said_value, said_choice, chooses}
use Rattle.cursor.proofs.Meeting.{begins, Met, at_end, at_record, met}

-- what a shape gives that was made of a record, if it was
abbrev pub made : {X : Type 0} → (Shape → Option X) → Outcome Shape → Option X
made f (Err e) = None
made f (Ok s) = f s

-- the same of the code's answer
pub made_of : {X : Type 0} (f : Shape → Option X) (r : Outcome Record) → option_and_then f (option_map shown (result_ok r)) ≡ made f (mapped shown r)
made_of f (Err e) = refl
made_of f (Ok x) = refl

module _ {V : Type 0} (k : Meaning V) (laws : Lawful k) where
  shape_taken : (b : Body) (w : ℕ) (m : List ℕ) (at : ℕ) (s : Shape) → shape_at b w m at ≡ Ok s → (fits b w m at ≡ true) × (shape b w m at ≡ s)
  shape_taken b w m at s e =
      let a1 = after_ok (must (leb (at + 2) (length m)) _ _) _ _ e in
      let a2 = after_ok (must (leb (end_at m at) (length m)) _ _) _ _ a1.2 in
      let a3 = after_ok (must (fits b w m at) _ _) _ _ a2.2 in
      (must_ok _ _ _ _ a3.1, ok_same _ _ a3.2)

  -- an if's record is none of an exchange, and the other way round
  never_sent : (m : List ℕ) (at p : ℕ) (b : Bool) → Spans m at (written_record k (choice p b)) → (n : ℕ) (o : Outcome Shape) → o ≡ shape_at body.Exchange k.width m at → made (reads_at k n) o ≡ None
  never_sent m at p b span n (Err e) is = refl
  never_sent m at p b span n (Ok s) is =
      let t = shape_taken body.Exchange k.width m at s (sym is) in
      let e = (begins k laws m at (choice p b) span).ends in
      let some = laws.some in
      let x = (and_parts _ _ (and_parts _ _ t.0).0).0 in
      let le : at + 5 + k.width ≤ end_at m at = leb-true _ _ x in
      absurd (omega arith)

  never_chosen : (m : List ℕ) (at p : ℕ) (d : V) (es : List (Entry V)) → Spans m at (written_record k (sent p d es)) → (o : Outcome Shape) → o ≡ shape_at body.Choice k.width m at → made chooses o ≡ None
  never_chosen m at p d es span (Err e) is = refl
  never_chosen m at p d es span (Ok s) is =
      let t = shape_taken body.Choice k.width m at s (sym is) in
      let e = (begins k laws m at (sent p d es) span).ends in
      let some = laws.some in
      let l = sent_long k laws p d es in
      let le : end_at m at ≡ at + 5 = eqb-true _ _ t.0 in
      absurd (omega arith)

  -- a record that was read: its judgement, on the shape that it was made of
  judgement : (b : Body) (p : ℕ) (m : List ℕ) (at : ℕ) (x : Rec V × ℕ) → record_at k b p m at ≡ Ok x → (shape_at b k.width m at ≡ Ok (shape b k.width m at)) × (judged k p (shape b k.width m at) ≡ Ok x.0)
  judgement b p m at x e =
      let d = after_ok (shape_at b k.width m at) _ x e in
      let f = after_ok (judged k p d.0) _ x d.2 in
      let t = (shape_taken b k.width m at d.0 d.1).1 in
      let same : ◌≡◌ {A = Rec V × ℕ} (f.0, end_at m at) x = ok_same _ _ f.2 in
      (d.1 ∙ ap (λ s. Ok s) (sym t), ap (judged k p) t ∙ f.1 ∙ ap (λ (y : Rec V × ℕ). Ok y.0) same)

  alone_is : (x : Rec V × ℕ) (r : Rec V) (n : ℕ) → alone x ≡ Ok (r ∷ [], n) → x.0 ≡ r
  alone_is x r n e =
      let h : ◌≡◌ {A = List (Rec V) × ℕ} (x.0 ∷ [], x.1) (r ∷ [], n) = ok_same _ _ e in
      let l : x.0 ∷ [] ≡ r ∷ [] = ap (λ (y : List (Rec V) × ℕ). y.0) h in
      cc

  first_is : (x : Rec V) (rs : List (Rec V) × ℕ) (r : Rec V) (n : ℕ) → behind_records (x ∷ []) rs ≡ Ok (r ∷ [], n) → x ≡ r
  first_is x rs r n e =
      let h : ◌≡◌ {A = List (Rec V) × ℕ} (x ∷ rs.0, rs.1) (r ∷ [], n) = ok_same _ _ e in
      let l : x ∷ rs.0 ≡ r ∷ [] = ap (λ (y : List (Rec V) × ℕ). y.0) h in
      cc

  same_bit : (p : ℕ) (a b : Bool) (r : Rec V) → choice p a ≡ r → r ≡ choice p b → a ≡ b
  same_bit p a b r e f = cc

  sent_reads : (m : List ℕ) (at p : ℕ) (d : V) (es : List (Entry V)) → p < 65536 → length es ≤ most_entries → RisingEntries k d 0 es → Spans m at (written_record k (sent p d es)) → (n : ℕ) (o : Outcome Shape) → o ≡ shape_at body.Exchange k.width m at → made (reads_at k n) o ≡ Some (entry_at n d es)
  sent_reads m at p d es small few fair span n o is =
      let e = records_read k laws m (sends small few fair) at (spans_is (sym (append-nil (written_record k (sent p d es)))) span) in
      let c = after_ok (record_at k body.Exchange p m at) alone _ e in
      let same : c.0.0 ≡ sent p d es = alone_is c.0 (sent p d es) _ c.2 in
      let j = judgement body.Exchange p m at c.0 c.1 in
      let w = k.width in
      ap (made (reads_at k n)) (is ∙ j.0)
      ∙ reads_entry k p at (part m (at + 2) 2) (part m (at + 4) w) (byte_at m (at + 4 + w)) (part m (at + 5 + w) (byte_at m (at + 4 + w) * (2 + w))) p d es (j.1 ∙ ap (λ (r : Rec V). Ok r) same) n

  alone_follows : (p : ℕ) (b : Bool) → p < 65536 → Follows k (choice_at p nothing nothing) (choice p b ∷ [])
  alone_follows p true small = first small ended
  alone_follows p false small = second small ended

  choice_chooses : (m : List ℕ) (at p : ℕ) (b : Bool) → p < 65536 → Spans m at (written_record k (choice p b)) → (o : Outcome Shape) → o ≡ shape_at body.Choice k.width m at → made chooses o ≡ Some b
  choice_chooses m at p b small span o is =
      let e = records_read k laws m (alone_follows p b small) at (spans_is (sym (append-nil (written_record k (choice p b)))) span) in
      let c = after_ok (record_at k body.Choice p m at) _ _ e in
      let d = after_ok (cond _ (records k m nothing c.0.1) (records k m nothing c.0.1)) (behind_records (c.0.0 ∷ [])) _ c.2 in
      let same : c.0.0 ≡ choice p b = first_is c.0.0 d.0 (choice p b) _ d.2 in
      let j = judgement body.Choice p m at c.0 c.1 in
      let bit = part m (at + 4) 1 in
      let d1 = after_ok (must (eqb (pair_at (part m (at + 2) 2) 0) p) _ _) _ _ j.1 in
      let d2 = after_ok (must (leb (byte_at bit 0) 1) _ _) _ _ d1.2 in
      let f : choice p (eqb (byte_at bit 0) 1) ≡ c.0.0 = ok_same _ _ d2.2 in
      let g = same_bit p (eqb (byte_at bit 0) 1) b c.0.0 f same in
      ap (made chooses) (is ∙ j.0) ∙ ap (λ (x : Bool). Some x) g

  module _ {m : List ℕ} {rs : List (Rec V)} {place at : ℕ} where
    -- no record of the place, nothing said
    pub nothing_said : Readable k m rs → Stands k m rs place at → IfSome (head_at m at) (λ x. place ≤ x.0) → false ≡ head_has place (head_at m at) → (n : ℕ) → says n place rs ≡ silent
    nothing_said readable stands stops apart n = go (met k laws readable stands stops)
      where
        go : Met k laws m rs place at → says n place rs ≡ silent
        go (at_end none said) = said n
        go (at_record r sound span h said) =
            let t : eqb _ place ≡ false = sym (ap (head_has place) h) ∙ sym apart in
            said n ∙ rw t

    pub value_said : Readable k m rs → Stands k m rs place at → IfSome (head_at m at) (λ x. place ≤ x.0) → true ≡ head_has place (head_at m at) → (n w : ℕ) → w ≡ k.width → (o : Outcome Shape) → o ≡ shape_at body.Exchange w m at → made (reads_at k n) o ≡ said_value (says n place rs)
    value_said readable stands stops has n w width o is = go (met k laws readable stands stops)
      where
        by_kind : o ≡ shape_at body.Exchange k.width m at
        by_kind = is ∙ ap (λ v. shape_at body.Exchange v m at) width

        of_record : {r : Rec V} → Sound k r → Spans m at (written_record k r) → made (reads_at k n) o ≡ said_value (record_says n r)
        of_record (sound_choice {p} {b} small) span = never_sent m at p b span n o by_kind
        of_record (sound_sent {p} {d} {es} small few fair) span = sent_reads m at p d es small few fair span n o by_kind

        go : Met k laws m rs place at → made (reads_at k n) o ≡ said_value (says n place rs)
        go (at_end none said) =
            let f : head_has place (head_at m at) ≡ false = ap (head_has place) none in
            absurd (both_ways (head_has place (head_at m at)) f (sym has))
        go (at_record r sound span h said) =
            let t : eqb _ place ≡ true = sym (ap (head_has place) h) ∙ sym has in
            of_record sound span ∙ ap said_value (sym (said n ∙ rw t))

    pub choice_said : Readable k m rs → Stands k m rs place at → IfSome (head_at m at) (λ x. place ≤ x.0) → true ≡ head_has place (head_at m at) → (n w : ℕ) → w ≡ k.width → (o : Outcome Shape) → o ≡ shape_at body.Choice w m at → made chooses o ≡ said_choice (says n place rs)
    choice_said readable stands stops has n w width o is = go (met k laws readable stands stops)
      where
        by_kind : o ≡ shape_at body.Choice k.width m at
        by_kind = is ∙ ap (λ v. shape_at body.Choice v m at) width

        of_record : {r : Rec V} → Sound k r → Spans m at (written_record k r) → made chooses o ≡ said_choice (record_says n r)
        of_record (sound_choice {p} {b} small) span = choice_chooses m at p b small span o by_kind
        of_record (sound_sent {p} {d} {es} small few fair) span = never_chosen m at p d es span o by_kind

        go : Met k laws m rs place at → made chooses o ≡ said_choice (says n place rs)
        go (at_end none said) =
            let f : head_has place (head_at m at) ≡ false = ap (head_has place) none in
            absurd (both_ways (head_has place (head_at m at)) f (sym has))
        go (at_record r sound span h said) =
            let t : eqb _ place ≡ true = sym (ap (head_has place) h) ∙ sym has in
            of_record sound span ∙ ap said_choice (sym (said n ∙ rw t))
