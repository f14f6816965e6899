-- A program that is for the kind is refused by no call.
use Rattle.std.proofs.Common.{◌≡◌, ℕ, zero, suc, ◌+◌, ◌*◌, Bool, true, false, cond, not, ◌&&◌, eqb, ltb, leb, List, ◌++◌, length, Some, None, Ok, Err, Option, sym, refl, subst, arith}
use Rattle.std.proofs.lemmas.Bool.{eqb-false}
use Rattle.refusal.specs.declared.cause.Cause.{Cause}
use Rattle.refusal.specs.declared.cause.Cause.TheVariants as cause
use Rattle.refusal.specs.Causes.{listed}
use Rattle.refusal.specs.Outcomes.{Outcome, after, must}
use Rattle.kind.specs.Kind.{Meaning}
use Rattle.program.specs.declared.program.Program.{Program}
use Rattle.program.specs.Verdict.{suits}
use Rattle.program.specs.Programs.{shown, run_of}
use Rattle.record.specs.Fields.{byte_at, pair_at, quad_at, part}
use Rattle.record.specs.Headers.{header, header_length, most_bytes, version, count_offset, program_offset, sender_offset, counted}
use Rattle.record.specs.Messages.{message, records}
use Rattle.record.specs.Plans.{due, Plan, nothing, sent_at, choice_at, ◌⨾◌}
use Rattle.record.specs.Records.{allowed, entries, judged, record_at}
use Rattle.record.specs.Shapes.{Shape, choosing, sending, shape_at, end_at, fits}
use Rattle.record.specs.Trees.{is_first}
use Rattle.record.specs.declared.record.Body.{Body}
use Rattle.record.specs.declared.record.Body.TheVariants as body
use Rattle.inbox.specs.Contents.{Contents, longest_item, bytes_held}
use Rattle.inbox.specs.Calls.{put_answer, holds, without}
use Rattle.rules.specs.Working.{allowed_reading, readings_from, readings_in, working_values, working_bytes}
use Rattle.trace.specs.States.{State}
use Rattle.trace.specs.Calls.{allowed_link, arriving, deliver_answer, round_answer}
use Rattle.trace.specs.Lines.{end}
use Rattle.trace.specs.Promises.{NotForProgram, NoProgramRefused}
use Rattle.trace.proofs.Stays.{limits_stay_lem}

not_after : {A B : Type 0} (m : Outcome A) (f : A → Outcome B) → NotForProgram m → ((a : A) → NotForProgram (f a)) → NotForProgram (after m f)
not_after (Err x) f h g = h
not_after (Ok a) f h g = g a

not_must : (t : Bool) (c : Cause) (p : ℕ) → eqb (listed c).layer 1 ≡ false → NotForProgram (must t c p)
not_must true c p h = tt
not_must false c p h = eqb-false (listed c).layer 1 h

module _ {V : Type 0} (k : Meaning V) where
  not_header : (program me : ℕ) (m : List ℕ) → NotForProgram (header program me m)
  not_header program me m =
      not_after (must (leb header_length (length m) && leb (length m) most_bytes) cause.MessageLength 0) _ (not_must _ _ _ refl) (λ _.
      not_after (must (eqb (byte_at m 0) version) cause.MessageVersion 0) _ (not_must _ _ _ refl) (λ _.
      not_after (must (eqb (pair_at m count_offset) (counted (length m))) cause.MessageCount count_offset) _ (not_must _ _ _ refl) (λ _.
      not_after (must (eqb (quad_at m program_offset) program) cause.OtherProgram program_offset) _ (not_must _ _ _ refl) (λ _.
      not_after (must (not (eqb (pair_at m sender_offset) me)) cause.OwnMessage sender_offset) _ (not_must _ _ _ refl) (λ _. tt)))))

  not_allowed : (p : ℕ) (o : Option V) → NotForProgram (allowed p o)
  not_allowed p None = λ e. omega arith
  not_allowed p (Some v) = tt

  not_entries : (d : V) (base : ℕ) (bs : List ℕ) (n low at : ℕ) → NotForProgram (entries k d base bs n low at)
  not_entries d base bs zero low at = tt
  not_entries d base bs (suc n) low at =
      not_after (allowed (base + (at + 2)) (k.read (part bs (at + 2) k.width))) _ (not_allowed _ _) (λ v.
      not_after (must (leb low (pair_at bs at)) cause.EntryRefused (base + at)) _ (not_must _ _ _ refl) (λ _.
      not_after (must (not (k.same v d)) cause.EntryRefused (base + (at + 2))) _ (not_must _ _ _ refl) (λ _.
      not_after (entries k d base bs n (pair_at bs at + 1) (at + (2 + k.width))) _ (not_entries d base bs n (pair_at bs at + 1) (at + (2 + k.width))) (λ es. tt))))

  not_judged : (p : ℕ) (s : Shape) → NotForProgram (judged k p s)
  not_judged p (choosing at place b) =
      not_after (must (eqb (pair_at place 0) p) cause.PlaceNotDue (at + 2)) _ (not_must _ _ _ refl) (λ _.
      not_after (must (leb (byte_at b 0) 1) cause.ChoiceRefused (at + 4)) _ (not_must _ _ _ refl) (λ _. tt))
  not_judged p (sending at place default n bs) =
      not_after (must (eqb (pair_at place 0) p) cause.PlaceNotDue (at + 2)) _ (not_must _ _ _ refl) (λ _.
      not_after (allowed (at + 4) (k.read default)) _ (not_allowed _ _) (λ d.
      not_after (entries k d (at + 5 + k.width) bs n 0 0) _ (not_entries d (at + 5 + k.width) bs n 0 0) (λ es. tt)))

  not_shape : (b : Body) (m : List ℕ) (at : ℕ) → NotForProgram (shape_at b k.width m at)
  not_shape b m at =
      not_after (must (leb (at + 2) (length m)) cause.MessageCut at) _ (not_must _ _ _ refl) (λ _.
      not_after (must (leb (end_at m at) (length m)) cause.MessageCut at) _ (not_must _ _ _ refl) (λ _.
      not_after (must (fits b k.width m at) cause.RecordCount at) _ (not_must _ _ _ refl) (λ _. tt)))

  not_record : (b : Body) (p : ℕ) (m : List ℕ) (at : ℕ) → NotForProgram (record_at k b p m at)
  not_record b p m at = not_after (shape_at b k.width m at) _ (not_shape b m at) (λ s. not_after (judged k p s) _ (not_judged p s) (λ r. tt))

  not_either : {A : Type 0} (b : Bool) (x y : Outcome A) → NotForProgram x → NotForProgram y → NotForProgram (cond b x y)
  not_either true x y h g = h
  not_either false x y h g = g

  not_records : (m : List ℕ) (plan : Plan) (at : ℕ) → NotForProgram (records k m plan at)
  not_records m nothing at = tt
  not_records m (sent_at p) at = not_after (record_at k body.Exchange p m at) _ (not_record body.Exchange p m at) (λ r. tt)
  not_records m (choice_at p a b) at =
      not_after (record_at k body.Choice p m at) _ (not_record body.Choice p m at) (λ r.
      not_after (cond (is_first r.0) (records k m a r.1) (records k m b r.1)) _
      (not_either (is_first r.0) _ _ (not_records m a r.1) (not_records m b r.1)) (λ y. tt))
  not_records m (a ⨾ b) at =
      not_after (records k m a at) _ (not_records m a at) (λ x.
      not_after (records k m b x.1) _ (not_records m b x.1) (λ y. tt))

  not_message : (plan : Plan) (program me : ℕ) (m : List ℕ) → NotForProgram (message k plan program me m)
  not_message plan program me m =
      not_after (header program me m) _ (not_header program me m) (λ s.
      not_after (records k m plan header_length) _ (not_records m plan header_length) (λ t.
      not_after (must (eqb t.1 (length m)) cause.MessageLeftover t.1) _ (not_must _ _ _ refl) (λ _. tt)))

  not_put : (c : Contents) (s : ℕ) (x : List ℕ) → NotForProgram (put_answer c s x)
  not_put c s x =
      not_either (ltb longest_item (length x)) _ _ (λ e. omega arith)
      (not_either (not (holds c.items s) && leb c.sender_limit (length c.items)) _ _ (λ e. omega arith)
      (not_either (ltb c.byte_limit (bytes_held (without c.items s) + length x)) _ _ (λ e. omega arith) tt))

  not_link : (o : Option V) → NotForProgram (allowed_link o)
  not_link None = λ e. omega arith
  not_link (Some v) = tt

  not_reading : (p : ℕ) (o : Option V) → NotForProgram (allowed_reading p o)
  not_reading p None = λ e. omega arith
  not_reading p (Some v) = tt

  not_readings : (n at : ℕ) (bs : List ℕ) → NotForProgram (readings_from k n at bs)
  not_readings zero at bs = tt
  not_readings (suc n) at bs =
      not_after (allowed_reading at (k.read (part bs at k.width))) _ (not_reading _ _) (λ v.
      not_after (readings_from k n (at + k.width) bs) _ (not_readings n (at + k.width) bs) (λ vs. tt))

  -- asked first whether it suits
  not_suited : {A : Type 0} (b : Bool) (c : Cause) (p : ℕ) (f : Unit {0} → Outcome A) → b ≡ true → NotForProgram (f tt) → NotForProgram (after (must b c p) f)
  not_suited true c p f e h = h
  not_suited false c p f e h = let z : ◌≡◌ {A = ℕ} 0 1 = cc in absurd (omega arith)

  not_deliver : (s : State) → suits k (shown s.program) ≡ true → (link m : List ℕ) → NotForProgram (deliver_answer k s link m)
  not_deliver s h link m =
      not_after (arriving k s link m) _
      (not_suited (suits k (shown s.program)) cause.OtherKind 7 _ h (not_after (allowed_link (k.read link)) _ (not_link (k.read link)) (λ v. not_message (due (run_of s.program) 0) (shown s.program).header.number s.number m)))
      (λ t. not_after (put_answer s.inbox t.sender (link ++ m)) _ (not_put s.inbox t.sender (link ++ m)) (λ _. tt))

  not_round : (s : State) → suits k (shown s.program) ≡ true → (b : List ℕ) (values bytes output : ℕ) → NotForProgram (round_answer k s b values bytes output)
  not_round s h b values bytes output =
      not_suited (suits k (shown s.program)) cause.OtherKind 7 _ h
      (not_after (readings_in k (shown s.program).header.sensors b) _
      (not_after (must (eqb (length b) ((shown s.program).header.sensors * k.width)) cause.ReadingsRefused 0) _ (not_must _ _ _ refl) (λ _. not_readings (shown s.program).header.sensors 0 b)) (λ vs.
      not_after (must (leb working_values values && leb working_bytes bytes) cause.MemoryShort 0) _ (not_must _ _ _ refl) (λ _.
      not_after (must (leb most_bytes output) cause.OutputShort 0) _ (not_must _ _ _ refl) (λ _. tt))))

pub no_program_refused : (V : Type 0) → NoProgramRefused V
no_program_refused V k l h =
    let e : suits k (shown (end k l).program) ≡ true = subst (λ (p : Program). suits k (shown p) ≡ true) (sym (limits_stay_lem V k l).program) h in
    record { deliveries = not_deliver k (end k l) e; rounds = not_round k (end k l) e }
