-- How a round begins and what it gives.
use Rattle.std.proofs.Common.{◌≡◌, ℕ, zero, suc, ◌+◌, ◌-◌, ◌*◌, ◌<◌, ◌≤◌, Bool, true, false, ◌&&◌, leb, List, [], ◌++◌, length, get_or, take, drop, replicate, Ok, Err, sym, refl, ap, ◌∙◌, subst, ⊎_elim, arith, length-take, get_or-drop, get_or-take, le-leb}
use Rattle.std.proofs.lemmas.List.{get_or_past}
use Rattle.std.proofs.lemmas.Bool.{cases_lt}
use Rattle.std.proofs.lemmas.Bool.Decides.{nat_tests}
use Rattle.refusal.specs.Outcomes.{Outcome, after, must, mapped}
use Rattle.refusal.specs.declared.cause.Cause.TheVariants as cause
use Rattle.kind.specs.Kind.{Meaning, Lawful}
use Rattle.program.specs.declared.program.Program.{Program}
use Rattle.program.specs.Expressions.{Expr}
use Rattle.program.specs.Measures.{depth, places, weight}
use Rattle.program.specs.Programs.{shown, run_of}
use Rattle.program.specs.Verdict.{suits}
use Rattle.program.proofs.Shown.{run_within, places_few}
use Rattle.record.specs.declared.output.Output.{Output}
use Rattle.record.specs.Fields.{part, Bytes}
use Rattle.record.specs.Headers.{header_length, most_bytes, written_header}
use Rattle.record.specs.Trees.{Rec}
use Rattle.record.specs.Writing.{written_records, written_tree}
use Rattle.record.proofs.Grows.{grown_part}
use Rattle.inbox.specs.Contents.{Item, longest_item}
use Rattle.row_stack.specs.declared.row_stack.RowStack.{RowStack}
use Rattle.rules.specs.Rules.{Given, work, round, result, tree}
use Rattle.rules.specs.Working.{readings_in, worked_out, outcome_of, working_values, working_bytes, told, on_output}
use Rattle.unfolding.specs.Walks.{unfolded_in}
use Rattle.cursor.specs.Cursors.{Readable}
use Rattle.cursor.proofs.Standing.{readable_accepted}
use Rattle.held.specs.Slots.{slot_tree}
use Rattle.held.proofs.Senders.{loaded_tree}
use Rattle.hearing.specs.declared.inputs.Inputs.{Inputs}
use Rattle.hearing.specs.declared.cursors.Cursors.{Cursors}
use Rattle.hearing.specs.Hearing.{Gives, Standing, Flags}
use Rattle.steps.specs.declared.frame.Frame.{Frame}
use Rattle.steps.specs.Frames.{Framed}
use Rattle.round.specs.Machines.{Machine, machine, ReadyOne, Worked}
use Rattle.round.specs.Outcomes.{GivesOut, Supplies, GivesRound}
use Rattle.round.proofs.Stacks.{own_at}
use Rattle.round.proofs.Outputs.{judged, tree_out}

-- a program for the kind has its width
pub suits_width : {V : Type 0} (k : Meaning V) (p : Program) → suits k (shown p) ≡ true → (shown p).shape.width ≡ k.width
suits_width k p h = grind (arith, nat_tests)

pub run_light : {V : Type 0} (k : Meaning V) (p : Program) → suits k (shown p) ≡ true → weight k.width (run_of p) ≤ 2039
run_light k p h = subst (λ (v : ℕ). weight v (run_of p) ≤ 2039) (suits_width k p h) (run_within p).weight

module _ {V : Type 0} (k : Meaning V) (x : Inputs) (fits : suits k (shown x.program.now) ≡ true) (d from : ℕ)
    (is : (unfolded_in x.program.now d from).0 ≡ run_of x.program.now) where
  abbrev p : Program
  p = x.program.now

  light : weight k.width (unfolded_in p d from).0 ≤ 2039
  light = let w = run_light k p fits in let e = ap (weight k.width) is in omega arith

  pub start_ready : (rows : RowStack V) (out : Output) (c : Cursors) (f : Frame) (flags : List Bool)
      → rows.width ≡ 2 + x.slots.now.count → length rows.cells.now ≡ working_values → out.len ≡ header_length → most_bytes ≤ length out.bytes.now → f.count ≡ 0 → length flags ≡ 16
      → from ≤ length (shown p).block + 17 → d ≡ depth (run_of p) → d ≤ 32 → places (run_of p) ≤ 4096
      → ReadyOne k x flags f 0 d from (machine rows out c 0)
  start_ready rows out c f flags wide cells len room none flags_are near deep shallow few =
      let e1 = ap depth is in
      let e2 = ap places is in
      let l = light in
      record {
        width = suits_width k p fits;
        near = near;
        deep_is = omega arith;
        shallow = shallow;
        few = omega arith;
        wide = wide;
        cells_are = omega arith;
        cells_few = omega arith;
        names = omega arith;
        below = record { rows = λ i h. absurd (omega arith) };
        room = omega arith;
        flags_are = flags_are;
      }

  -- where the records end
  pub record Ended (n : Machine V) (out : Output) : Type 0 where
    pub long : header_length ≤ n.output.len
    pub short : n.output.len ≤ most_bytes
    pub room : n.output.len ≤ length n.output.bytes.now
    pub cells : length n.rows.cells.now ≡ working_values
    pub wide : 2 ≤ n.rows.width
    pub same : length n.output.bytes.now ≡ length out.bytes.now

  pub ended : (rows : RowStack V) (out : Output) (c : Cursors) (f : Frame) (flags : List Bool) (n : Machine V) (end : ℕ)
      → rows.width ≡ 2 + x.slots.now.count → length rows.cells.now ≡ working_values → out.len ≡ header_length → most_bytes ≤ length out.bytes.now
      → Worked k x flags f 0 (machine rows out c 0) n end (unfolded_in p d from) → Ended n out
  ended rows out c f flags n end wide cells len room a =
      let l = light in
      let r = a.wrote.grown.room in
      record { long = omega arith; short = omega arith; room = omega arith; cells = omega arith; wide = omega arith; same = r }

  all_set : (n j : ℕ) → j < n → get_or (replicate n true) j false ≡ true
  all_set zero j h = absurd (omega arith)
  all_set (suc n) zero h = refl
  all_set (suc n) (suc j) h = all_set n j (omega arith)

  pub run_out : (rows : RowStack V) (out : Output) (c : Cursors) (f : Frame) (flags : List Bool) (n : Machine V) (end : ℕ) (v : V) (final : Output) (number : ℕ)
      → rows.width ≡ 2 + x.slots.now.count → length rows.cells.now ≡ working_values → out.len ≡ header_length → most_bytes ≤ length out.bytes.now → f.count ≡ 0 → flags ≡ replicate 16 true
      → number ≡ (shown p).header.number
      → ((g : Given V) → Gives k x g → Standing k x g 0 c)
      → Worked k x flags f 0 (machine rows out c 0) n end (unfolded_in p d from)
      → ((z : V) → v ≡ get_or n.rows.cells.now 1 z)
      → final.len ≡ n.output.len
      → final.bytes.now ≡ written_header number x.node (n.output.len - header_length) ++ drop header_length n.output.bytes.now
      → ((rs : List (Rec V)) → part n.output.bytes.now header_length (n.output.len - header_length) ≡ written_records k rs → take final.len final.bytes.now ≡ written_tree k number (record { sender = x.node; records = rs }))
      → GivesOut k x v final.len out.bytes.now final.bytes.now
  run_out rows out c f flags n end v final number wide cells len room none all numbers begins a reads same bytes front =
      let e = ended rows out c f flags n end wide cells len room a in
      let e4 = e.same in
      let e5 = e.wide in
      record {
        fits = omega arith;
        means = λ g gi.
            let framed : Framed k g f rows [] = record { count_is = none; rows = λ i h. absurd (omega arith) } in
            let flagged : Flags g (λ z. true) flags = record { is = λ j s h. ap (λ (l : List Bool). get_or l j false) all ∙ all_set 16 j (omega arith) } in
            let A = a.means g [] (λ z. true) gi framed flagged (begins g gi) in
            let run : Expr = run_of p in
            let value : v ≡ result k g run = reads k.own ∙ own_at n.rows 0 g (work k g (unfolded_in p d from).0 [] (λ z. true) 0).value k.own e5 A.rows ∙ ap (λ (y : Expr). result k g y) is in
            let records : a.bytes ≡ written_records k (round k g run).records = A.records_are ∙ ap (λ (y : Expr). written_records k (round k g y).records) is in
            let lay : part n.output.bytes.now header_length (n.output.len - header_length) ≡ a.bytes =
            ap (λ (z : ℕ). part n.output.bytes.now z (n.output.len - z)) (sym len) ∙ grown_part a.wrote.grown (omega arith) in
            let sender : x.node ≡ g.number = sym gi.number in
            let tree_is : take final.len final.bytes.now ≡ written_tree k (shown p).header.number (tree k g run) =
            front (round k g run).records (lay ∙ records) ∙ (λ i. written_tree k (numbers i) (record { sender = sender i; records = (round k g run).records })) in
            let o = tree_out out.bytes.now n.output.bytes.now final.bytes.now (written_tree k (shown p).header.number (tree k g run)) (written_header number x.node (n.output.len - header_length)) final.len
            (omega arith) e4 refl (omega arith) tree_is bytes (subst (λ (z : ℕ). drop z n.output.bytes.now ≡ drop z out.bytes.now) (sym same) a.wrote.grown.tail) in
            record { value = value; length_is = o.0; output = o.1 };
      }

-- THE PARTS OF THE INPUTS are bytes
bytes_drop : (n : ℕ) (m : List ℕ) → Bytes m → Bytes (drop n m)
bytes_drop n m b i = subst (λ (z : ℕ). z < 256) (sym (get_or-drop n m i 0)) (b (n + i))

bytes_take : (n : ℕ) (m : List ℕ) → Bytes m → Bytes (take n m)
bytes_take n m b i = ⊎_elim
    (λ (h : i < n). subst (λ (z : ℕ). z < 256) (sym (get_or-take n m i 0 h)) (b i))
    (λ (h : n ≤ i). let l = length-take n m in subst (λ (z : ℕ). z < 256) (sym (get_or_past (take n m) i 0 (omega arith))) (omega arith))
    (cases_lt i n)

pub gives_of : {V : Type 0} (k : Meaning V) (lawful : Lawful k) (x : Inputs) (g : Given V) → Bytes x.bytes.now
    → Supplies k x.program.now x.node x.slots.now x.bytes.now x.own.now x.readings.now g → Gives k x g
gives_of k lawful x g bytes s = record {
  number = s.number;
  readings = s.readings_are;
  held = s.held;
  trees = λ j d h.
      let t = loaded_tree s.held j d (omega arith) in
      let few : places (run_of x.program.now) ≤ 65536 = let a = places_few (run_of x.program.now) in let b = (run_within x.program.now).size in omega arith in
      subst (λ (rs : List (Rec _)). Readable k (slot_tree k.width x.bytes.now x.slots.now j) rs) t.2
      (readable_accepted lawful (run_of x.program.now) few (shown x.program.now).header.number x.node (slot_tree k.width x.bytes.now x.slots.now j) t.0 (bytes_drop k.width _ (bytes_take (get_or x.slots.now.lengths j 0) (drop (j * longest_item) x.bytes.now) (bytes_drop (j * longest_item) x.bytes.now bytes))) t.1);
  last = s.last;
  orderly = s.orderly;
}

-- THE WHOLE CALL
module _ {V : Type 0} (k : Meaning V) (p : Program) (me : ℕ) (items : List Item) (last readings : List ℕ) (values bytes : ℕ) (old new : List ℕ) (v : V) (n : ℕ)
    (fits : suits k (shown p) ≡ true) (read : judged (readings_in k (shown p).header.sensors readings) ≡ Ok tt)
    (some-values : working_values ≤ values) (some_bytes : working_bytes ≤ bytes) (some-output : most_bytes ≤ length old)
    (given : GivesRound k p me items last readings v n old new) where
  abbrev whole : Bool → Outcome (List V) → Bool → Bool → Outcome (V × List ℕ)
  whole b o c d =
      after (must b cause.OtherKind 7) (λ _.
      after o (λ vs.
      after (must c cause.MemoryShort 0) (λ _.
      after (must d cause.OutputShort 0) (λ _.
      Ok (outcome_of k p me items last vs)))))

  memory_enough : (leb working_values values && leb working_bytes bytes) ≡ true
  memory_enough = let a = le-leb working_values values some-values in let b = le-leb working_bytes bytes some_bytes in (λ i. a i && leb working_bytes bytes) ∙ b

  output_enough : leb most_bytes (length old) ≡ true
  output_enough = le-leb most_bytes (length old) some-output

  values_of : (o : Outcome (List V)) → judged o ≡ Ok tt → (vs : List V) × (o ≡ Ok vs)
  values_of (Ok vs) e = (vs, refl)
  values_of (Err r) e = let z : ◌≡◌ {A = ℕ} 0 1 = cc in absurd (omega arith)

  pub round_worked : (Ok (v, n) ≡ mapped told (worked_out k p me items last readings values bytes (length old))) × (new ≡ on_output (worked_out k p me items last readings values bytes (length old)) old)
  round_worked =
      let r = values_of (readings_in k (shown p).header.sensors readings) read in
      let vs = r.0 in
      let m = memory_enough in
      let o = output_enough in
      let w : worked_out k p me items last readings values bytes (length old) ≡ Ok (outcome_of k p me items last vs) = λ i. whole (fits i) (r.1 i) (m i) (o i) in
      let h = given.means vs r.1 in
      let a = h.value in
      let b = h.length_is in
      ((λ i. Ok (a i, b i)) ∙ ap (mapped told) (sym w), h.output ∙ ap (λ (y : Outcome (V × List ℕ)). on_output y old) (sym w))
