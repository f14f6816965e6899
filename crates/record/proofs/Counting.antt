-- A record by the bytes that it counts. Assumes nothing.
use Rattle.std.proofs.Common.{◌≡◌, ℕ, ◌+◌, ◌*◌, ◌≤◌, Bool, true, false, cond, ◌&&◌, eqb, leb, List, length, take, drop, Some, None, Ok, Option, option_map, ok_or, sym, refl, ap, ◌∙◌, arith, drop-drop, eq-eqb, le-leb, eqb-true, leb-true}
use Rattle.std.specs.Cmp.{both_ways}
use Rattle.std.proofs.lemmas.Bool.{and_parts, and_from}
use Rattle.std.proofs.lemmas.List.{drop-take, take-take}
use Rattle.refusal.specs.Outcomes.{refusal, after, must, mapped}
use Rattle.refusal.specs.declared.refused.Refusal.{Refusal}
use Rattle.refusal.specs.declared.cause.Cause.{Cause}
use Rattle.refusal.specs.declared.cause.Cause.TheVariants as cause
use Rattle.record.specs.Fields.{byte_at, pair_at, part}
use Rattle.record.specs.Shapes.{choosing, sending, end_at, counted_at, fits, shape, shape_of, shape_at, most_entries}
use Rattle.record.specs.declared.record.Body.{Body}
use Rattle.record.specs.declared.record.Body.TheVariants as body
use Rattle.record.proofs.Spans.{part_length, part_part, byte_part}

some_when : {A : Type 0} (t : Bool) (x y : A) → cond t (Some x) None ≡ Some y → (t ≡ true) × (x ≡ y)
some_when true x y e = (refl, cc)
some_when false x y e = let z : ◌≡◌ {A = ℕ} 0 1 = cc in absurd (omega arith)

none_when : {A : Type 0} (t : Bool) (x : A) → cond t (Some x) None ≡ None → t ≡ false
none_when true x e = let z : ◌≡◌ {A = ℕ} 0 1 = cc in absurd (omega arith)
none_when false x e = refl

same_when : {A : Type 0} (t : Bool) (x y : A) → (t ≡ true → x ≡ y) → cond t (Some x) None ≡ cond t (Some y) None
same_when true x y e = ap (λ (z : _). Some z) (e refl)
same_when false x y e = refl

-- what is counted, where it is there
pub record Counts (m : List ℕ) (at : ℕ) (bs : List ℕ) : Type 0 where
  pub begun : at + 2 ≤ length m
  pub ended : end_at m at ≤ length m
  pub is : part m (at + 2) (pair_at m at) ≡ bs
  pub long : length bs ≡ pair_at m at

pub counts : (m : List ℕ) (at : ℕ) (bs : List ℕ) → counted_at m at ≡ Some bs → Counts m at bs
counts m at bs e =
    let s = some_when (leb (at + 2) (length m) && leb (end_at m at) (length m)) (part m (at + 2) (pair_at m at)) bs e in
    let p = and_parts (leb (at + 2) (length m)) (leb (end_at m at) (length m)) s.0 in
    let ended : end_at m at ≤ length m = leb-true _ _ p.1 in
    record {
      begun = leb-true _ _ p.0;
      ended = ended;
      is = s.1;
      long = ap length (sym s.1) ∙ part_length m (at + 2) (pair_at m at) ended;
    }

-- the record by its counted bytes is that in the message
framed_is : (b : Body) (w : ℕ) (m : List ℕ) (at : ℕ) → end_at m at ≤ length m → shape_of b w at (part m (at + 2) (pair_at m at)) ≡ cond (fits b w m at) (Some (shape b w m at)) None
framed_is body.Choice w m at h =
    let n = pair_at m at in
    let bs = part m (at + 2) n in
    let long : length bs ≡ n = part_length m (at + 2) n h in
    let test : eqb (length bs) 3 ≡ fits body.Choice w m at =
    both_ways _ _ (λ t. let q = eqb-true (length bs) 3 t in eq-eqb (end_at m at) (at + 5) (omega arith)) (λ t. let q = eqb-true (end_at m at) (at + 5) t in eq-eqb (length bs) 3 (omega arith)) in
    same_when (eqb (length bs) 3) _ _ (λ t.
    let q = eqb-true (length bs) 3 t in
    let three : n ≡ 2 + 1 = omega arith in
    let place : take 2 bs ≡ part m (at + 2) 2 = take-take 2 n (drop (at + 2) m) (omega arith) in
    let e4 : at + 2 + 2 ≡ at + 4 = omega arith in
    let bit : drop 2 bs ≡ part m (at + 4) 1 = ap (λ z. drop 2 (take z (drop (at + 2) m))) three ∙ drop-take 2 1 (drop (at + 2) m) ∙ ap (take 1) (drop-drop 2 (at + 2) m) ∙ ap (λ i. part m i 1) e4 in
    λ j. choosing at (place j) (bit j))
    ∙ ap (λ t. cond t (Some (shape body.Choice w m at)) None) test
framed_is body.Exchange w m at h =
    let n = pair_at m at in
    let bs = part m (at + 2) n in
    let size = byte_at m (at + 4 + w) * (2 + w) in
    let few = leb (byte_at m (at + 4 + w)) most_entries in
    let long : length bs ≡ n = part_length m (at + 2) n h in
    let number : 3 + w ≤ n → byte_at bs (2 + w) ≡ byte_at m (at + 4 + w) = λ le.
    let e : at + 2 + (2 + w) ≡ at + 4 + w = omega arith in
    byte_part m (at + 2) n (2 + w) (omega arith) ∙ ap (byte_at m) e in
    let mine = leb (3 + w) (length bs) && leb (byte_at bs (2 + w)) most_entries && eqb (length bs) (3 + w + byte_at bs (2 + w) * (2 + w)) in
    let test : mine ≡ fits body.Exchange w m at = both_ways _ _
    (λ t.
    let x = and_parts (leb (3 + w) (length bs) && leb (byte_at bs (2 + w)) most_entries) _ t in
    let y = and_parts (leb (3 + w) (length bs)) _ x.0 in
    let le : 3 + w ≤ length bs = leb-true _ _ y.0 in
    let number = number (omega arith) in
    let all : length bs ≡ 3 + w + size = eqb-true _ _ x.1 ∙ ap (λ i. 3 + w + i * (2 + w)) number in
    and_from _ _ (and_from _ _ (le-leb (at + 5 + w) (end_at m at) (omega arith)) (ap (λ i. leb i most_entries) (sym number) ∙ y.1)) (eq-eqb (end_at m at) (at + 5 + w + size) (omega arith)))
    (λ t.
    let x = and_parts (leb (at + 5 + w) (end_at m at) && few) _ t in
    let y = and_parts (leb (at + 5 + w) (end_at m at)) few x.0 in
    let le : at + 5 + w ≤ end_at m at = leb-true _ _ y.0 in
    let all : end_at m at ≡ at + 5 + w + size = eqb-true _ _ x.1 in
    let number = number (omega arith) in
    let own : 3 + w + size ≡ 3 + w + byte_at bs (2 + w) * (2 + w) = ap (λ i. 3 + w + i * (2 + w)) (sym number) in
    and_from _ _ (and_from _ _ (le-leb (3 + w) (length bs) (omega arith)) (ap (λ i. leb i most_entries) number ∙ y.1)) (eq-eqb (length bs) _ (omega arith))) in
    same_when mine _ _ (λ t.
    let f = sym test ∙ t in
    let x = and_parts (leb (at + 5 + w) (end_at m at) && few) _ f in
    let all : end_at m at ≡ at + 5 + w + size = eqb-true _ _ x.1 in
    let n_is : n ≡ 3 + w + size = omega arith in
    let e4 : at + 2 + 2 ≡ at + 4 = omega arith in
    let e5 : at + 2 + (3 + w) ≡ at + 5 + w = omega arith in
    let place : take 2 bs ≡ part m (at + 2) 2 = take-take 2 n (drop (at + 2) m) (omega arith) in
    let default : take w (drop 2 bs) ≡ part m (at + 4) w = part_part m (at + 2) n 2 w (omega arith) ∙ ap (λ i. part m i w) e4 in
    let entries : drop (3 + w) bs ≡ part m (at + 5 + w) size =
    ap (λ z. drop (3 + w) (take z (drop (at + 2) m))) n_is ∙ drop-take (3 + w) size (drop (at + 2) m) ∙ ap (take size) (drop-drop (3 + w) (at + 2) m) ∙ ap (λ i. part m i size) e5 in
    λ j. sending at (place j) (default j) (number (omega arith) j) (entries j))
    ∙ ap (λ t. cond t (Some (shape body.Exchange w m at)) None) test

-- as a result, or a refusal
pub mapped_or : {A B : Type 0} (f : A → B) (o : Option A) (r : Refusal) → mapped f (ok_or o r) ≡ ok_or (option_map f o) r
mapped_or f None r = refl
mapped_or f (Some x) r = refl

or_refused : {A : Type 0} (t : Bool) (x : A) (c : Cause) (p : ℕ) → ok_or (cond t (Some x) None) (refusal c p) ≡ after (must t c p) (λ _. Ok x)
or_refused true x c p = refl
or_refused false x c p = refl

pub shape_by : (b : Body) (w : ℕ) (m : List ℕ) (at : ℕ) (bs : List ℕ) → counted_at m at ≡ Some bs → ok_or (shape_of b w at bs) (refusal cause.RecordCount at) ≡ shape_at b w m at
shape_by b w m at bs e =
    let c = counts m at bs e in
    let t1 = le-leb (at + 2) (length m) c.begun in
    let t2 = le-leb (end_at m at) (length m) c.ended in
    rw (t1, t2) (
    ap (λ z. ok_or (shape_of b w at z) (refusal cause.RecordCount at)) (sym c.is)
    ∙ ap (λ z. ok_or z (refusal cause.RecordCount at)) (framed_is b w m at c.ended)
    ∙ or_refused (fits b w m at) (shape b w m at) cause.RecordCount at)
