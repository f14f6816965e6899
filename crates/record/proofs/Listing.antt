-- A listing shows the records that were accepted. Assumes nothing.
use Rattle.std.proofs.Common.{◌≡◌, ℕ, ◌+◌, ◌*◌, ◌≤◌, true, ◌&&◌, eqb, leb, ◌≢◌, List, length, Some, Ok, sym, ap, ◌∙◌, arith, eq-eqb, ne_eqb, eqb-true, leb-true}
use Rattle.std.proofs.lemmas.Bool.{and_parts}
use Rattle.refusal.specs.Outcomes.{must}
use Rattle.refusal.proofs.Outcomes.{after_ok, must_ok}
use Rattle.kind.specs.Kind.{Meaning, Lawful}
use Rattle.record.specs.Fields.{byte_at, pair_at}
use Rattle.record.specs.Records.{judged, record_at}
use Rattle.record.specs.Shapes.{end_at, most_entries, fits, shape, shape_at, body_at, with_end, next_shape}
use Rattle.record.specs.Trees.{Rec}
use Rattle.record.specs.declared.record.Body.{Body}
use Rattle.record.specs.declared.record.Body.TheVariants as body

-- the count tells the body, where there are values
body_told : (b : Body) (w : ℕ) (m : List ℕ) (at : ℕ) → 1 ≤ w → fits b w m at ≡ true → body_at m at ≡ b
body_told body.Choice w m at some f =
    let e : end_at m at ≡ at + 5 = eqb-true _ _ f in
    let three : pair_at m at ≡ 3 = omega arith in
    rw (eq-eqb (pair_at m at) 3 three)
body_told body.Exchange w m at some f =
    let n = byte_at m (at + 4 + w) in
    let x = and_parts (leb (at + 5 + w) (end_at m at) && leb n most_entries) (eqb (end_at m at) (at + 5 + w + n * (2 + w))) f in
    let y = and_parts (leb (at + 5 + w) (end_at m at)) (leb n most_entries) x.0 in
    let le : at + 5 + w ≤ end_at m at = leb-true _ _ y.0 in
    let more : pair_at m at ≢ 3 = λ e. omega arith in
    rw (ne_eqb (pair_at m at) 3 more)

pub lists_due : {V : Type 0} (k : Meaning V) → Lawful k → (b : Body) (p : ℕ) (m : List ℕ) (at : ℕ) (x : Rec V × ℕ) → record_at k b p m at ≡ Ok x → next_shape k.width m at ≡ Some (shape b k.width m at, x.1)
lists_due {V} k laws b p m at x e =
    let c = after_ok (shape_at b k.width m at) _ x e in
    let a1 = after_ok (must (leb (at + 2) (length m)) _ _) _ _ c.1 in
    let a2 = after_ok (must (leb (end_at m at) (length m)) _ _) _ _ a1.2 in
    let a3 = after_ok (must (fits b k.width m at) _ _) _ _ a2.2 in
    let Shape-is = a3.2 in
    let d = after_ok (judged k p c.0) _ x c.2 in
    let last = d.2 in
    let pair_is : ◌≡◌ {A = Rec V × ℕ} (d.0, end_at m at) x = cc in
    let end_is : end_at m at ≡ x.1 = ap (λ (y : Rec V × ℕ). y.1) pair_is in
    let read : shape_at b k.width m at ≡ Ok (shape b k.width m at) = c.1 ∙ sym Shape-is in
    ap (λ y. with_end (end_at m at) (shape_at y k.width m at)) (body_told b k.width m at laws.some (must_ok _ _ _ _ a3.1))
    ∙ ap (with_end (end_at m at)) read
    ∙ ap (λ j. Some (shape b k.width m at, j)) end_is
