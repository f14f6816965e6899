-- The places of due records rise. Assumes nothing.
use Rattle.std.proofs.Common.{◌≡◌, ℕ, ◌+◌, ◌<◌, ◌≤◌, List, ◌++◌, refl, arith}
use Rattle.kind.specs.Kind.{Meaning}
use Rattle.program.specs.Expressions.{Expr, Exprs, literal, variable, bind, operator, fold, exchange, share, branch, call, sensor, link, own, choose, none, then}
use Rattle.program.specs.Measures.{places, places_all}
use Rattle.record.specs.Trees.{Rec, RisingPlaces, no_record, record_then}
use Rattle.record.specs.Plans.{Plan, nothing, sent_at, choice_at, ◌⨾◌, due, due_all}
use Rattle.record.specs.Writing.{Follows, ended, sends, first, second, both}

-- the places of a plan rise from `low` on and stay below `high`
abbrev Within : ℕ → Plan → ℕ → Type 0
Within low nothing high = low ≤ high
Within low (sent_at p) high = (low ≤ p) × (p < high)
Within low (choice_at p a b) high = (low ≤ p) × (p < high) × Within (p + 1) a high × Within (p + 1) b high
Within low (a ⨾ b) high = (middle : ℕ) × Within low a middle × Within middle b high

within_le : (low : ℕ) (plan : Plan) (high : ℕ) → Within low plan high → low ≤ high
within_le low nothing high w = w
within_le low (sent_at p) high w = let a = w.0 in let b = w.1 in omega arith
within_le low (choice_at p a b) high w = let l = w.0 in let h = w.1 in omega arith
within_le low (a ⨾ b) high w = let x = within_le low a w.0 w.1 in let y = within_le w.0 b high w.2 in omega arith

wider : (low : ℕ) (plan : Plan) (high more : ℕ) → high ≤ more → Within low plan high → Within low plan more
wider low nothing high more h w = omega arith
wider low (sent_at p) high more h w = (w.0, let b = w.1 in omega arith)
wider low (choice_at p a b) high more h w = (w.0, let l = w.1 in omega arith, wider (p + 1) a high more h w.2, wider (p + 1) b high more h w.3)
wider low (a ⨾ b) high more h w = (w.0, w.1, wider w.0 b high more h w.2)

lower : (less low : ℕ) (plan : Plan) (high : ℕ) → less ≤ low → Within low plan high → Within less plan high
lower less low nothing high h w = omega arith
lower less low (sent_at p) high h w = (let a = w.0 in omega arith, w.1)
lower less low (choice_at p a b) high h w = (let l = w.0 in omega arith, w.1, w.2, w.3)
lower less low (a ⨾ b) high h w = (w.0, lower less low a w.0 h w.1, w.2)

mutual
  placed : (e : Expr) (p high : ℕ) → high ≡ p + places e → Within p (due e p) high
  placed (literal v) p high h = omega arith
  placed (variable n) p high h = omega arith
  placed (bind a b) p high h = (p + places a, placed a p (p + places a) refl, placed b (p + places a) high (omega arith))
  placed (operator n a b) p high h = (p + places a, placed a p (p + places a) refl, placed b (p + places a) high (omega arith))
  placed (fold n a b) p high h = (p + places a, placed a p (p + places a) refl, placed b (p + places a) high (omega arith))
  placed (exchange a b c) p high h =
      let p₁ : ℕ = p + places a in
      let p₂ : ℕ = p₁ + places b in
      let p₃ : ℕ = p₂ + places c in
      (p₃, (p₂, (p₁, placed a p p₁ refl, placed b p₁ p₂ refl), placed c p₂ p₃ refl), (omega arith, omega arith))
  placed (share a b) p high h =
      let p₁ : ℕ = p + places a in
      let p₂ : ℕ = p₁ + places b in
      (p₂, (p₁, placed a p p₁ refl, placed b p₁ p₂ refl), (omega arith, omega arith))
  placed (branch a b c) p high h =
      let p₁ : ℕ = p + places a in (
        p₁,
        placed a p p₁ refl,
        (
          omega arith,
          omega arith,
          wider (p₁ + 1) (due b (p₁ + 1)) (p₁ + 1 + places b) high (omega arith) (placed b (p₁ + 1) (p₁ + 1 + places b) refl),
          lower (p₁ + 1) (p₁ + 1 + places b) (due c (p₁ + 1 + places b)) high (omega arith) (placed c (p₁ + 1 + places b) high (omega arith)),
        ),
      )
  placed (call es b) p high h = (p + places_all es, placed_all es p (p + places_all es) refl, placed b (p + places_all es) high (omega arith))
  placed (sensor n) p high h = omega arith
  placed link p high h = omega arith
  placed (own a) p high h = placed a p high h
  placed (choose a b c) p high h =
      let p₁ : ℕ = p + places a in
      let p₂ : ℕ = p₁ + places b in
      (p₂, (p₁, placed a p p₁ refl, placed b p₁ p₂ refl), placed c p₂ high (omega arith))

  placed_all : (es : Exprs) (p high : ℕ) → high ≡ p + places_all es → Within p (due_all es p) high
  placed_all none p high h = omega arith
  placed_all (then e es) p high h = (p + places e, placed e p (p + places e) refl, placed_all es (p + places e) high (omega arith))

module _ {V : Type 0} where
  from_lower : {high low : ℕ} {rs : List (Rec V)} (less : ℕ) → less ≤ low → RisingPlaces high low rs → RisingPlaces high less rs
  from_lower less h no_record = no_record
  from_lower less h (record_then l u r) = record_then (omega arith) u r

  joined : {middle low : ℕ} {rs ss : List (Rec V)} (high : ℕ) → low ≤ middle → middle ≤ high → RisingPlaces middle low rs → RisingPlaces high middle ss → RisingPlaces high low (rs ++ ss)
  joined high h g no_record s = from_lower _ h s
  joined high h g (record_then l u r) s = record_then l (omega arith) (joined high (omega arith) g r s)

  rising : (k : Meaning V) {plan : Plan} {rs : List (Rec V)} → Follows k plan rs → (low high : ℕ) → Within low plan high → RisingPlaces high low rs
  rising k ended low high w = no_record
  rising k (sends small few fair) low high w = record_then w.0 w.1 no_record
  rising k (first small f) low high w = record_then w.0 w.1 (rising k f _ high w.2)
  rising k (second small f) low high w = record_then w.0 w.1 (rising k f _ high w.3)
  rising k (both {a} {b} f g) low high w = joined high (within_le low a w.0 w.1) (within_le w.0 b high w.2) (rising k f low w.0 w.1) (rising k g w.0 high w.2)

  pub places_rise_lem : (k : Meaning V) (e : Expr) (p : ℕ) (rs : List (Rec V)) → Follows k (due e p) rs → RisingPlaces (p + places e) p rs
  places_rise_lem k e p rs f = rising k f p (p + places e) (placed e p (p + places e) refl)
