-- Due records take at most the weight of their expression. Assumes nothing.
use Rattle.std.proofs.Common.{◌≡◌, ℕ, ◌+◌, ◌*◌, ◌≤◌, max, List, [], length, refl, ap, ◌∙◌, mul-le-mul_right, arith, length-append}
use native.Mathlib.Nat.{le-max_left, le-max_right}
use Rattle.kind.specs.Kind.{Meaning, Lawful}
use Rattle.program.specs.Expressions.{Expr, Exprs, literal, variable, bind, operator, fold, exchange, share, branch, call, sensor, link, own, choose, none, then}
use Rattle.program.specs.Measures.{places, places_all, weight, weight_all, record_weight}
use Rattle.record.specs.Headers.{header_length, most_bytes}
use Rattle.record.specs.Shapes.{most_entries}
use Rattle.record.specs.Trees.{Rec, Tree, sent}
use Rattle.record.specs.Plans.{Plan, nothing, sent_at, choice_at, ◌⨾◌, due, due_all}
use Rattle.record.specs.Writing.{written_record, written_records, written_tree, Follows, ended, sends, first, second, both}
use Rattle.record.proofs.Written.{sent_long, records_both}

-- the most bytes that the records of a plan take
abbrev most : ℕ → Plan → ℕ
most w nothing = 0
most w (sent_at p) = record_weight w
most w (choice_at p a b) = 5 + max (most w a) (most w b)
most w (a ⨾ b) = most w a + most w b

module _ (w : ℕ) where
  mutual
    weighs : (e : Expr) (p : ℕ) → most w (due e p) ≡ weight w e
    weighs (literal v) p = refl
    weighs (variable n) p = refl
    weighs (bind a b) p = λ i. weighs a p i + weighs b (p + places a) i
    weighs (operator n a b) p = λ i. weighs a p i + weighs b (p + places a) i
    weighs (fold n a b) p = λ i. weighs a p i + weighs b (p + places a) i
    weighs (exchange a b c) p = λ i. weighs a p i + weighs b (p + places a) i + weighs c (p + places a + places b) i + record_weight w
    weighs (share a b) p = λ i. weighs a p i + weighs b (p + places a) i + record_weight w
    weighs (branch a b c) p = (λ i. weighs a p i + (5 + max (weighs b (p + places a + 1) i) (weighs c (p + places a + 1 + places b) i))) ∙ omega arith
    weighs (call es b) p = λ i. weighs_all es p i + weighs b (p + places_all es) i
    weighs (sensor n) p = refl
    weighs link p = refl
    weighs (own a) p = weighs a p
    weighs (choose a b c) p = λ i. weighs a p i + weighs b (p + places a) i + weighs c (p + places a + places b) i

    weighs_all : (es : Exprs) (p : ℕ) → most w (due_all es p) ≡ weight_all w es
    weighs_all none p = refl
    weighs_all (then e es) p = λ i. weighs e p i + weighs_all es (p + places e) i

module _ {V : Type 0} (k : Meaning V) (laws : Lawful k) where
  bounded : {plan : Plan} {rs : List (Rec V)} → Follows k plan rs → length (written_records k rs) ≤ most k.width plan
  bounded ended = omega arith
  bounded (sends {p} {d} {es} small few fair) =
      let r = written_record k (sent p d es) in
      let l = sent_long k laws p d es in
      let a = length-append r [] in
      let m : length es * (2 + k.width) ≤ most_entries * (2 + k.width) = mul-le-mul_right (2 + k.width) few in
      omega arith
  bounded (first {p} {a} {b} {rs} small f) =
      let h = bounded f in
      let m = le-max_left (most k.width a) (most k.width b) in
      omega arith
  bounded (second {p} {a} {b} {rs} small f) =
      let h = bounded f in
      let m = le-max_right (most k.width a) (most k.width b) in
      omega arith
  bounded (both {a} {b} {rs} {ss} f g) =
      let h = bounded f in
      let i = bounded g in
      let j = ap length (records_both k laws rs ss) in
      let l = length-append (written_records k rs) (written_records k ss) in
      omega arith

  pub weight_bounds : (e : Expr) (p : ℕ) (rs : List (Rec V)) → Follows k (due e p) rs → length (written_records k rs) ≤ weight k.width e
  weight_bounds e p rs f = let h = bounded f in let w = weighs k.width e p in omega arith

  pub tree_fits : (e : Expr) (p program : ℕ) (t : Tree V) → weight k.width e + header_length ≤ most_bytes → Follows k (due e p) t.records → length (written_tree k program t) ≤ most_bytes
  tree_fits e p program t h f = let b = weight_bounds e p t.records f in omega arith
