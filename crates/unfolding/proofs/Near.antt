-- Where expressions end, and what a step has of places. Assumes nothing.
use Rattle.std.proofs.Common.{◌≡◌, ℕ, zero, suc, ◌+◌, ◌-◌, ◌<◌, ◌≤◌, List, length, get_or, Some, None, Option, sym, refl, ap, ◌∙◌, ⊎_elim, arith}
use Rattle.std.proofs.lemmas.List.{get_or_past}
use Rattle.std.proofs.lemmas.Bool.{cases_lt}
use Rattle.program.specs.Expressions.{Expr, Exprs, link}
use Rattle.program.specs.Measures.{places, places_all}
use Rattle.unfolding.specs.Unfolding.{expression_of, expression_at, named, count_in, own_places, body_places, start, listed, unfolded_by, unfolded_or, unfolded}
use Rattle.unfolding.proofs.Decoding.{start_low}
use Rattle.program.specs.declared.function.Function.{Function}
use Rattle.program.specs.declared.expression.Expression.{Expression}
use Rattle.program.specs.declared.expression.Expression.TheVariants.{Literal, Variable, Let, Operator, Fold, Exchange, Share, If, Call, Sensor, Link, Own, Choose}

module _ (w : ℕ) (code : List ℕ) (table : List Function) (wide : 1 ≤ w) (narrow : w ≤ 16) where
  pub near_start : (at : ℕ) (st : Expression) → Some st ≡ expression_at code at → at ≤ length code + 17 → start w at st ≤ length code + 17
  near_start at st e h = ⊎_elim
      (λ (lt : at < length code). omega (arith, start_low w at (get_or code at 0) (get_or code (at + 1) 0) st wide e))
      (λ (past : length code ≤ at). let z : Some st ≡ None = e ∙ ap (λ c. expression_of c (get_or code (at + 1) 0) at) (get_or_past code at 0 past) in let y : ◌≡◌ {A = ℕ} 0 1 = cc in absurd (omega arith))
      (cases_lt at (length code))

  module _ (read : ℕ → Expr × ℕ) (near : (a : ℕ) → a ≤ length code + 17 → (read a).1 ≤ length code + 17) where
    pub near_listed : (n at : ℕ) → at ≤ length code + 17 → (listed read n at).1 ≤ length code + 17
    near_listed zero at h = h
    near_listed (suc n) at h = near_listed n (read at).1 (near at h)

    near_step : (at : ℕ) (st : Expression) → start w at st ≤ length code + 17 → (unfolded_by w code table read at st).1 ≤ length code + 17
    near_step at (Literal from) h = h
    near_step at (Variable n) h = h
    near_step at Let h = near _ (near _ h)
    near_step at (Operator n) h = near _ (near _ h)
    near_step at (Fold n) h = near _ (near _ h)
    near_step at Exchange h = near _ (near _ (near _ h))
    near_step at Share h = near _ (near _ h)
    near_step at If h = near _ (near _ (near _ h))
    near_step at (Call n) h = near_listed (named table n).parameters _ h
    near_step at (Sensor n) h = h
    near_step at Link h = h
    near_step at Own h = near _ h
    near_step at Choose h = near _ (near _ (near _ h))

  near_or : (read : ℕ → Expr × ℕ) → ((a : ℕ) → a ≤ length code + 17 → (read a).1 ≤ length code + 17) → (at : ℕ) → at ≤ length code + 17 →
      (o : Option Expression) → o ≡ expression_at code at → (unfolded_or w code table read at o).1 ≤ length code + 17
  near_or read near at h None e = h
  near_or read near at h (Some st) e = near_step read near at st (near_start at st e h)

  pub near_unfolded : (d at : ℕ) → at ≤ length code + 17 → (unfolded w code table d at).1 ≤ length code + 17
  near_unfolded zero at h = h
  near_unfolded (suc d) at h = near_or (unfolded w code table d) (near_unfolded d) at h (expression_at code at) refl

module _ (w : ℕ) (code : List ℕ) (table : List Function) (read : ℕ → Expr × ℕ) (at : ℕ) where
  pub end_by : (st : Expression) → (unfolded_by w code table read at st).1 ≡ (listed read (count_in table st) (start w at st)).1
  end_by (Literal from) = refl
  end_by (Variable n) = refl
  end_by Let = refl
  end_by (Operator n) = refl
  end_by (Fold n) = refl
  end_by Exchange = refl
  end_by Share = refl
  end_by If = refl
  end_by (Call n) = refl
  end_by (Sensor n) = refl
  end_by Link = refl
  end_by Own = refl
  end_by Choose = refl

  pub places_by : (st : Expression) → places (unfolded_by w code table read at st).0 ≡ places_all (listed read (count_in table st) (start w at st)).0 + body_places table read st + own_places st
  places_by (Literal from) = refl
  places_by (Variable n) = refl
  places_by Let = omega arith
  places_by (Operator n) = omega arith
  places_by (Fold n) = omega arith
  places_by Exchange = omega arith
  places_by Share = omega arith
  places_by If = omega arith
  places_by (Call n) = omega arith
  places_by (Sensor n) = refl
  places_by Link = refl
  places_by Own = omega arith
  places_by Choose = omega arith

module _ (w : ℕ) (code : List ℕ) (table : List Function) where
  -- at a depth the expression is known
  pub deep : (d at : ℕ) (st : Expression) → 1 ≤ d → Some st ≡ expression_at code at → unfolded w code table d at ≡ unfolded_by w code table (unfolded w code table (d - 1)) at st
  deep zero at st h e = absurd (omega arith)
  deep (suc d) at st h e = let p : d ≡ suc d - 1 = omega arith in λ i. unfolded_or w code table (unfolded w code table (p i)) at (sym e i)

  -- or there is none
  pub blank : (d at : ℕ) → expression_at code at ≡ None → unfolded w code table d at ≡ (link, at)
  blank zero at e = refl
  blank (suc d) at e = ap (unfolded_or w code table (unfolded w code table d) at) e

-- what is known of an expression at a depth, once its number of parts and their beginning are
pub record Known (w : ℕ) (code : List ℕ) (table : List Function) (d at : ℕ) (st : Expression) (n s : ℕ) : Type 0 where
  pub near : s ≤ length code + 17
  pub is : unfolded w code table d at ≡ unfolded_by w code table (unfolded w code table (d - 1)) at st
  pub end : (unfolded w code table d at).1 ≡ (listed (unfolded w code table (d - 1)) n s).1
  pub count : places (unfolded w code table d at).0 ≡ places_all (listed (unfolded w code table (d - 1)) n s).0 + body_places table (unfolded w code table (d - 1)) st + own_places st

pub known : (w : ℕ) (code : List ℕ) (table : List Function) (d at : ℕ) (st : Expression) (n s v : ℕ)
    → 1 ≤ w → w ≤ 16 → at ≤ length code + 17 → 1 ≤ d → Some st ≡ expression_at code at → n ≡ count_in table st → s ≡ start v at st → v ≡ w → Known w code table d at st n s
known w code table d at st n s v wide narrow low deep' e en es ew =
    let q : s ≡ start w at st = es ∙ ap (λ u. start u at st) ew in
    let is = deep w code table d at st deep' e in
    let read = unfolded w code table (d - 1) in
    let l : listed read (count_in table st) (start w at st) ≡ listed read n s = λ i. listed read (sym en i) (sym q i) in
    record {
      near = let h = near_start w code table wide narrow at st e low in omega arith;
      is = is;
      end = ap (λ (x : Expr × ℕ). x.1) is ∙ end_by w code table read at st ∙ ap (λ (x : Exprs × ℕ). x.1) l;
      count = ap (λ (x : Expr × ℕ). places x.0) is ∙ places_by w code table read at st ∙ ap (λ (x : Exprs × ℕ). places_all x.0 + body_places table read st + own_places st) l;
    }

-- parts in a row: the first and the others
pub record Split (read : ℕ → Expr × ℕ) (n at : ℕ) : Type 0 where
  pub end : (listed read n at).1 ≡ (listed read (n - 1) (read at).1).1
  pub count : places_all (listed read n at).0 ≡ places (read at).0 + places_all (listed read (n - 1) (read at).1).0

pub split : (read : ℕ → Expr × ℕ) (n at : ℕ) → 1 ≤ n → Split read n at
split read zero at h = absurd (omega arith)
split read (suc n) at h = let p : n ≡ suc n - 1 = omega arith in record {
  end = ap (λ m. (listed read m (read at).1).1) p;
  count = ap (λ m. places (read at).0 + places_all (listed read m (read at).1).0) p;
}

-- parts in a row of which some are walked: where the next begins, and how many places the walked have
pub record Walked (read : ℕ → Expr × ℕ) (n at walked next inside : ℕ) : Type 0 where
  pub end : (listed read n at).1 ≡ (listed read (n - walked) next).1
  pub count : places_all (listed read n at).0 ≡ inside + places_all (listed read (n - walked) next).0

module _ {read : ℕ → Expr × ℕ} {n at walked next inside : ℕ} (w : Walked read n at walked next inside) where
  -- there are at least the places of the next part
  pub walked_next : walked < n → inside + places (read next).0 ≤ places_all (listed read n at).0
  walked_next h = let s = split read (n - walked) next (omega arith) in let c = s.count in omega (arith, w.count)

  pub walked_more : (m k : ℕ) → walked < n → m ≡ (read next).1 → k ≡ places (read next).0 → Walked read n at (walked + 1) m (inside + k)
  walked_more m k h e f =
      let s = split read (n - walked) next (omega arith) in
      let p : n - walked - 1 ≡ n - (walked + 1) = omega arith in
      let l : listed read (n - walked - 1) (read next).1 ≡ listed read (n - (walked + 1)) m = λ i. listed read (p i) (sym e i) in
      record {
        end = w.end ∙ s.end ∙ ap (λ (x : Exprs × ℕ). x.1) l;
        count = let c = s.count in let b = ap (λ (x : Exprs × ℕ). places_all x.0) l in omega (arith, w.count);
      }
