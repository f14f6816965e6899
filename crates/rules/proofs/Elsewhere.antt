-- Values are the same at all numbers that are neither own nor held.
use Rattle.std.proofs.Common.{◌≡◌, ℕ, zero, suc, ◌+◌, Bool, true, false, cond, List, [], ◌∷◌, ◌++◌, get_or, sym, refl, ne_eqb}
use Rattle.kind.specs.Kind.{Meaning}
use Rattle.program.specs.Expressions.{Expr, Exprs, literal, variable, bind, operator, fold, exchange, share, branch, call, sensor, link, own, choose, none, then}
use Rattle.program.specs.Measures.{places, places_all}
use Rattle.record.specs.Trees.{silent}
use Rattle.rules.specs.Rules.{Field, everywhere, Sender, Given, hears, link_to, received, senders, Out, work, work_all}
use Rattle.rules.specs.Laws.{Apart, from, SameElsewhere, ValuesSameElsewhere}

module _ {V : Type 0} (g : Given V) where
  unheard : (p n : ℕ) (ss : List (Sender V)) → Apart n (senders ss) → hears g.number p n ss ≡ silent
  unheard p n [] a = refl
  unheard p n (s ∷ ss) (from d a) = rw (ne_eqb s.number n (λ e. d (sym e))) (unheard p n ss a)

  unlinked : (u : V) (n : ℕ) (ss : List (Sender V)) → Apart n (senders ss) → link_to u n ss ≡ u
  unlinked u n [] a = refl
  unlinked u n (s ∷ ss) (from d a) = rw (ne_eqb s.number n (λ e. d (sym e))) (unlinked u n ss a)

  either_way : (b : Bool) (v : V) → cond b v v ≡ v
  either_way true v = refl
  either_way false v = refl

  received_same : (al : ℕ → Bool) (p : ℕ) (v : V) → SameElsewhere g (received g al p v)
  received_same al p v = record { is = λ n d a. rw (ne_eqb n g.number d, unheard p n g.held a) (either_way (al n) v) }

  all_numbers : (v : V) → SameElsewhere g (everywhere v)
  all_numbers v = record { is = λ n d a. refl }

  data AllSame : List (Field V) → Type 0 where
    none_left : AllSame []
    one_then : {f : Field V} {fs : List (Field V)} → SameElsewhere g f → AllSame fs → AllSame (f ∷ fs)

  behind_same : {fs : List (Field V)} {f : Field V} → AllSame fs → SameElsewhere g f → AllSame (fs ++ (f ∷ []))
  behind_same none_left s = one_then s none_left
  behind_same (one_then t ts) s = one_then t (behind_same ts s)

  variable_same : {fs : List (Field V)} (v : V) (n : ℕ) → AllSame fs → SameElsewhere g (get_or fs n (everywhere v))
  variable_same v n none_left = all_numbers v
  variable_same v zero (one_then t ts) = t
  variable_same v (suc n) (one_then t ts) = variable_same v n ts

  one_of_same : (t : Bool) (x y : Out V) → SameElsewhere g x.value → SameElsewhere g y.value → SameElsewhere g (cond t x y).value
  one_of_same true x y f h = f
  one_of_same false x y f h = h

module _ {V : Type 0} (k : Meaning V) (g : Given V) where
  mutual
    unfolding work

    same : (e : Expr) {env : List (Field V)} → AllSame g env → (al : ℕ → Bool) (p : ℕ) → SameElsewhere g (work k g e env al p).value
    same (literal bs) s al p = all_numbers g _
    same (variable m) s al p = variable_same g k.own m s
    same (bind x y) s al p = same y (behind_same g s (same x s al p)) al (p + places x)
    same (operator o x y) s al p =
        record { is = λ n d a. λ i. k.apply o ((same x s al p).is n d a i) ((same y s al (p + places x)).is n d a i) }
    same (fold o x y) s al p = all_numbers g _
    same (exchange x y z) s al p = same y (behind_same g s (received_same g al _ _)) al (p + places x)
    same (share x y) s al p = same y (behind_same g s (received_same g al _ _)) al (p + places x)
    same (branch x y z) s al p = one_of_same g _ _ _ (same y s _ (p + places x + 1)) (same z s _ (p + places x + 1 + places y))
    same (call xs y) s al p = same y (all_same xs s al p) al (p + places_all xs)
    same (sensor m) s al p = all_numbers g _
    same link s al p = record { is = λ n d a. rw (ne_eqb n g.number d) (unlinked g k.unknown n g.held a) }
    same (own x) s al p = all_numbers g _
    same (choose x y z) s al p =
        record { is = λ n d a. λ i. cond (k.truth ((same x s al p).is n d a i)) ((same y s al (p + places x)).is n d a i) ((same z s al (p + places x + places y)).is n d a i) }

    all_same : (es : Exprs) {env : List (Field V)} → AllSame g env → (al : ℕ → Bool) (p : ℕ) → AllSame g (work_all k g es env al p).values
    all_same none s al p = none_left
    all_same (then e es) s al p = one_then (same e s al p) (all_same es s al (p + places e))

pub values_same_elsewhere : (V : Type 0) → ValuesSameElsewhere V
values_same_elsewhere V k g e = same k g e none_left (λ n. true) 0
