-- The proof of isolation.
use Rattle.std.proofs.Common.{◌≡◌, ℕ, ◌+◌, Bool, true, false, cond, ◌&&◌, eqb, List, [], ◌∷◌, ◌++◌, get_or, refl, subst, eqb-true}
use mathlib.Core.Path.{fun_ext}
use Rattle.kind.specs.Kind.{Meaning}
use Rattle.program.specs.Expressions.{Expr, Exprs, literal, variable, bind, operator, fold, exchange, share, branch, call, sensor, link, own, choose, none, then}
use Rattle.program.specs.Measures.{places, places_all}
use Rattle.record.specs.Trees.{Rec, choice, sent, says, Agree}
use Rattle.record.proofs.Agreement.{agrees_as_said}
use Rattle.rules.specs.Rules.{Spot, Field, at, elsewhere, or_else, is_choice}
use Rattle.rules.specs.Rules.{Sender, Given, hears, link_to, senders, everywhere, links, received, narrowed, folded, entries, with_own, record_of, Out, work, work_all}
use Rattle.rules.specs.Isolation.{Visits, here, later, AllMatched, more, SameFor, Isolation}
use Rattle.rules.specs.Isolation as stated

agree_says : {V : Type 0} (n p : ℕ) (t u : List (Rec V)) → Agree n p t u → says n p t ≡ says n p u
agree_says n p t u a = (agrees_as_said n p t u).same_said a

module _ {V : Type 0} {n : ℕ} {A : ℕ → Bool} {P : ℕ → Type 0} where
  same_senders : {ss ts : List (Sender V)} → AllMatched n A P ss ts → senders ss ≡ senders ts
  same_senders stated.none = refl
  same_senders (more m ms) = λ i. m.number i ∷ same_senders ms i

  same_link : {ss ts : List (Sender V)} (u : V) (x : ℕ) → AllMatched n A P ss ts → link_to u x ss ≡ link_to u x ts
  same_link u x stated.none = refl
  same_link u x (more m ms) = λ i. cond (eqb (m.number i) x) (m.link i) (same_link u x ms i)

  same_hears : {ss ts : List (Sender V)} (p x : ℕ) → A x ≡ true → P p → AllMatched n A P ss ts → hears n p x ss ≡ hears n p x ts
  same_hears p x a v stated.none = refl
  same_hears p x a v (more {s} {t} {ss} {ts} m ms) =
      subst (λ b. cond (eqb s.number x) (says n p s.tree) (hears n p x ss) ≡ cond b (says n p t.tree) (hears n p x ts)) (λ j. eqb (m.number j) x)
      (go (eqb s.number x) refl (same_hears p x a v ms))
    where
      go : (b : Bool) → eqb s.number x ≡ b → hears n p x ss ≡ hears n p x ts → cond b (says n p s.tree) (hears n p x ss) ≡ cond b (says n p t.tree) (hears n p x ts)
      go true e r = agree_says n p s.tree t.tree (m.trees (rw (eqb-true s.number x e) a) p v)
      go false e r = r

early : {V : Type 0} {p : ℕ} {xs : List (Rec V)} (ys : List (Rec V)) → Visits p xs → Visits p (xs ++ ys)
early ys (here e) = here e
early ys (later m) = later (early ys m)

late : {V : Type 0} {p : ℕ} (xs : List (Rec V)) {ys : List (Rec V)} → Visits p ys → Visits p (xs ++ ys)
late [] m = m
late (x ∷ xs) m = later (late xs m)

-- what the two rounds share wherever they go, and what they hear alike at the places of P
record Shared {V : Type 0} (k : Meaning V) (A : ℕ → Bool) (P : ℕ → Type 0) (g h : Given V) : Type 0 where
  number : g.number ≡ h.number
  readings : g.readings ≡ h.readings
  last : g.last ≡ h.last
  numbers : senders g.held ≡ senders h.held
  linked : links k g ≡ links k h
  heard : (p : ℕ) → P p → (x : ℕ) → A x ≡ true → hears g.number p x g.held ≡ hears h.number p x h.held

either : {T : Type 0} {a b c d : T} (t u : Bool) → t ≡ u → (t ≡ true → a ≡ b) → (t ≡ false → c ≡ d) → cond t a c ≡ cond u b d
either {T} {a} {b} {c} {d} t u e f g = subst (λ x. cond t a c ≡ cond x b d) e (go t refl)
  where
    go : (x : Bool) → t ≡ x → cond x a c ≡ cond x b d
    go true e = f e
    go false e = g e

both : {c d : Bool} (t u : Bool) → t ≡ u → (t ≡ true → c ≡ d) → t && c ≡ u && d
both {c} {d} t u e f = subst (λ x. t && c ≡ x && d) e (go t refl)
  where
    go : (x : Bool) → t ≡ x → x && c ≡ x && d
    go true e = f e
    go false e = refl

first : (t c : Bool) → t && c ≡ true → t ≡ true
first true c e = refl
first false c e = e

in_true : {V : Type 0} {p : ℕ} (t : Bool) (a b : Out V) → t ≡ true → Visits p a.records → Visits p (cond t a b).records
in_true t a b e m = rw e m

in_false : {V : Type 0} {p : ℕ} (t : Bool) (a b : Out V) → t ≡ false → Visits p b.records → Visits p (cond t a b).records
in_false t a b e m = rw e m

longer : {V : Type 0} {env env' : List (Field V)} {f f' : Field V} → env ≡ env' → f ≡ f' → env ++ (f ∷ []) ≡ env' ++ (f' ∷ [])
longer e f = λ j. e j ++ (f j ∷ [])

module _ {V : Type 0} (k : Meaning V) (A₀ : ℕ → Bool) (P : ℕ → Type 0) (g h : Given V) (s : Shared k A₀ P g h) where
  -- the alignment of the two rounds is one, and only narrows
  record Alignment (al al' : ℕ → Bool) : Type 0 where
    same : al ≡ al'
    within : (x : ℕ) → al x ≡ true → A₀ x ≡ true

  same_received : {al bl : ℕ → Bool} {v w : V} (p : ℕ) → P p → Alignment al bl → v ≡ w → received g al p v ≡ received h bl p w
  same_received {al} {bl} {v} {w} p i a e = fun_ext at_spot
    where
      at_spot : (x : Spot) → received g al p v x ≡ received h bl p w x
      at_spot elsewhere = e
      at_spot (at n) =
          let other = either (al n) (bl n) (λ j. a.same j n) (λ t j. or_else (e j) (s.heard p i n (a.within n t) j)) (λ t. e) in
          λ j. cond (eqb n (s.number j)) (or_else (e j) (says (s.number j) p (s.last j))) (other j)

  same_truth : {f f' : Field V} → f ≡ f' → k.truth (f (at g.number)) ≡ k.truth (f' (at h.number))
  same_truth e = λ j. k.truth (e j (at (s.number j)))

  same_narrowed : {al bl : ℕ → Bool} (p : ℕ) (b : Bool) → P p → Alignment al bl → Alignment (narrowed g al p b) (narrowed h bl p b)
  same_narrowed {al} {bl} p b i a = record {
    same = fun_ext (λ n. both (al n) (bl n) (λ j. a.same j n) (λ t j. is_choice b (s.heard p i n (a.within n t) j)));
    within = λ n t. a.within n (first (al n) _ t);
  }

  same_record : {f f' : Field V} (p : ℕ) → f ≡ f' → record_of k g p f ≡ record_of k h p f'
  unfolding record_of
  same_record p e = λ j. sent p (e j elsewhere) (entries k (e j) (e j elsewhere) (with_own (s.number j) (s.numbers j)))

  mutual
    unfolding work record_of

    isolated : (e : Expr) {env env' : List (Field V)} {al al' : ℕ → Bool} (p : ℕ) → env ≡ env' → Alignment al al'
        → ((q : ℕ) → Visits q (work k g e env al p).records → P q)
        → work k g e env al p ≡ work k h e env' al' p
    isolated (literal v) p E A i = refl
    isolated (variable n) p E A i = λ j. record { value = get_or (E j) n (everywhere k.own); records = [] }
    isolated (bind a b) p E A i =
        let x = isolated a p E A (λ q m. i q (early _ m)) in
        let y = isolated b (p + places a) (longer E (λ j. (x j).value)) A (λ q m. i q (late _ m)) in
        λ j. record { value = (y j).value; records = (x j).records ++ (y j).records }
    isolated (operator n a b) p E A i =
        let x = isolated a p E A (λ q m. i q (early _ m)) in
        let y = isolated b (p + places a) E A (λ q m. i q (late _ m)) in
        λ j. record { value = λ s. k.apply n ((x j).value s) ((y j).value s); records = (x j).records ++ (y j).records }
    isolated (fold n a b) p E A i =
        let x = isolated a p E A (λ q m. i q (early _ m)) in
        let y = isolated b (p + places a) E A (λ q m. i q (late _ m)) in
        λ j. record { value = everywhere (folded (k.apply n) (A.same j) (x j).value ((y j).value (at (s.number j))) (s.numbers j)); records = (x j).records ++ (y j).records }
    isolated (exchange a b c) p E A i =
        let q = p + places a + places b + places c in
        let x = isolated a p E A (λ q m. i q (early _ (early _ (early _ m)))) in
        let got = same_received q (i q (late _ (here refl))) A (λ j. (x j).value (at (s.number j))) in
        let inner = longer E got in
        let y = isolated b (p + places a) inner A (λ q m. i q (early _ (early _ (late _ m)))) in
        let z = isolated c (p + places a + places b) inner A (λ q m. i q (early _ (late _ m))) in
        λ j. record { value = (y j).value; records = (x j).records ++ (y j).records ++ (z j).records ++ (same_record q (λ j. (z j).value) j ∷ []) }
    isolated (share a b) p E A i =
        let q = p + places a + places b in
        let x = isolated a p E A (λ q m. i q (early _ (early _ m))) in
        let got = same_received q (i q (late _ (here refl))) A (λ j. (x j).value (at (s.number j))) in
        let y = isolated b (p + places a) (longer E got) A (λ q m. i q (early _ (late _ m))) in
        λ j. record { value = (y j).value; records = (x j).records ++ (y j).records ++ (same_record q (λ j. (y j).value) j ∷ []) }
    isolated (branch a b c) {env} {env'} {al} {al'} p E A i =
        let q = p + places a in
        let x = isolated a p E A (λ q m. i q (early _ m)) in
        let t = same_truth (λ j. (x j).value) in
        let i-q = i q (late _ (here refl)) in
        let y = either _ _ t
        (λ e. isolated b (q + 1) E (same_narrowed q true i-q A) (λ q m. i q (late _ (later (in_true _ _ _ e m)))))
        (λ e. isolated c (q + 1 + places b) E (same_narrowed q false i-q A) (λ q m. i q (late _ (later (in_false _ _ _ e m))))) in
        λ j. record { value = (y j).value; records = (x j).records ++ (choice q (t j) ∷ (y j).records) }
    isolated (call es b) p E A i =
        let xs = isolated_all es p E A (λ q m. i q (early _ m)) in
        let y = isolated b (p + places_all es) (λ j. (xs j).values) A (λ q m. i q (late _ m)) in
        λ j. record { value = (y j).value; records = (xs j).records ++ (y j).records }
    isolated (sensor n) p E A i = λ j. record { value = everywhere (get_or (s.readings j) n k.own); records = [] }
    isolated link p E A i = λ j. record { value = s.linked j; records = [] }
    isolated (own a) p E A i =
        let x = isolated a p E A i in
        λ j. record { value = everywhere ((x j).value (at (s.number j))); records = (x j).records }
    isolated (choose a b c) p E A i =
        let x = isolated a p E A (λ q m. i q (early _ (early _ m))) in
        let y = isolated b (p + places a) E A (λ q m. i q (early _ (late _ m))) in
        let z = isolated c (p + places a + places b) E A (λ q m. i q (late _ m)) in
        λ j. record { value = λ s. cond (k.truth ((x j).value s)) ((y j).value s) ((z j).value s); records = (x j).records ++ (y j).records ++ (z j).records }

    isolated_all : (es : Exprs) {env env' : List (Field V)} {al al' : ℕ → Bool} (p : ℕ) → env ≡ env' → Alignment al al'
        → ((q : ℕ) → Visits q (work_all k g es env al p).records → P q)
        → work_all k g es env al p ≡ work_all k h es env' al' p
    isolated_all none p E A i = refl
    isolated_all (then e es) p E A i =
        let x = isolated e p E A (λ q m. i q (early _ m)) in
        let xs = isolated_all es (p + places e) E A (λ q m. i q (late _ m)) in
        λ j. record { values = (x j).value ∷ (xs j).values; records = (x j).records ++ (xs j).records }

shared : {V : Type 0} (k : Meaning V) (A : ℕ → Bool) (P : ℕ → Type 0) (g h : Given V) → SameFor A P g h → Shared k A P g h
shared {V} k A P g h s = record {
  number = s.number;
  readings = s.readings;
  last = s.last;
  numbers = same_senders s.held;
  linked = fun_ext at_spot;
  heard = λ p i x a. subst (λ n. hears g.number p x g.held ≡ hears n p x h.held) s.number (same_hears p x a i s.held);
}
  where
    at_spot : (x : Spot) → links k g x ≡ links k h x
    at_spot elsewhere = refl
    at_spot (at n) = λ j. cond (eqb n (s.number j)) k.own (same_link k.unknown n s.held j)

pub isolation : (V : Type 0) → Isolation V
isolation V k g h e env al p s =
    isolated k al _ g h (shared k al _ g h s) e p refl (record { same = refl; within = λ x t. t }) (λ q m. m)
