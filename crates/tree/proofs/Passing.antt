-- How a walk goes along the parts of an expression. Assumes nothing.
use Rattle.std.proofs.Common.{◌≡◌, ℕ, zero, suc, ◌+◌, ◌-◌, ◌≤◌, Bool, true, false, cond, List, [], ◌∷◌, Some, Ok, Err, sym, refl, ap, ◌∙◌, arith}
use Rattle.kind.specs.Kind.{Meaning}
use Rattle.refusal.specs.Outcomes.{Outcome, after, mapped}
use Rattle.record.specs.Records.{record_at}
use Rattle.record.specs.Messages.{records, behind_records}
use Rattle.record.specs.Plans.{Plan, nothing, sent_at, choice_at, ◌⨾◌, due, due_all}
use Rattle.program.specs.Expressions.{Expr, Exprs}
use Rattle.program.specs.Measures.{places, places_all}
use Rattle.record.specs.Trees.{Rec, is_first}
use Rattle.unfolding.specs.Unfolding.{named, count_in, start, listed, unfolded_by, unfolded, expression_at}
use Rattle.tree.specs.Walks.{Stand, walked, walked_parts, finished}
use Rattle.refusal.specs.declared.refused.Refusal.{Refusal}
use Rattle.refusal.proofs.Outcomes.{after_ok, ok_same, after_same, mapped_ok, mapped_err}
use Rattle.unfolding.proofs.Near.{deep}
use Rattle.record.specs.declared.record.Body.TheVariants as body
use Rattle.program.specs.declared.function.Function.{Function}
use Rattle.program.specs.declared.expression.Expression.{Expression}
use Rattle.program.specs.declared.expression.Expression.TheVariants.{Literal, Variable, Let, Operator, Fold, Exchange, Share, If, Call, Sensor, Link, Own, Choose}

pub after_assoc : {A B C : Type 0} (r : Outcome A) (f : A → Outcome B) (g : B → Outcome C) → after (after r f) g ≡ after r (λ a. after (f a) g)
after_assoc (Ok a) f g = refl
after_assoc (Err e) f g = refl

pub after_none : {A : Type 0} (r : Outcome A) → after r (λ a. Ok a) ≡ r
after_none (Ok a) = refl
after_none (Err e) = refl

module _ {V : Type 0} (k : Meaning V) (m : List ℕ) where
  -- what a plan does to a position
  abbrev pub passes : {B : Type 0} → Plan → ℕ → (ℕ → Outcome B) → Outcome B
  passes plan at f = after (records k m plan at) (λ x. f x.1)

  pub passes_both : {B : Type 0} (a b : Plan) (at : ℕ) (f : ℕ → Outcome B) → passes (a ⨾ b) at f ≡ passes a at (λ i. passes b i f)
  passes_both a b at f = after_assoc (records k m a at) _ _ ∙ after_same (records k m a at) _ _ (λ x. after_assoc (records k m b x.1) (behind_records x.0) (λ y. f y.1))

  pub passes_cong : {B : Type 0} (a : Plan) (at : ℕ) (f g : ℕ → Outcome B) → ((i : ℕ) → f i ≡ g i) → passes a at f ≡ passes a at g
  passes_cong a at f g h = after_same (records k m a at) _ _ (λ x. h x.1)

  pub passes_sent : {B : Type 0} (p at : ℕ) (f : ℕ → Outcome B) → passes (sent_at p) at f ≡ after (record_at k body.Exchange p m at) (λ r. f r.1)
  passes_sent p at f = after_assoc (record_at k body.Exchange p m at) _ _

  pub passes_choice : {B : Type 0} (p : ℕ) (a b : Plan) (at : ℕ) (f : ℕ → Outcome B) → passes (choice_at p a b) at f ≡ after (record_at k body.Choice p m at) (λ r. cond (is_first r.0) (passes a r.1 f) (passes b r.1 f))
  passes_choice {B} p a b at f = after_assoc (record_at k body.Choice p m at) _ _ ∙ after_same (record_at k body.Choice p m at) _ _ (λ r. inner (is_first r.0) r.0 r.1)
    where
      inner : (t : Bool) (r : Rec V) (i : ℕ) → after (after (cond t (records k m a i) (records k m b i)) (behind_records (r ∷ []))) (λ x. f x.1) ≡ cond t (passes a i f) (passes b i f)
      inner true r i = after_assoc (records k m a i) (behind_records (r ∷ [])) (λ x. f x.1)
      inner false r i = after_assoc (records k m b i) (behind_records (r ∷ [])) (λ x. f x.1)

  -- a walk, and then more
  pub walked_then : {B : Type 0} (e : Expr × ℕ) (p at : ℕ) (f : Stand → Outcome B) → after (walked k m e p at) f ≡ passes (due e.0 p) at (λ i. f (e.1, p + places e.0, i))
  walked_then e p at f = after_assoc (records k m (due e.0 p) at) _ f

  stand : {e p q at : ℕ} → p ≡ q → ◌≡◌ {A = Outcome Stand} (Ok (e, p, at)) (Ok (e, q, at))
  stand {e} {p} {q} {at} h = λ i. Ok (e, h i, at)

  module _ (read : ℕ → Expr × ℕ) where
    -- n parts, and then more
    pub listed_walk : {B : Type 0} (n from p at : ℕ) (f : Stand → Outcome B) → after (walked_parts k m read n from p at) f ≡ passes (due_all (listed read n from).0 p) at (λ i. f ((listed read n from).1, p + places_all (listed read n from).0, i))
    listed_walk zero from p at f = let e : p ≡ p + 0 = omega arith in ap (λ j. f (from, j, at)) e
    listed_walk (suc n) from p at f =
        after_assoc (walked k m (read from) p at) _ f ∙ walked_then (read from) p at _
        ∙ passes_cong (due (read from).0 p) at _ _ (λ i.
        listed_walk n (read from).1 (p + places (read from).0) i f
        ∙ passes_cong (due_all (listed read n (read from).1).0 (p + places (read from).0)) i _ _ (λ j.
        let e : p + places (read from).0 + places_all (listed read n (read from).1).0 ≡ p + (places (read from).0 + places_all (listed read n (read from).1).0) = omega arith in
        ap (λ s. f ((listed read n (read from).1).1, s, j)) e))
        ∙ sym (passes_both (due (read from).0 p) (due_all (listed read n (read from).1).0 (p + places (read from).0)) at _)

  one : {B : Type 0} (a : Plan) (q : ℕ) (f g : ℕ → Outcome B) → ((i : ℕ) → f i ≡ g i) → passes a q f ≡ passes (a ⨾ nothing) q g
  one a q f g h = passes_cong a q f g h ∙ sym (passes_both a nothing q g)

  two : {B : Type 0} (a b : Plan) (q : ℕ) (f g : ℕ → Outcome B) → ((i : ℕ) → f i ≡ g i) → passes (a ⨾ b) q f ≡ passes (a ⨾ (b ⨾ nothing)) q g
  two a b q f g h = passes_both a b q f ∙ passes_cong a q _ _ (λ i. one b i f g h) ∙ sym (passes_both a (b ⨾ nothing) q g)

  three : {B : Type 0} (a b c : Plan) (q : ℕ) (f g : ℕ → Outcome B) → ((i : ℕ) → f i ≡ g i) → passes (a ⨾ b ⨾ c) q f ≡ passes (a ⨾ (b ⨾ (c ⨾ nothing))) q g
  three a b c q f g h = passes_both (a ⨾ b) c q f ∙ passes_both a b q _ ∙ passes_cong a q _ _ (λ i. passes_cong b i _ _ (λ j. one c j f g h) ∙ sym (passes_both b (c ⨾ nothing) i g)) ∙ sym (passes_both a (b ⨾ (c ⨾ nothing)) q g)

  sent_place : (e s p' p i : ℕ) → s ≡ p' → p ≡ p' + 1 → passes {B = Stand} (sent_at s) i (λ j. Ok (e, p, j)) ≡ after (record_at k body.Exchange p' m i) (λ r. Ok (e, p' + 1, r.1))
  sent_place e s p' p i h g = passes_sent s i (λ j. Ok (e, p, j)) ∙ (λ j. after (record_at k body.Exchange (h j) m i) (λ r. Ok (e, g j, r.1)))

  module _ (w : ℕ) (code : List ℕ) (table : List Function) (read : ℕ → Expr × ℕ) (at p q : ℕ) where
    abbrev F : Expression → ℕ → Outcome Stand
    F st i = Ok ((unfolded_by w code table read at st).1, p + places (unfolded_by w code table read at st).0, i)

    abbrev xs : Expression → Exprs × ℕ
    xs st = listed read (count_in table st) (start w at st)

    abbrev G : Expression → ℕ → Outcome Stand
    G st i = finished k m table read st (xs st).1 (p + places_all (xs st).0) i

    abbrev Whole : Expression → Type 0
    Whole st = passes (due (unfolded_by w code table read at st).0 p) q (F st) ≡ passes (due_all (xs st).0 p) q (G st)

    whole : (st : Expression) → (st ≡ If → ⊥) → Whole st
    whole (Literal from) other = stand (omega arith)
    whole (Variable n) other = stand (omega arith)
    whole Let other =
        let a = read (at + 1) in
        let b = read a.1 in
        two (due a.0 p) (due b.0 (p + places a.0)) q (F (Let)) (G (Let)) (λ i. stand (omega arith))
    whole (Operator n) other =
        let a = read (at + 2) in
        let b = read a.1 in
        two (due a.0 p) (due b.0 (p + places a.0)) q (F ((Operator n))) (G ((Operator n))) (λ i. stand (omega arith))
    whole (Fold n) other =
        let a = read (at + 2) in
        let b = read a.1 in
        two (due a.0 p) (due b.0 (p + places a.0)) q (F ((Fold n))) (G ((Fold n))) (λ i. stand (omega arith))
    whole Exchange other =
        let a = read (at + 1) in
        let b = read a.1 in
        let c = read b.1 in
        let s = sent_at (p + places a.0 + places b.0 + places c.0) in
        passes_both (due a.0 p ⨾ due b.0 (p + places a.0) ⨾ due c.0 (p + places a.0 + places b.0)) s q (F Exchange)
        ∙ three (due a.0 p) (due b.0 (p + places a.0)) (due c.0 (p + places a.0 + places b.0)) q (λ i. passes s i (F Exchange)) (G Exchange) (λ i. sent_place c.1 (p + places a.0 + places b.0 + places c.0) (p + places_all (xs Exchange).0) (p + places (unfolded_by w code table read at Exchange).0) i (omega arith) (omega arith))
    whole Share other =
        let a = read (at + 1) in
        let b = read a.1 in
        let c = sent_at (p + places a.0 + places b.0) in
        passes_both (due a.0 p ⨾ due b.0 (p + places a.0)) c q (F Share)
        ∙ two (due a.0 p) (due b.0 (p + places a.0)) q (λ i. passes c i (F Share)) (G Share) (λ i. sent_place b.1 (p + places a.0 + places b.0) (p + places_all (xs Share).0) (p + places (unfolded_by w code table read at Share).0) i (omega arith) (omega arith))
    whole If other = absurd (other refl)
    whole (Call n) other =
        let ys = xs (Call n) in
        let b = read (named table n).start in
        let body = due b.0 (p + places_all ys.0) in
        passes_both (due_all ys.0 p) body q (F (Call n))
        ∙ passes_cong (due_all ys.0 p) q (λ i. passes body i (F (Call n))) (G (Call n)) (λ i. passes_cong body i (F (Call n)) (λ j. Ok (ys.1, p + places_all ys.0 + places b.0, j)) (λ j. stand (omega arith)) ∙ sym (walked_then b (p + places_all ys.0) i (λ x. Ok (ys.1, x.1, x.2))))
    whole (Sensor n) other = stand (omega arith)
    whole Link other = stand (omega arith)
    whole Own other = let a = read (at + 1) in one (due a.0 p) q (F Own) (G Own) (λ i. stand (omega arith))
    whole Choose other =
        let a = read (at + 1) in
        let b = read a.1 in
        let c = read b.1 in
        three (due a.0 p) (due b.0 (p + places a.0)) (due c.0 (p + places a.0 + places b.0)) q (F Choose) (G Choose) (λ i. stand (omega arith))

    pub by_parts : (st : Expression) → (st ≡ If → ⊥) → walked k m (unfolded_by w code table read at st) p q ≡ after (walked_parts k m read (count_in table st) (start w at st) p q) (λ x. finished k m table read st x.0 x.1 x.2)
    by_parts st other = whole st other ∙ sym (listed_walk read (count_in table st) (start w at st) p q (λ x. finished k m table read st x.0 x.1 x.2))

    -- an if
    pub by_branch : walked k m (unfolded_by w code table read at If) p q ≡ after (walked k m (read (at + 1)) p q) (λ x. after (record_at k body.Choice x.1 m x.2) (λ r. cond (is_first r.0)
        (after (walked k m (read x.0) (x.1 + 1) r.1) (λ y. Ok ((read y.0).1, y.1 + places (read y.0).0, y.2)))
        (walked k m (read (read x.0).1) (x.1 + 1 + places (read x.0).0) r.1)))
    by_branch =
        let a = read (at + 1) in
        let b = read a.1 in
        let c = read b.1 in
        let s = p + places a.0 in
        let db = due b.0 (s + 1) in
        let dc = due c.0 (s + 1 + places b.0) in
        let gb : Stand → Outcome Stand = λ y. Ok ((read y.0).1, y.1 + places (read y.0).0, y.2) in
        let after-a : Stand → Outcome Stand = λ x. after (record_at k body.Choice x.1 m x.2) (λ r. cond (is_first r.0) (after (walked k m (read x.0) (x.1 + 1) r.1) gb) (walked k m (read (read x.0).1) (x.1 + 1 + places (read x.0).0) r.1)) in
        let inner : (i : ℕ) → passes (choice_at s db dc) i (F If) ≡ after-a (a.1, s, i) =
        λ i. passes_choice s db dc i (F If)
        ∙ after_same (record_at k body.Choice s m i) (λ r. cond (is_first r.0) (passes db r.1 (F If)) (passes dc r.1 (F If))) (λ r. cond (is_first r.0) (after (walked k m b (s + 1) r.1) gb) (walked k m c (s + 1 + places b.0) r.1))
        (λ r.
        let x : passes db r.1 (F If) ≡ after (walked k m b (s + 1) r.1) gb = passes_cong db r.1 (F If) (λ l. Ok (c.1, s + 1 + places b.0 + places c.0, l)) (λ l. stand (omega arith)) ∙ sym (walked_then b (s + 1) r.1 gb) in
        let y : passes dc r.1 (F If) ≡ walked k m c (s + 1 + places b.0) r.1 = passes_cong dc r.1 (F If) (λ l. Ok (c.1, s + 1 + places b.0 + places c.0, l)) (λ l. stand (omega arith)) in
        λ j. cond (is_first r.0) (x j) (y j)) in
        passes_both (due a.0 p) (choice_at s db dc) q (F If) ∙ passes_cong (due a.0 p) q (λ i. passes (choice_at s db dc) i (F If)) (λ i. after-a (a.1, s, i)) inner ∙ sym (walked_then a p q after-a)

both_of : {x y : Stand} → x ≡ y → (x.0 ≡ y.0) × (x.1 ≡ y.1)
both_of e = (ap (λ (z : Stand). z.0) e, ap (λ (z : Stand). z.1) e)

module _ {V : Type 0} (k : Meaning V) (m : List ℕ) where
  pub walked_ok : (e : Expr × ℕ) (p q : ℕ) (x : Stand) → Ok x ≡ walked k m e p q → (x.0 ≡ e.1) × (x.1 ≡ p + places e.0)
  walked_ok e p q x h =
      let c = after_ok (records k m (due e.0 p) q) (λ y. Ok (e.1, p + places e.0, y.1)) x (sym h) in
      both_of (sym (ok_same {A = Stand} (e.1, p + places e.0, c.0.1) x c.2))

  pub parts_ok : (read : ℕ → Expr × ℕ) (n from p q : ℕ) (x : Stand) → Ok x ≡ walked_parts k m read n from p q → (x.0 ≡ (listed read n from).1) × (x.1 ≡ p + places_all (listed read n from).0)
  parts_ok read n from p q x h =
      let f : Stand → Outcome Stand = λ y. Ok y in
      let e = sym (after_none (walked_parts k m read n from p q)) ∙ listed_walk k m read n from p q f in
      let c = after_ok (records k m (due_all (listed read n from).0 p) q) (λ y. Ok ((listed read n from).1, p + places_all (listed read n from).0, y.1)) x (sym (h ∙ e)) in
      both_of (sym (ok_same {A = Stand} ((listed read n from).1, p + places_all (listed read n from).0, c.0.1) x c.2))

  pub parts_next : (read : ℕ → Expr × ℕ) (n from p q : ℕ) (x : Stand) → 1 ≤ n → Ok x ≡ walked k m (read from) p q → walked_parts k m read n from p q ≡ walked_parts k m read (n - 1) x.0 x.1 x.2
  parts_next read zero from p q x l h = absurd (omega arith)
  parts_next read (suc n) from p q x l h =
      let e : n ≡ suc n - 1 = omega arith in
      ap (λ r. after r (λ x. walked_parts k m read n x.0 x.1 x.2)) (sym h) ∙ ap (λ j. walked_parts k m read j x.0 x.1 x.2) e

  pub parts_break : (read : ℕ → Expr × ℕ) (n from p q : ℕ) (e : Refusal) → 1 ≤ n → Err e ≡ walked k m (read from) p q → Err e ≡ walked_parts k m read n from p q
  parts_break read zero from p q e l h = absurd (omega arith)
  parts_break read (suc n) from p q e l h = ap (λ r. after r (λ x. walked_parts k m read n x.0 x.1 x.2)) h

  module _ (w : ℕ) (code : List ℕ) (table : List Function) (d at : ℕ) (Deep-one : 1 ≤ d) (p q : ℕ) where
    abbrev rd : ℕ → Expr × ℕ
    rd = unfolded w code table (d - 1)

    pub stepped : (st : Expression) (n s v : ℕ) → (st ≡ If → ⊥) → Some st ≡ expression_at code at → n ≡ count_in table st → s ≡ start v at st → v ≡ w
        → walked k m (unfolded w code table d at) p q ≡ after (walked_parts k m rd n s p q) (λ x. finished k m table rd st x.0 x.1 x.2)
    stepped st n s v other e en es ew =
        ap (λ (x : Expr × ℕ). walked k m x p q) (deep w code table d at st Deep-one e)
        ∙ by_parts k m w code table rd at p q st other
        ∙ (λ i. after (walked_parts k m rd (sym en i) (sym (es ∙ ap (λ u. start u at st) ew) i) p q) (λ x. finished k m table rd st x.0 x.1 x.2))

    abbrev gb : Stand → Outcome Stand
    gb y = Ok ((rd y.0).1, y.1 + places (rd y.0).0, y.2)

    abbrev rest : Stand → Outcome Stand
    rest x = after (record_at k body.Choice x.1 m x.2) (λ r. cond (is_first r.0) (after (walked k m (rd x.0) (x.1 + 1) r.1) gb) (walked k m (rd (rd x.0).1) (x.1 + 1 + places (rd x.0).0) r.1))

    module _ (e : Some If ≡ expression_at code at) where
      pub forked : walked k m (unfolded w code table d at) p q ≡ after (walked k m (rd (at + 1)) p q) rest
      forked = ap (λ (x : Expr × ℕ). walked k m x p q) (deep w code table d at If Deep-one e) ∙ by_branch k m w code table rd at p q

      pub fork_count : places (unfolded w code table d at).0 ≡ places (rd (at + 1)).0 + places (rd (rd (at + 1)).1).0 + places (rd (rd (rd (at + 1)).1).1).0 + 1
      fork_count = ap (λ (x : Expr × ℕ). places x.0) (deep w code table d at If Deep-one e)

      pub fork_first : (x : Refusal) → Err x ≡ walked k m (rd (at + 1)) p q → Err x ≡ walked k m (unfolded w code table d at) p q
      fork_first x h = ap (λ r. after r rest) h ∙ sym forked

      module _ (x : Stand) (h : Ok x ≡ walked k m (rd (at + 1)) p q) where
        here : rest x ≡ walked k m (unfolded w code table d at) p q
        here = ap (λ r. after r rest) h ∙ sym forked

        pub fork_choice : (y : Refusal) → ◌≡◌ {A = Outcome (Bool × ℕ)} (Err y) (mapped (λ (r : Rec V × ℕ). (is_first r.0, r.1)) (record_at k body.Choice x.1 m x.2)) → Err y ≡ walked k m (unfolded w code table d at) p q
        fork_choice y f = sym (ap (λ r. after r (λ r. cond (is_first r.0) (after (walked k m (rd x.0) (x.1 + 1) r.1) gb) (walked k m (rd (rd x.0).1) (x.1 + 1 + places (rd x.0).0) r.1))) (mapped_err (λ (r : Rec V × ℕ). (is_first r.0, r.1)) (record_at k body.Choice x.1 m x.2) y (sym f))) ∙ here

        pub fork_chosen : (t : Bool) (i : ℕ) → ◌≡◌ {A = Outcome (Bool × ℕ)} (Ok (t, i)) (mapped (λ (r : Rec V × ℕ). (is_first r.0, r.1)) (record_at k body.Choice x.1 m x.2))
            → cond t (after (walked k m (rd x.0) (x.1 + 1) i) gb) (walked k m (rd (rd x.0).1) (x.1 + 1 + places (rd x.0).0) i) ≡ walked k m (unfolded w code table d at) p q
        fork_chosen t i f =
            let s = mapped_ok (λ (r : Rec V × ℕ). (is_first r.0, r.1)) (record_at k body.Choice x.1 m x.2) (t, i) (sym f) in
            let g : Bool × ℕ → Outcome Stand = λ z. cond z.0 (after (walked k m (rd x.0) (x.1 + 1) z.1) gb) (walked k m (rd (rd x.0).1) (x.1 + 1 + places (rd x.0).0) z.1) in
            sym (ap (λ r. after r (λ (r : Rec V × ℕ). g (is_first r.0, r.1))) s.1 ∙ ap g s.2) ∙ here

        module _ (t : Bool) (i : ℕ) (f : ◌≡◌ {A = Outcome (Bool × ℕ)} (Ok (t, i)) (mapped (λ (r : Rec V × ℕ). (is_first r.0, r.1)) (record_at k body.Choice x.1 m x.2))) where
          abbrev in_first : Outcome Stand
          in_first = after (walked k m (rd x.0) (x.1 + 1) i) gb

          abbrev in_second : Outcome Stand
          in_second = walked k m (rd (rd x.0).1) (x.1 + 1 + places (rd x.0).0) i

          pub fork_yes : t ≡ true → in_first ≡ walked k m (unfolded w code table d at) p q
          fork_yes e = ap (λ u. cond u in_first in_second) (sym e) ∙ fork_chosen t i f

          pub fork_no : t ≡ false → in_second ≡ walked k m (unfolded w code table d at) p q
          fork_no e = ap (λ u. cond u in_first in_second) (sym e) ∙ fork_chosen t i f

          pub yes_err : t ≡ true → (y : Refusal) → Err y ≡ walked k m (rd x.0) (x.1 + 1) i → Err y ≡ walked k m (unfolded w code table d at) p q
          yes_err e y h = ap (λ r. after r gb) h ∙ fork_yes e

          pub yes_ok : t ≡ true → (y : Stand) → Ok y ≡ walked k m (rd x.0) (x.1 + 1) i → (z : Stand) → z.0 ≡ (rd y.0).1 → z.1 ≡ y.1 + places (rd y.0).0 → z.2 ≡ y.2 → Ok z ≡ walked k m (unfolded w code table d at) p q
          yes_ok e y h z a b c = (λ j. Ok (a j, b j, c j)) ∙ ap (λ r. after r gb) h ∙ fork_yes e

          pub no_is : t ≡ false → (r : Outcome Stand) (s n : ℕ) → r ≡ walked k m (rd s) (x.1 + 1 + n) i → s ≡ (rd x.0).1 → n ≡ places (rd x.0).0 → r ≡ walked k m (unfolded w code table d at) p q
          no_is e r s n h a b = h ∙ (λ j. walked k m (rd (a j)) (x.1 + 1 + b j) i) ∙ fork_no e
