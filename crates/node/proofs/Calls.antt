-- What the code of a node's calls has to show, over plain values.
use Rattle.std.proofs.Common.{◌≡◌, ℕ, true, List, [], map, length, take, drop, is_err, Ok, Err, sym, refl, ap, ◌∙◌, subst, arith}
use Rattle.std.proofs.lemmas.Bool.{false≢true}
use Rattle.std.proofs.lemmas.List.{take_at}
use Rattle.refusal.specs.declared.refused.Refusal.{Refusal}
use Rattle.refusal.specs.Outcomes.{Outcome, after, mapped}
use Rattle.kind.specs.Kind.{Meaning, Lawful}
use Rattle.record.specs.Fields.{Bytes}
use Rattle.record.specs.Trees.{Tree}
use Rattle.inbox.specs.Contents.{Contents}
use Rattle.inbox.specs.Calls.{IfRefused, put_answer}
use Rattle.rules.specs.Working.{told, on_output}
use Rattle.tree.specs.Trees.{sender_of}
use Rattle.trace.specs.States.{State, passed}
use Rattle.trace.specs.Calls.{delivery, drop_of, put_so, passed_so, deliver_answer, after_deliver, after_drop}
use Rattle.trace.specs.Lines.{rounds_in, delivered_so}
use Rattle.trace.specs.Promises.{gift, Promise}
use Rattle.trace.proofs.Promised.{promise_of}

pub if_refused : {A : Type 0} {P : Type 0} (a : Outcome A) → P → IfRefused a P
if_refused (Ok a) p = tt
if_refused (Err e) p = p

-- DELIVERY

-- the answer by what arrives
abbrev put_behind : {V : Type 0} → Contents → List ℕ → Outcome (Tree V) → Outcome ℕ
put_behind c x a = after a (λ t. after (put_answer c t.sender x) (λ _. Ok t.sender))

module _ {V : Type 0} (c : Contents) (x : List ℕ) where
  pub refused_first : (a : Outcome (Tree V)) (r : Outcome ℕ) → is_err r ≡ true → r ≡ mapped sender_of a → r ≡ put_behind c x a
  refused_first (Err e) r h g = g
  refused_first (Ok t) r h g = absurd (false≢true (sym (ap is_err g) ∙ h))

  pub refused_put : (a : Outcome (Tree V)) (n : ℕ) (e : Refusal) → Ok n ≡ mapped sender_of a → Err e ≡ put_answer c n x → Err e ≡ put_behind c x a
  refused_put (Err d) n e h g = let z : ◌≡◌ {A = ℕ} 0 1 = cc in absurd (omega arith)
  refused_put (Ok t) n e h g =
      let same : n ≡ t.sender = cc in
      ap (λ o. after o (λ _. Ok t.sender)) (subst (λ m. Err e ≡ put_answer c m x) same g)

  pub accepted : (a : Outcome (Tree V)) (n : ℕ) (u : Unit {0}) → Ok n ≡ mapped sender_of a → Ok u ≡ put_answer c n x → Ok n ≡ put_behind c x a
  accepted (Err d) n u h g = let z : ◌≡◌ {A = ℕ} 0 1 = cc in absurd (omega arith)
  accepted (Ok t) n u h g =
      let same : n ≡ t.sender = cc in
      ap Ok same ∙ ap (λ o. after o (λ _. Ok t.sender)) (subst (λ m. Ok u ≡ put_answer c m x) same g)

-- a refused delivery leaves the state as it was
pub refused_after : (s : State) (x : List ℕ) (r a : Outcome ℕ) → is_err r ≡ true → r ≡ a → s ≡ put_so a s x
refused_after s x r (Err e) h g = refl
refused_after s x r (Ok n) h g = absurd (false≢true (sym (ap is_err g) ∙ h))

-- ROUND
module _ {V : Type 0} where
  -- answer and output by the last own tree, which the code reads first
  pub told_by : (answer : List ℕ → Outcome (V × List ℕ)) (last last' : List ℕ) (r : Outcome (V × ℕ)) → last ≡ last' → r ≡ mapped told (answer last) → r ≡ mapped told (answer last')
  told_by answer last last' r e h = h ∙ ap (λ (l : List ℕ). mapped told (answer l)) e

  pub output_by : (answer : List ℕ → Outcome (V × List ℕ)) (last last' out out' : List ℕ) → last ≡ last' → out' ≡ on_output (answer last) out → out' ≡ on_output (answer last') out
  output_by answer last last' out out' e h = h ∙ ap (λ (l : List ℕ). on_output (answer l) out) e

  -- the tree that is kept is the one at the output's front
  pub kept_of : (s : State) (a : Outcome (V × List ℕ)) (v : V) (n : ℕ) (out out' : List ℕ)
      → Ok (v, n) ≡ mapped told a → out' ≡ on_output a out → passed s (take n out') ≡ passed_so a s
  kept_of s (Err e) v n out out' h g = let z : ◌≡◌ {A = ℕ} 0 1 = cc in absurd (omega arith)
  kept_of s (Ok y) v n out out' h g =
      let e : (v, n) ≡ told y = cc in
      let m : n ≡ length y.1 = ap (λ (d : V × ℕ). d.1) e in
      ap (passed s) (ap (take n) g ∙ take_at y.1 (drop (length y.1) out) n (sym m))

  pub refused_of : (s : State) (a : Outcome (V × List ℕ)) (r : Outcome (V × ℕ)) → is_err r ≡ true → r ≡ mapped told a → s ≡ passed_so a s
  refused_of s (Err e) r h g = refl
  refused_of s (Ok y) r h g = absurd (false≢true (sym (ap is_err g) ∙ h))

-- PROMISES
module _ {V : Type 0} (k : Meaning V) (law : Lawful k) where
  gives_none : (o : Outcome ℕ) (link m : List ℕ) → map gift (rounds_in (delivered_so k o link m)) ≡ []
  gives_none (Err e) link m = refl
  gives_none (Ok n) link m = refl

  pub delivery_promise : (s : State) (link m : List ℕ) (t : State) → Bytes m → t ≡ after_deliver k s link m → Promise k s (delivery link m) [] t
  delivery_promise s link m t b e =
      subst (λ (l : List (V × List ℕ)). Promise k s (delivery link m) l t) (gives_none (deliver_answer k s link m) link m)
      (promise_of k law s (delivery link m) t b e)

  pub drop_promise : (s : State) (n : ℕ) (t : State) → t ≡ after_drop s n → Promise k s (drop_of n) [] t
  drop_promise s n t e = promise_of k law s (drop_of n) t tt e
