-- What arrives at a node: the sender by the tree's reader, and that link and message fit an item.
use Rattle.std.proofs.Common.{◌≡◌, ℕ, ◌+◌, ◌-◌, ◌≤◌, Bool, true, false, ◌&&◌, leb, List, ◌++◌, length, take, drop, is_some, IfOk, Some, None, Ok, Err, Option, sym, refl, ap, ◌∙◌, subst, arith}
use Rattle.std.proofs.lemmas.List.{take_at, append_assoc, length-append}
use Rattle.std.proofs.lemmas.Bool.Decides.{nat_tests}
use Rattle.refusal.specs.Outcomes.{Outcome, after, must, mapped}
use Rattle.refusal.proofs.Outcomes.{after_ok, must_ok}
use Rattle.refusal.specs.declared.cause.Cause.TheVariants as cause
use Rattle.kind.specs.Kind.{Meaning, Lawful}
use Rattle.program.specs.declared.program.Program.{Program}
use Rattle.program.specs.Verdict.{suits}
use Rattle.program.specs.Programs.{shown}
use Rattle.record.specs.Headers.{header, header_length, most_bytes}
use Rattle.record.specs.Messages.{message}
use Rattle.record.specs.Plans.{Plan}
use Rattle.record.specs.Trees.{Tree}
use Rattle.tree.specs.Trees.{plan_of, tree_in, sender_of}
use Rattle.trace.specs.States.{State}
use Rattle.trace.specs.Calls.{allowed_link, arriving}

-- a test of two orders
both : (a b c : ℕ) → leb a b && leb b c ≡ true → b ≤ c
both a b c e = grind (arith, nat_tests)

header_short : (program me : ℕ) (m : List ℕ) (s : ℕ) → header program me m ≡ Ok s → length m ≤ most_bytes
header_short program me m s e =
    let c = after_ok (must (leb header_length (length m) && leb (length m) most_bytes) _ _) _ s e in
    both header_length (length m) most_bytes (must_ok _ _ _ _ c.1)

module _ {V : Type 0} (k : Meaning V) where
  message_short : (plan : Plan) (program me : ℕ) (m : List ℕ) (t : Tree V) → message k plan program me m ≡ Ok t → length m ≤ most_bytes
  message_short plan program me m t e =
      let c = after_ok (header program me m) _ t e in
      header_short program me m c.0 c.1

  tree_short : (p : Program) (me : ℕ) (m : List ℕ) (t : Tree V) → tree_in k p me m ≡ Ok t → length m ≤ most_bytes
  tree_short p me m t e =
      let c = after_ok (must (suits k (shown p)) cause.OtherKind 7) _ t e in
      message_short (plan_of p) (shown p).header.number me m t c.2

  -- a link that is a value is passed over
  linked : {B : Type 0} (o : Option V) (next : Outcome B) → is_some o ≡ true → after (allowed_link o) (λ _. next) ≡ next
  linked (Some v) next e = refl
  linked None next e = let z : ◌≡◌ {A = Bool} false true = e in cc

  pub arrives : (s : State) (link m : List ℕ) (r : Outcome ℕ) → is_some (k.read link) ≡ true
      → r ≡ mapped sender_of (tree_in k s.program s.number m) → r ≡ mapped sender_of (arriving k s link m)
  arrives s link m r e h =
      h ∙ ap (λ (o : Outcome (Tree V)). mapped sender_of (after (must (suits k (shown s.program)) cause.OtherKind 7) (λ _. o)))
      (sym (linked (k.read link) (message k (plan_of s.program) (shown s.program).header.number s.number m) e))

  link_short : Lawful k → (link : List ℕ) (o : Option V) → k.read link ≡ o → is_some o ≡ true → length link ≤ 16
  link_short law link (Some v) f e = omega (arith, ap length (law.only link v f), law.long v, law.most)
  link_short law link None f e = let z : ◌≡◌ {A = Bool} false true = e in let y : ◌≡◌ {A = ℕ} 0 1 = cc in absurd (omega arith)

  short_by : (link m : List ℕ) (a : Outcome (Tree V)) → length link ≤ 16 → ((t : Tree V) → a ≡ Ok t → length m ≤ most_bytes)
      → IfOk (mapped sender_of a) (λ _. length link + length m ≤ 2064)
  short_by link m (Err x) l h = tt
  short_by link m (Ok t) l h = let s : length m ≤ most_bytes = h t refl in omega arith

  pub item_short : Lawful k → (p : Program) (me : ℕ) (link m : List ℕ) (r : Outcome ℕ) → is_some (k.read link) ≡ true
      → r ≡ mapped sender_of (tree_in k p me m) → IfOk r (λ _. length link + length m ≤ 2064)
  item_short law p me link m r e h =
      subst (λ (o : Outcome ℕ). IfOk o (λ _. length link + length m ≤ 2064)) (sym h)
      (short_by link m (tree_in k p me m) (link_short law link (k.read link) refl e) (tree_short p me m))

-- two parts, one behind the other, at the front of a list
pub two_parts : (a b u v t : List ℕ) → u ≡ a → v ≡ b → take (length a + length b) (take (length a) (u ++ t) ++ (v ++ drop (length a + length b - length a) (drop (length a) (u ++ t)))) ≡ a ++ b
two_parts a b u v t e g =
    let x : take (length a) (u ++ t) ≡ a = take_at u t (length a) (ap length e) ∙ e in
    let w = drop (length a + length b - length a) (drop (length a) (u ++ t)) in
    ap (λ l. take (length a + length b) (l ++ (v ++ w))) x ∙ ap (λ l. take (length a + length b) (a ++ (l ++ w))) g
    ∙ ap (take (length a + length b)) (sym (append_assoc a b w)) ∙ take_at (a ++ b) w (length a + length b) (length-append a b)
