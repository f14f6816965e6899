-- The records of a round are those that its expression has due.
use Rattle.std.proofs.Common.{◌≡◌, ℕ, ◌+◌, ◌<◌, ◌≤◌, Bool, true, false, cond, ltb, List, [], ◌∷◌, length, refl, subst, arith, ltb-false, ltb-true}
use Rattle.kind.specs.Kind.{Meaning}
use Rattle.program.specs.Expressions.{Expr, Exprs, literal, variable, bind, operator, fold, exchange, share, branch, call, sensor, link, own, choose, none, then}
use Rattle.program.specs.Measures.{places, places_all}
use Rattle.record.specs.Plans.{Plan, sent_at, choice_at, due, due_all}
use Rattle.record.specs.Trees.{choice, RisingPlaces}
use Rattle.record.specs.Writing.{Follows, ended, sends, first, second, both, RisingEntries, no_entry, entry_then}
use Rattle.record.proofs.Places.{places_rise_lem}
use Rattle.record.proofs.Weights.{tree_fits}
use Rattle.record.proofs.Written.{written_read}
use Rattle.rules.specs.Rules.{Field, at, elsewhere, Given, senders, with_own, entries, record_of, Out, work, work_all, round, tree}
use Rattle.rules.specs.Laws.{RisingNumbers, no_number, number_then, Apart, alone, from, Orderly, RecordsDue, RecordsRise, OwnTreesRead}

lower : {l m : ℕ} {ns : List ℕ} → l ≤ m → RisingNumbers m ns → RisingNumbers l ns
lower h no_number = no_number
lower h (number_then a s r) = number_then (omega arith) s r

own_rises : {l n : ℕ} {ns : List ℕ} → l ≤ n → n < 65536 → RisingNumbers l ns → Apart n ns → RisingNumbers l (with_own n ns)
own_rises h o no_number alone = number_then h o no_number
own_rises {l} {n} h o (number_then {n = m} {ns = ms} a s r) (from d x) = go (ltb n m) refl (λ k. own_rises k o r x)
  where
    go : (b : Bool) → ltb n m ≡ b → (m + 1 ≤ n → RisingNumbers (m + 1) (with_own n ms)) → RisingNumbers l (cond b (n ∷ m ∷ ms) (m ∷ with_own n ms))
    go true e i = number_then h o (number_then (omega (arith, ltb-true n m e)) s r)
    go false e i = number_then a s (i (omega (arith, ltb-false n m e, d)))

own_long : (n : ℕ) (ns : List ℕ) → length (with_own n ns) ≡ length ns + 1
own_long n [] = refl
own_long n (m ∷ ms) = go (ltb n m) (own_long n ms)
  where
    go : (b : Bool) → length (with_own n ms) ≡ length ms + 1 → length (cond b (n ∷ m ∷ ms) (m ∷ with_own n ms)) ≡ length (m ∷ ms) + 1
    go true i = omega arith
    go false i = omega (arith, i)

module _ {V : Type 0} (k : Meaning V) (f : Field V) (d : V) where
  entries_rise : (l : ℕ) (ns : List ℕ) → RisingNumbers l ns → RisingEntries k d l (entries k f d ns)
  entries_rise l [] a = no_entry
  entries_rise l (n ∷ ns) (number_then a s r) = go (k.same (f (at n)) d) refl (entries_rise (n + 1) ns r) (entries_rise l ns (lower (omega arith) r))
    where
      go : (b : Bool) → k.same (f (at n)) d ≡ b → RisingEntries k d (n + 1) (entries k f d ns) → RisingEntries k d l (entries k f d ns)
          → RisingEntries k d l (cond b (entries k f d ns) (record { number = n; value = f (at n) } ∷ entries k f d ns))
      go true e i j = j
      go false e i j = entry_then a s e i

  entries_few : (ns : List ℕ) → length (entries k f d ns) ≤ length ns
  entries_few [] = omega arith
  entries_few (n ∷ ns) = go (k.same (f (at n)) d) (entries_few ns)
    where
      go : (b : Bool) → length (entries k f d ns) ≤ length ns → length (cond b (entries k f d ns) (record { number = n; value = f (at n) } ∷ entries k f d ns)) ≤ length (n ∷ ns)
      go true i = omega (arith, i)
      go false i = omega (arith, i)

chosen : {V : Type 0} (k : Meaning V) {p : ℕ} {a b : Plan} (t : Bool) (x y : Out V) → p < 65536 → Follows k a x.records → Follows k b y.records → Follows k (choice_at p a b) (choice p t ∷ (cond t x y).records)
chosen k true x y s f g = first s f
chosen k false x y s f g = second s g

module _ {V : Type 0} (k : Meaning V) (g : Given V) (o : Orderly g) where
  sent_due : (p : ℕ) (f : Field V) → p < 65536 → Follows k (sent_at p) (record_of k g p f ∷ [])
  unfolding record_of
  sent_due p f s =
      sends s
      (omega (arith, entries_few k f (f elsewhere) (with_own g.number (senders g.held)), own_long g.number (senders g.held), o.few))
      (entries_rise k f (f elsewhere) 0 _ (own_rises (omega arith) o.own o.rising o.apart))

  mutual
    unfolding work

    follow : (e : Expr) (env : List (Field V)) (al : ℕ → Bool) (p : ℕ) → p + places e ≤ 65536 → Follows k (due e p) (work k g e env al p).records
    follow (literal v) env al p s = ended
    follow (variable n) env al p s = ended
    follow (bind a b) env al p s = both (follow a env al p (omega (arith, s))) (follow b _ al (p + places a) (omega (arith, s)))
    follow (operator n a b) env al p s = both (follow a env al p (omega (arith, s))) (follow b _ al (p + places a) (omega (arith, s)))
    follow (fold n a b) env al p s = both (follow a env al p (omega (arith, s))) (follow b _ al (p + places a) (omega (arith, s)))
    follow (exchange a b c) env al p s =
        both
        (both (both (follow a env al p (omega (arith, s))) (follow b _ al (p + places a) (omega (arith, s)))) (follow c _ al (p + places a + places b) (omega (arith, s))))
        (sent_due (p + places a + places b + places c) _ (omega (arith, s)))
    follow (share a b) env al p s =
        both (both (follow a env al p (omega (arith, s))) (follow b _ al (p + places a) (omega (arith, s)))) (sent_due (p + places a + places b) _ (omega (arith, s)))
    follow (branch a b c) env al p s =
        both (follow a env al p (omega (arith, s)))
        (chosen k _ _ _ (omega (arith, s)) (follow b env _ (p + places a + 1) (omega (arith, s))) (follow c env _ (p + places a + 1 + places b) (omega (arith, s))))
    follow (call es b) env al p s = both (follow_all es env al p (omega (arith, s))) (follow b _ al (p + places_all es) (omega (arith, s)))
    follow (sensor n) env al p s = ended
    follow link env al p s = ended
    follow (own a) env al p s = follow a env al p s
    follow (choose a b c) env al p s =
        both (both (follow a env al p (omega (arith, s))) (follow b _ al (p + places a) (omega (arith, s)))) (follow c _ al (p + places a + places b) (omega (arith, s)))

    follow_all : (es : Exprs) (env : List (Field V)) (al : ℕ → Bool) (p : ℕ) → p + places_all es ≤ 65536 → Follows k (due_all es p) (work_all k g es env al p).records
    follow_all none env al p s = ended
    follow_all (then e es) env al p s = both (follow e env al p (omega (arith, s))) (follow_all es env al (p + places e) (omega (arith, s)))

pub records_due : (V : Type 0) → RecordsDue V
records_due V = follow

pub records_rise : (V : Type 0) → RecordsRise V
records_rise V k g o e s = subst (λ high. RisingPlaces high 0 (round k g e).records) (omega arith) (places_rise_lem k e 0 _ (follow k g o e [] (λ n. true) 0 (omega (arith, s))))

pub own_trees_read : (V : Type 0) → OwnTreesRead V
own_trees_read V k l g o e program me s w q d =
    written_read k l (due e 0) program me (tree k g e) q o.own d due_records (tree_fits k l e 0 program (tree k g e) w due_records)
  where
    due_records : Follows k (due e 0) (round k g e).records
    due_records = follow k g o e [] (λ n. true) 0 (omega (arith, s))
