-- Entries one after another. Assumes nothing.
use Rattle.std.proofs.Common.{◌≡◌, ℕ, zero, suc, ◌+◌, ◌-◌, ◌*◌, ◌<◌, ◌≤◌, Bool, true, false, cond, not, eqb, leb, ◌≢◌, List, ◌∷◌, ◌++◌, length, take, drop, Ok, Err, sym, refl, ap, ◌∙◌, arith, length-append, drop-drop, take_at, drop_at, eq-eqb, ne_eqb, lt_of_mul-lt-mul_right}
use Rattle.std.proofs.lemmas.List.{drop-take}
use Rattle.kind.specs.Kind.{Meaning}
use Rattle.refusal.specs.Outcomes.{Outcome, after, must, mapped}
use Rattle.record.specs.Fields.{pair_at, part}
use Rattle.record.specs.Trees.{Entry}
use Rattle.record.specs.Records.{allowed, behind, next_low, entries, bytes_at}
use Rattle.record.proofs.Spans.{pair_part}
use Rattle.refusal.specs.declared.refused.Refusal.{Refusal}
use Rattle.refusal.specs.declared.cause.Cause.TheVariants as cause

pub behind_grows : (w n at : ℕ) → at ≤ behind w n at
behind_grows w zero at = omega arith
behind_grows w (suc n) at = let h = behind_grows w n (at + (2 + w)) in omega arith

pub behind_is : (w n at : ℕ) → behind w n at ≡ at + n * (2 + w)
behind_is w zero at = omega arith
behind_is w (suc n) at = let h = behind_is w n (at + (2 + w)) in let s : suc n * (2 + w) ≡ n * (2 + w) + (2 + w) = omega arith in omega arith

abbrev pub done : {A : Type 0} → Outcome A → Outcome (Unit {0})
done r = mapped (λ _. tt) r

-- i entries were cut off the front of bs, and `rest` is left
pub record Cut (w : ℕ) (bs : List ℕ) (i : ℕ) (rest : List ℕ) : Type 0 where
  pub is : drop (i * (2 + w)) bs ≡ rest
  pub inside : i * (2 + w) + length rest ≡ length bs

-- the next is e
pub record Next (w : ℕ) (bs : List ℕ) (i : ℕ) (e more : List ℕ) : Type 0 where
  pub cut : Cut w bs (i + 1) more
  pub value : part bs (i * (2 + w) + 2) w ≡ drop 2 e
  pub number : pair_at bs (i * (2 + w)) ≡ pair_at e 0
  pub inside : i * (2 + w) + (2 + w) ≤ length bs

pub cut_none : (w : ℕ) (bs : List ℕ) → Cut w bs 0 bs
cut_none w bs = record { is = let e : 0 * (2 + w) ≡ 0 = omega arith in ap (λ j. drop j bs) e; inside = omega arith }

pub cut_next : (w : ℕ) (bs : List ℕ) (i : ℕ) (rest e more : List ℕ) → Cut w bs i rest → rest ≡ e ++ more → length e ≡ 2 + w → Next w bs i e more
cut_next w bs i rest e more c split long =
    let at = i * (2 + w) in
    let s : (i + 1) * (2 + w) ≡ at + (2 + w) = omega arith in
    let all = ap length split ∙ length-append e more in
    let inside = c.inside in
    let here : part bs at (2 + w) ≡ e = ap (take (2 + w)) (c.is ∙ split) ∙ take_at e more (2 + w) long in
    record {
      cut = record {
        is = ap (λ j. drop j bs) s ∙ sym (drop-drop (2 + w) at bs) ∙ ap (drop (2 + w)) (c.is ∙ split) ∙ drop_at e more (2 + w) long;
        inside = omega arith;
      };
      value = ap (take w) (sym (drop-drop 2 at bs)) ∙ sym (drop-take 2 w (drop at bs)) ∙ ap (drop 2) here;
      number = sym (pair_part bs at (2 + w) (omega arith)) ∙ ap (λ z. pair_at z 0) here;
      inside = omega arith;
    }

-- while one comes, fewer came than the bytes have room for; at the end, no fewer
pub cut_left : (w : ℕ) (bs : List ℕ) (i : ℕ) (rest e more : List ℕ) → Cut w bs i rest → rest ≡ e ++ more → length e ≡ 2 + w → (n : ℕ) → behind w n 0 ≡ length bs → i < n
cut_left w bs i rest e more c split long n h =
    let b = behind_is w n 0 in
    let inside = c.inside in
    let all = ap length split ∙ length-append e more in
    lt_of_mul-lt-mul_right (2 + w) (omega arith)

pub cut_done : (w : ℕ) (bs : List ℕ) (i : ℕ) (rest : List ℕ) → Cut w bs i rest → (n : ℕ) → behind w n 0 ≡ length bs → length rest < 2 + w → n ≤ i
cut_done w bs i rest c n h lt =
    let b = behind_is w n 0 in
    let inside = c.inside in
    let s : (i + 1) * (2 + w) ≡ i * (2 + w) + (2 + w) = omega arith in
    let h : n < i + 1 = lt_of_mul-lt-mul_right (2 + w) (omega arith) in
    omega arith

one_left : (n i : ℕ) → i < n → n - i ≡ suc (n - (i + 1))
one_left n i lt = omega arith

module _ (w number : ℕ) (default bs : List ℕ) (n i : ℕ) (e more : List ℕ) (lt : i < n) (next : Next w bs i e more) where
  opens : bytes_at w number default bs (n - i) (i * (2 + w)) ≡ cond (eqb (pair_at e 0) number) (drop 2 e) (bytes_at w number default bs (n - (i + 1)) ((i + 1) * (2 + w)))
  opens =
      let s : i * (2 + w) + (2 + w) ≡ (i + 1) * (2 + w) = omega arith in
      ap (λ j. bytes_at w number default bs j (i * (2 + w))) (one_left n i lt)
      ∙ (λ j. cond (eqb (next.number j) number) (next.value j) (bytes_at w number default bs (n - (i + 1)) (s j)))

  pub found_here : pair_at e 0 ≡ number → bytes_at w number default bs (n - i) (i * (2 + w)) ≡ drop 2 e
  found_here is = opens ∙ rw (eq-eqb (pair_at e 0) number is)

  pub found_later : pair_at e 0 ≢ number → bytes_at w number default bs (n - i) (i * (2 + w)) ≡ bytes_at w number default bs (n - (i + 1)) ((i + 1) * (2 + w))
  found_later is = opens ∙ rw (ne_eqb (pair_at e 0) number is)

module _ {V : Type 0} (k : Meaning V) (d : V) (base : ℕ) (bs : List ℕ) (n i low : ℕ) (e more : List ℕ) (lt : i < n) (next : Next k.width bs i e more) where
  abbrev rest_from : ℕ → Outcome (List (Entry V))
  rest_from l = entries k d base bs (n - (i + 1)) l ((i + 1) * (2 + k.width))

  one_more : (e : Entry V) (r : Outcome (List (Entry V))) → done (after r (λ es. Ok (e ∷ es))) ≡ done r
  one_more e (Ok es) = refl
  one_more e (Err f) = refl

  -- the checks of one entry, and then of the rest, are those of all
  both : (o : Outcome V) (t : Bool) (x p q : ℕ) (r : ℕ → Outcome (List (Entry V)))
      → done (after o (λ v. after (must t cause.EntryRefused p) (λ _. after (must (not (k.same v d)) cause.EntryRefused q) (λ _. after (r (x + 1)) (λ es. Ok (record { number = x; value = v } ∷ es))))))
      ≡ after (after o (λ v. after (must t cause.EntryRefused p) (λ _. after (must (not (k.same v d)) cause.EntryRefused q) (λ _. Ok (x + 1))))) (λ l. done (r l))
  both (Err f) t x p q r = refl
  both (Ok v) t x p q r = go t (not (k.same v d))
    where
      go : (t s : Bool) → done (after (must t cause.EntryRefused p) (λ _. after (must s cause.EntryRefused q) (λ _. after (r (x + 1)) (λ es. Ok (record { number = x; value = v } ∷ es)))))
          ≡ after (after (must t cause.EntryRefused p) (λ _. after (must s cause.EntryRefused q) (λ _. Ok (x + 1)))) (λ l. done (r l))
      go false s = refl
      go true false = refl
      go true true = one_more (record { number = x; value = v }) (r (x + 1))

  steps : done (entries k d base bs (n - i) low (i * (2 + k.width))) ≡ after (next_low k d (base + i * (2 + k.width)) e low) (λ l. done (rest_from l))
  steps =
      let at = i * (2 + k.width) in
      let p : base + (at + 2) ≡ base + at + 2 = omega arith in
      let s : at + (2 + k.width) ≡ (i + 1) * (2 + k.width) = omega arith in
      let x = next.number in
      ap (λ j. done (entries k d base bs j low at)) (one_left n i lt)
      ∙ (λ j. done (after (allowed (p j) (k.read (next.value j))) (λ v.
      after (must (leb low (x j)) cause.EntryRefused (base + at)) (λ _.
      after (must (not (k.same v d)) cause.EntryRefused (p j)) (λ _.
      after (entries k d base bs (n - (i + 1)) (x j + 1) (s j)) (λ es. Ok (record { number = x j; value = v } ∷ es)))))))
      ∙ both (allowed (base + at + 2) (k.read (drop 2 e))) (leb low (pair_at e 0)) (pair_at e 0) (base + at) (base + at + 2) rest_from

  pub refused : (f : Refusal) → next_low k d (base + i * (2 + k.width)) e low ≡ Err f → done (entries k d base bs (n - i) low (i * (2 + k.width))) ≡ Err f
  refused f is = steps ∙ ap (λ o. after o (λ l. done (rest_from l))) is

  pub passed : (l : ℕ) → next_low k d (base + i * (2 + k.width)) e low ≡ Ok l → done (entries k d base bs (n - i) low (i * (2 + k.width))) ≡ done (rest_from l)
  passed l is = steps ∙ ap (λ o. after o (λ l. done (rest_from l))) is

-- no more are left
pub all_done : {V : Type 0} (k : Meaning V) (d : V) (base : ℕ) (bs : List ℕ) (n i low at : ℕ) → n ≤ i → done (entries k d base bs (n - i) low at) ≡ Ok tt
all_done k d base bs n i low at h = let e : n - i ≡ 0 = omega arith in ap (λ j. done (entries k d base bs j low at)) e

pub none_found : (w number : ℕ) (default bs : List ℕ) (n i at : ℕ) → n ≤ i → bytes_at w number default bs (n - i) at ≡ default
none_found w number default bs n i at h = let e : n - i ≡ 0 = omega arith in ap (λ j. bytes_at w number default bs j at) e
