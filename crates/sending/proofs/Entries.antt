-- The entries that are kept of a row, number by number.
use Rattle.std.proofs.Common.{◌≡◌, ℕ, zero, suc, ◌+◌, ◌<◌, ◌≤◌, Bool, true, false, cond, List, [], ◌∷◌, ◌++◌, map, length, get_or, take, drop, sym, refl, ap, ◌∙◌, append_assoc, append-nil, arith, length-append, nat_lt, not, subst, length-take-le, nat_le, count_by, take_while, lt-ltb, le-ltb, leb-true, leb-false}
use Rattle.std.specs.List.{prefix_len}
use Rattle.std.proofs.lemmas.List.Sums.{sum_by-cons, prefix_len-le-length}
use Rattle.kind.specs.Kind.{Meaning}
use Rattle.record.specs.Trees.{Entry}
use Rattle.record.specs.Writing.{written_entry, written_entries}
use Rattle.rules.specs.Rules.{Field, at, with_own, entries}
use Rattle.sending.specs.Kept.{kept_one, kept, differs}

-- the own number comes behind the first numbers that are not greater
pub own_split : (n i : ℕ) (ns : List ℕ) → i ≡ length (take_while (λ m. nat_le m n) ns) → with_own n ns ≡ take i ns ++ (n ∷ drop i ns)
own_split n i ns e = subst (λ (j : ℕ). with_own n ns ≡ take j ns ++ (n ∷ drop j ns)) (sym (length-take-le (low ns) ns (prefix_len-le-length (λ m. nat_le m n) ns)) ∙ sym e) (go ns)
  where
    low : List ℕ → ℕ
    low ns = prefix_len (λ m. nat_le m n) ns

    go : (ns : List ℕ) → with_own n ns ≡ take (low ns) ns ++ (n ∷ drop (low ns) ns)
    go [] = refl
    go (m ∷ ns) = cases (nat_le m n) refl (go ns)
      where
        cases : (b : Bool) → nat_le m n ≡ b → with_own n ns ≡ take (low ns) ns ++ (n ∷ drop (low ns) ns) → with_own n (m ∷ ns) ≡ take (low (m ∷ ns)) (m ∷ ns) ++ (n ∷ drop (low (m ∷ ns)) (m ∷ ns))
        cases true e h =
            let lt : nat_lt n m ≡ false = le-ltb n m (leb-true m n e) in
            let next : 1 + low ns ≡ suc (low ns) = omega arith in
            rw (e, lt, next) (ap (λ (l : List ℕ). m ∷ l) h)
        cases false e h = let lt : nat_lt n m ≡ true = lt-ltb n m (leb-false m n e) in rw (e, lt) refl

pub own_within : (n i : ℕ) (ns : List ℕ) → i ≡ length (take_while (λ m. nat_le m n) ns) → i ≤ length ns
own_within n i ns e =
    let p = prefix_len-le-length (λ m. nat_le m n) ns in
    let l = length-take-le (prefix_len (λ m. nat_le m n) ns) ns p in
    omega (arith, e, p, l)

pub written_both : {V : Type 0} (k : Meaning V) (es fs : List (Entry V)) → written_entries k (es ++ fs) ≡ written_entries k es ++ written_entries k fs
written_both k [] fs = refl
written_both k (e ∷ es) fs =
    let w = written_entry k e.number e.value in
    ap (λ (l : List ℕ). w ++ l) (written_both k es fs) ∙ sym (append_assoc w (written_entries k es) (written_entries k fs))

module _ {V : Type 0} (k : Meaning V) (d : V) where
  one_long : (n : ℕ) (x : V) → length (kept_one k d n x) ≡ cond (differs k d x) 1 0
  one_long n x = go (k.same x d)
    where
      go : (b : Bool) → length {A = Entry V} (cond b [] (record { number = n; value = x } ∷ [])) ≡ cond (not b) 1 0
      go true = refl
      go false = refl

  pub one_few : (n : ℕ) (x : V) → length (kept_one k d n x) ≤ 1
  one_few n x = let l = one_long n x in let o = at_most_one (differs k d x) in omega (arith, l, o)
    where
      at_most_one : (b : Bool) → cond b 1 0 ≤ 1
      at_most_one true = omega arith
      at_most_one false = omega arith

  pub kept_next : (ns : List ℕ) (xs : List V) (i n : ℕ) (x : V) → i < length ns → i < length xs → get_or ns i 0 ≡ n → x ≡ get_or xs i x
      → kept k d (take (suc i) ns) xs ≡ kept k d (take i ns) xs ++ kept_one k d n x
  kept_next [] xs i n x a b e f = absurd (omega (arith, a))
  kept_next (m ∷ ns) [] i n x a b e f = absurd (omega (arith, b))
  kept_next (m ∷ ns) (y ∷ xs) zero n x a b e f = append-nil (kept_one k d m y) ∙ (λ j. kept_one k d (e j) (sym f j))
  kept_next (m ∷ ns) (y ∷ xs) (suc i) n x a b e f =
      ap (λ (l : List (Entry V)). kept_one k d m y ++ l) (kept_next ns xs i n x (omega (arith, a)) (omega (arith, b)) e f)
      ∙ sym (append_assoc (kept_one k d m y) (kept k d (take i ns) xs) (kept_one k d n x))

  pub kept_few : (ns : List ℕ) (xs : List V) → length (kept k d ns xs) ≤ length ns
  kept_few [] xs = omega arith
  kept_few (n ∷ ns) [] = omega arith
  kept_few (n ∷ ns) (x ∷ xs) =
      let h = kept_few ns xs in
      let o = one_few n x in
      let l = length-append (kept_one k d n x) (kept k d ns xs) in
      omega (arith, h, o, l)

  -- the kept entries of a whole row, in order: i of the numbers come before the own one
  abbrev pub kept_all : ℕ → V → ℕ → List ℕ → List V → List (Entry V)
  kept_all me x i ns ys = kept k d (take i ns) ys ++ (kept_one k d me x ++ kept k d (drop i ns) (drop i ys))

  pub all_long : (me : ℕ) (x : V) (i : ℕ) (ns : List ℕ) (ys : List V) → length ys ≡ length ns → length (kept_all me x i ns ys) ≡ count_by (differs k d) (x ∷ ys)
  all_long me x zero ns ys e =
      let o = one_long me x in
      let l = length-append (kept_one k d me x) (kept k d ns ys) in
      let h = go ns ys e in
      let c = sum_by-cons (λ v. cond (differs k d v) 1 0) x ys in
      omega (arith, o, l, h, c)
    where
      go : (ns : List ℕ) (ys : List V) → length ys ≡ length ns → length (kept k d ns ys) ≡ count_by (differs k d) ys
      go [] [] e = refl
      go [] (y ∷ ys) e = absurd (omega (arith, e))
      go (n ∷ ns) [] e = absurd (omega (arith, e))
      go (n ∷ ns) (y ∷ ys) e =
          let h = go ns ys (omega (arith, e)) in
          let o = one_long n y in
          let l = length-append (kept_one k d n y) (kept k d ns ys) in
          let c = sum_by-cons (λ v. cond (differs k d v) 1 0) y ys in
          omega (arith, h, o, l, c)
  all_long me x (suc i) [] [] e =
      let o = one_long me x in
      let l = length-append (kept_one k d me x) [] in
      let c = sum_by-cons (λ v. cond (differs k d v) 1 0) x [] in
      omega (arith, o, l, c)
  all_long me x (suc i) [] (y ∷ ys) e = absurd (omega (arith, e))
  all_long me x (suc i) (n ∷ ns) [] e = absurd (omega (arith, e))
  all_long me x (suc i) (n ∷ ns) (y ∷ ys) e =
      let h = all_long me x i ns ys (omega (arith, e)) in
      let o = one_long n y in
      let a = ap length (append_assoc (kept_one k d n y) (kept k d (take i ns) ys) (kept_one k d me x ++ kept k d (drop i ns) (drop i ys))) in
      let l = length-append (kept_one k d n y) (kept_all me x i ns ys) in
      let f = λ (v : V). cond (differs k d v) 1 0 in
      let c = sum_by-cons f x (y ∷ ys) in
      let c' = sum_by-cons f x ys in
      let c'' = sum_by-cons f y ys in
      omega (arith, h, o, a, l, c, c', c'')

  -- where the cells are those of a field, the entries are the field's
  module _ (f : Field V) where
    one_then : (n : ℕ) (x : V) (es : List (Entry V)) → x ≡ f (at n) → kept_one k d n x ++ es ≡ cond (k.same (f (at n)) d) es (record { number = n; value = f (at n) } ∷ es)
    one_then n x es is = ap (λ (v : V). kept_one k d n v ++ es) is ∙ go (k.same (f (at n)) d)
      where
        go : (b : Bool) → cond b [] (record { number = n; value = f (at n) } ∷ []) ++ es ≡ cond b es (record { number = n; value = f (at n) } ∷ es)
        go true = refl
        go false = refl

    kept_is : (ns : List ℕ) (ys : List V) → ys ≡ map (λ n. f (at n)) ns → kept k d ns ys ≡ entries k f d ns
    kept_is [] [] e = refl
    kept_is [] (y ∷ ys) e = absurd (let l = ap length e in omega (arith, l))
    kept_is (n ∷ ns) [] e = absurd (let l = ap length e in omega (arith, l))
    kept_is (n ∷ ns) (y ∷ ys) e =
        let first : y ≡ f (at n) = cc in
        let rest : ys ≡ map (λ n. f (at n)) ns = cc in
        ap (λ (es : List (Entry V)). kept_one k d n y ++ es) (kept_is ns ys rest) ∙ one_then n y (entries k f d ns) first

    pub all_is : (me : ℕ) (x : V) → x ≡ f (at me) → (i : ℕ) (ns : List ℕ) (ys : List V) → ys ≡ map (λ n. f (at n)) ns
        → kept_all me x i ns ys ≡ entries k f d (take i ns ++ (me ∷ drop i ns))
    all_is me x is zero ns ys e =
        ap (λ (es : List (Entry V)). kept_one k d me x ++ es) (kept_is ns ys e) ∙ one_then me x (entries k f d ns) is
    all_is me x is (suc i) [] [] e = one_then me x [] is
    all_is me x is (suc i) [] (y ∷ ys) e = absurd (let l = ap length e in omega (arith, l))
    all_is me x is (suc i) (n ∷ ns) [] e = absurd (let l = ap length e in omega (arith, l))
    all_is me x is (suc i) (n ∷ ns) (y ∷ ys) e =
        let first : y ≡ f (at n) = cc in
        let rest : ys ≡ map (λ n. f (at n)) ns = cc in
        append_assoc (kept_one k d n y) (kept k d (take i ns) ys) (kept_one k d me x ++ kept k d (drop i ns) (drop i ys))
        ∙ ap (λ (es : List (Entry V)). kept_one k d n y ++ es) (all_is me x is i ns ys rest)
        ∙ one_then n y (entries k f d (take i ns ++ (me ∷ drop i ns))) first
