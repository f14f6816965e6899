-- What the check decoded is the expression at that position. Assumes nothing.
use Rattle.std.proofs.Common.{◌≡◌, ℕ, ◌+◌, ◌-◌, ◌<◌, ◌≤◌, Bool, true, false, cond, eqb, ltb, leb, List, length, get_or, take, drop, Some, None, Ok, Option, sym, refl, ap, ◌∙◌, subst, ⊎_elim, arith, length-drop, get_or-drop, get_or-take}
use Rattle.std.proofs.lemmas.List.{take-take, length-take}
use Rattle.std.proofs.lemmas.Slice.{between_is}
use Rattle.std.proofs.lemmas.Bool.{cases_lt}
use Rattle.std.proofs.lemmas.Bool.Decides.{nat_tests, eqb_tells}
use Rattle.refusal.specs.declared.cause.Cause.{Cause}
use Rattle.refusal.specs.declared.cause.Cause.TheVariants as cause
use Rattle.refusal.specs.Outcomes.{Outcome, refuse}
use Rattle.refusal.proofs.Outcomes.{ok_same}
use Rattle.program.specs.declared.expression.Expression.{Expression}
use Rattle.program.specs.declared.expression.Expression.TheVariants.{Literal}
use Rattle.program.specs.Reading.{number_bytes, coded, decoded}
use Rattle.unfolding.specs.Unfolding.{expression_of, expression_at, start}

cond_ok : {A : Type 0} (t : Bool) (m : Outcome A) (c : Cause) (p : ℕ) (a : A) → cond t m (refuse c p) ≡ Ok a → (t ≡ true) × (m ≡ Ok a)
cond_ok true m c p a e = (refl, e)
cond_ok false m c p a e = let z : ◌≡◌ {A = ℕ} 0 1 = cc in absurd (omega arith)

module _ (w at : ℕ) where
  -- what a code says, by its expression: an outcome, and how many bytes of numbers follow
  abbrev Fits : Option Expression → Outcome (Expression × ℕ) → ℕ → Type 0
  Fits None m k = (m ≡ refuse cause.UnknownCode at) × (k ≡ 0)
  Fits (Some e) m k = (m ≡ Ok (e, start w at e)) × (at + 1 + k ≡ start w at e)

  abbrev FitsAt : ℕ → ℕ → Type 0
  FitsAt n c = Fits (expression_of c n at) (coded w c n at) (number_bytes w c)

  or : (n c i : ℕ) → FitsAt n i → (eqb c i ≡ false → FitsAt n c) → FitsAt n c
  or n c i here other = ⊎_elim (λ same. subst (FitsAt n) (sym same.1) here) (λ apart. other apart.0) (eqb_tells c i)

  fits : (n c : ℕ) → FitsAt n c
  fits n c =
      or n c 1 (refl, omega arith) (λ a. or n c 2 (refl, omega arith) (λ b. or n c 3 (refl, omega arith) (λ d. or n c 4 (refl, omega arith) (λ e.
      or n c 5 (refl, omega arith) (λ f. or n c 6 (refl, omega arith) (λ g. or n c 7 (refl, omega arith) (λ h. or n c 8 (refl, omega arith) (λ i.
      or n c 9 (refl, omega arith) (λ j. or n c 10 (refl, omega arith) (λ k. or n c 11 (refl, omega arith) (λ l. or n c 12 (refl, omega arith) (λ m.
      or n c 13 (refl, omega arith) (λ o. rw (a, b, d, e, f, g, h, i, j, k, l, m, o) (refl, refl))))))))))))))

  record Coded (d : Expression × ℕ) (o : Option Expression) (k : ℕ) : Type 0 where
    is : Some d.0 ≡ o
    next : d.1 ≡ start w at d.0
    long : at + 1 + k ≡ d.1

  by_fit : (d : Expression × ℕ) (o : Option Expression) (m : Outcome (Expression × ℕ)) (k : ℕ) → Fits o m k → m ≡ Ok d → Coded d o k
  by_fit d None m k f e = let z : ◌≡◌ {A = ℕ} 0 1 = cc in absurd (omega arith)
  by_fit d (Some x) m k f e = subst (λ y. Coded y (Some x) k) (ok_same (x, start w at x) d (sym f.0 ∙ e)) (record { is = refl; next = refl; long = f.1 })

  few_bytes : (c : ℕ) → 1 ≤ w → number_bytes w c ≤ w
  few_bytes c wide = grind (arith, nat_tests)

  -- its parts begin at most so far behind it
  pub start_low : (c n : ℕ) (x : Expression) → 1 ≤ w → Some x ≡ expression_of c n at → start w at x ≤ at + 1 + w
  start_low c n x wide e =
      let f : Fits (Some x) (coded w c n at) (number_bytes w c) = subst (λ o. Fits o (coded w c n at) (number_bytes w c)) (sym e) (fits n c) in
      omega (arith, f.1, few_bytes c wide)

  -- a code without a number is the same whatever follows it
  plain : (c m n : ℕ) → 1 ≤ w → number_bytes w c ≡ 0 → expression_of c m at ≡ expression_of c n at
  plain c m n wide h =
      let f2 : eqb c 2 ≡ false = grind (arith, nat_tests) in
      let f4 : eqb c 4 ≡ false = grind (arith, nat_tests) in
      let f5 : eqb c 5 ≡ false = grind (arith, nat_tests) in
      let f9 : eqb c 9 ≡ false = grind (arith, nat_tests) in
      let f10 : eqb c 10 ≡ false = grind (arith, nat_tests) in
      rw (f2, f4, f5, f9, f10)

-- `part` is the block up to the end of a function's part
module _ (w : ℕ) (wide : 1 ≤ w) (code : List ℕ) (stop at : ℕ) where
  abbrev rest : List ℕ
  rest = drop at (take stop code)

  rest_long : length rest ≡ length (take stop code) - at
  rest_long = length-drop at (take stop code)

  same_byte : (i : ℕ) → i < length rest → get_or rest i 0 ≡ get_or code (at + i) 0
  same_byte i h =
      let l = rest_long in
      let m = length-take stop code in
      get_or-drop at (take stop code) i 0 ∙ get_or-take stop code (at + i) 0 (omega arith)

  pub record Stepped (d : Expression × ℕ) : Type 0 where
    pub is : Some d.0 ≡ expression_at code at
    pub next : d.1 ≡ start w at d.0
    pub literal : (o : ℕ) → d.0 ≡ Literal o → o + w ≤ length (take stop code)

  pub stepped : (d : Expression × ℕ) → decoded w (drop at (take stop code)) at ≡ Ok d → Stepped d
  stepped d e =
      let a = cond_ok (ltb 0 (length rest)) _ _ _ d e in
      let b = cond_ok (leb (1 + number_bytes w (get_or rest 0 0)) (length rest)) _ _ _ d a.1 in
      let some : 0 < length rest = let h = a.0 in grind (arith, nat_tests) in
      let enough : 1 + number_bytes w (get_or rest 0 0) ≤ length rest = let h = b.0 in grind (arith, nat_tests) in
      let zero-on : at + 0 ≡ at = omega arith in
      let code_is : get_or rest 0 0 ≡ get_or code at 0 = same_byte 0 some ∙ ap (λ i. get_or code i 0) zero-on in
      let m : Coded w at d (expression_of (get_or rest 0 0) (get_or rest 1 0) at) (number_bytes w (get_or rest 0 0)) = by_fit w at d _ _ _ (fits w at (get_or rest 1 0) (get_or rest 0 0)) b.1 in
      let number_is : expression_of (get_or rest 0 0) (get_or rest 1 0) at ≡ expression_of (get_or rest 0 0) (get_or code (at + 1) 0) at =
      ⊎_elim (λ (h : 1 < length rest). ap (λ n. expression_of (get_or rest 0 0) n at) (same_byte 1 h))
      (λ (h : length rest ≤ 1). plain w at (get_or rest 0 0) (get_or rest 1 0) (get_or code (at + 1) 0) wide (omega arith))
      (cases_lt 1 (length rest)) in
      record {
        is = m.is ∙ number_is ∙ ap (λ c. expression_of c (get_or code (at + 1) 0) at) code_is;
        next = m.next;
        literal = λ o i. let n = m.next ∙ ap (start w at) i in let p = m.long in let l = rest_long in omega arith;
      }

-- bytes in the part are those of the block
pub part_bytes : (w : ℕ) (code : List ℕ) (stop i : ℕ) → i + w ≤ length (take stop code) → take w (drop i (take stop code)) ≡ take w (drop i code)
part_bytes w code stop i h = let l = length-take stop code in ap (take w) (sym (between_is code i stop)) ∙ take-take w (stop - i) (drop i code) (omega arith)
