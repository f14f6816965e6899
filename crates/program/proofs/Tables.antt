-- The loop over the functions: what the table holds, and what is left to read. Assumes nothing.
use Rattle.std.proofs.Common.{◌≡◌, ℕ, zero, suc, ◌+◌, ◌-◌, ◌<◌, ◌≤◌, Bool, eqb, List, [], ◌∷◌, ◌++◌, map, length, take, set, replicate, Ok, Err, sym, refl, ap, ◌∙◌, ⊎_elim, append_assoc, arith, length-append, length-set, length-take, get_or-set_other, get_or-take, get_or-set_same}
use lib.ListN.{length-map, get_or-replicate}
use Rattle.std.proofs.lemmas.List.{take_at, set_at, map_push}
use Rattle.std.proofs.lemmas.Bool.{cases_eq}
use Rattle.std.proofs.lemmas.Bool.Decides.{nat_tests}
use Rattle.refusal.specs.declared.refused.Refusal.{Refusal}
use Rattle.program.specs.declared.shape.KindShape.{KindShape}
use Rattle.program.specs.declared.function.Function.{Function}
use Rattle.program.specs.Expressions.{Unfolded}
use Rattle.program.specs.Bounds.{Limited, Limits}
use Rattle.refusal.specs.Outcomes.{after}
use Rattle.refusal.proofs.Outcomes.{mapped_ok, mapped_err}
use Rattle.program.specs.Verdict.{function, functions}
use Rattle.program.specs.Sizing.{row, no_row, table_of, rowed, tabled}

pub record Sofar (refuses : List ℕ → Bool) (k : KindShape) (sensors : ℕ) (b : List ℕ) (count i at : ℕ) (table : List Function) : Type 0 where
  pub trees : List Unfolded
  pub many : length trees ≡ i
  pub rows : table ≡ table_of k.width trees
  pub rest : functions refuses k sensors b (count - i) at trees ≡ functions refuses k sensors b count 10 []

-- a row is written behind the others
write : (xs : List Function) (f : Function) (n i : ℕ) → length xs ≡ i → 0 < n → set (xs ++ replicate n no_row) i f ≡ (xs ++ (f ∷ [])) ++ replicate (n - 1) no_row
write xs f zero i e h = absurd (omega arith)
write xs f (suc n) i e h =
    let m : suc n - 1 ≡ n = omega arith in
    rw m (set_at xs no_row (replicate n no_row) f i e ∙ sym (append_assoc xs (f ∷ []) (replicate n no_row)))

-- what the loop keeps, whatever the kind
pub record Safe (b : List ℕ) (at : ℕ) (table : List Function) : Type 0 where
  pub behind : 10 ≤ at
  pub inside : at ≤ length b
  pub limited : Limited table
  pub long : length table ≡ 32

pub limited_take : (xs : List Function) (n : ℕ) → Limited xs → Limited (take n xs)
limited_take xs n h j d lt =
    let l = length-take n xs in
    let near : j < n = omega arith in
    rw (get_or-take n xs j d near) (h j d (omega arith))

limited_set : (xs : List Function) (i : ℕ) (f : Function) → Limited xs → Limits f.sizes → i < length xs → Limited (set xs i f)
limited_set xs i f h lim within j d lt =
    let l = length-set xs i f in
    ⊎_elim (λ same. rw same (rw (get_or-set_same xs i f d within) lim))
    (λ ne. rw (get_or-set_other xs i j f d ne) (h j d (omega arith))) (cases_eq j i)

pub safe_none : (b : List ℕ) → 10 ≤ length b → Safe b 10 (replicate 32 no_row)
safe_none b h = record {
  behind = omega arith;
  inside = h;
  limited = λ j d lt. rw (get_or-replicate 32 j no_row d lt) (record { size = omega arith; depth = omega arith; weight = omega arith; places = omega arith });
  long = refl;
}

pub safe_more : {b : List ℕ} {at : ℕ} {table : List Function} (i : ℕ) (f : Function) → Safe b at table → i < 32 → at < f.end → f.end ≤ length b → Limits f.sizes → Safe b f.end (set table i f)
safe_more {b} {at} {table} i f s h lt le lim = record {
  behind = omega (arith, s.behind);
  inside = le;
  limited = limited_set table i f s.limited lim (omega (arith, s.long));
  long = length-set table i f ∙ s.long;
}

module _ (refuses : List ℕ → Bool) (k : KindShape) (sensors : ℕ) (b : List ℕ) where
  last_test : (n i count : ℕ) → count - i ≡ suc n → eqb n 0 ≡ eqb (i + 1) count
  last_test n i count e = grind (arith, nat_tests)

  functions_more : (n i count at : ℕ) (fs : List Unfolded) → n ≡ count - i → i < count →
      functions refuses k sensors b n at fs ≡ after (function refuses k sensors b fs (eqb (i + 1) count) at) (λ f. functions refuses k sensors b (n - 1) f.end (fs ++ (f ∷ [])))
  functions_more zero i count at fs e h = absurd (omega arith)
  functions_more (suc n) i count at fs e h =
      let m : suc n - 1 ≡ n = omega arith in
      rw (m, last_test n i count (sym e))

module _ {refuses : List ℕ → Bool} {k : KindShape} {sensors : ℕ} {b : List ℕ} {count i at : ℕ} {table : List Function} (s : Sofar refuses k sensors b count i at table) where
  pub front : take i table ≡ map (row k.width) s.trees
  front = rw s.rows (take_at (map (row k.width) s.trees) _ i (length-map s.trees (row k.width) ∙ s.many))

  pub by_refusal : (x : Refusal) → i < count → Err x ≡ rowed k.width (function refuses k sensors b s.trees (eqb (i + 1) count) at) →
      Err x ≡ tabled k.width (functions refuses k sensors b count 10 [])
  by_refusal x h e =
      let f : function refuses k sensors b s.trees (eqb (i + 1) count) at ≡ Err x = mapped_err (row k.width) _ x (sym e) in
      let g : functions refuses k sensors b (count - i) at s.trees ≡ Err x = functions_more refuses k sensors b (count - i) i count at s.trees refl h ∙ rw f in
      ap (tabled k.width) (sym g ∙ s.rest)

  pub by_end : i ≡ count → Ok table ≡ tabled k.width (functions refuses k sensors b count 10 [])
  by_end e =
      let z : count - i ≡ 0 = omega arith in
      let g : functions refuses k sensors b 0 at s.trees ≡ functions refuses k sensors b count 10 [] = rw z at s.rest in
      ap Ok s.rows ∙ ap (tabled k.width) g

  more_by : (f : Function) (g : Unfolded) → i < count → count ≤ 32 → function refuses k sensors b s.trees (eqb (i + 1) count) at ≡ Ok g → f ≡ row k.width g →
      Sofar refuses k sensors b count (i + 1) f.end (set table i f)
  more_by f g h few is row_is =
      let now : functions refuses k sensors b (count - i) at s.trees ≡ functions refuses k sensors b (count - i - 1) g.end (s.trees ++ (g ∷ [])) =
      functions_more refuses k sensors b (count - i) i count at s.trees refl h ∙ rw is in
      let ends : g.end ≡ f.end = ap (λ (r : Function). r.end) (sym row_is) in
      let fewer : count - (i + 1) ≡ count - i - 1 = omega arith in
      let xs = map (row k.width) s.trees in
      let pushed : map (row k.width) (s.trees ++ (g ∷ [])) ≡ xs ++ (f ∷ []) = map_push (row k.width) s.trees g ∙ ap (λ (r : Function). xs ++ (r ∷ [])) (sym row_is) in
      let all : length (s.trees ++ (g ∷ [])) ≡ i + 1 = length-append s.trees (g ∷ []) ∙ omega (arith, s.many) in
      record {
        trees = s.trees ++ (g ∷ []);
        many = all;
        rows = rw s.rows (write xs f (32 - length s.trees) i (length-map s.trees (row k.width) ∙ s.many) (omega (arith, s.many))
            ∙ rw pushed (ap (λ (n : ℕ). (xs ++ (f ∷ [])) ++ replicate n no_row) (omega (arith, s.many, all))));
        rest = rw (fewer, ← ends) (sym now ∙ s.rest);
      }

  pub more : (f : Function) → i < count → count ≤ 32 → Ok f ≡ rowed k.width (function refuses k sensors b s.trees (eqb (i + 1) count) at) →
      Sofar refuses k sensors b count (i + 1) f.end (set table i f)
  more f h few e =
      let q = mapped_ok (row k.width) (function refuses k sensors b s.trees (eqb (i + 1) count) at) f (sym e) in
      more_by f q.0 h few q.1 (sym q.2)

pub none : (refuses : List ℕ → Bool) (k : KindShape) (sensors : ℕ) (b : List ℕ) (count : ℕ) → Sofar refuses k sensors b count 0 10 (replicate 32 no_row)
none refuses k sensors b count = record {
  trees = [];
  many = refl;
  rows = refl;
  rest = ap (λ (n : ℕ). functions refuses k sensors b n 10 []) (omega arith);
}
