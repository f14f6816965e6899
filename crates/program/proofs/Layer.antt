-- Every refusal of a block is one of the program's layer. Assumes nothing.
use Rattle.std.proofs.Common.{ℕ, zero, suc, ◌+◌, Bool, true, false, cond, not, ◌&&◌, ◌||◌, eqb, ltb, leb, List, [], ◌∷◌, ◌++◌, length, get_or, take, drop, refl}
use Rattle.refusal.specs.declared.cause.Cause.TheVariants as cause
use Rattle.refusal.specs.Outcomes.{Outcome, must, InLayer}
use Rattle.refusal.proofs.Outcomes.{layer_after, layer_must}
use Rattle.program.specs.declared.shape.KindShape.{KindShape}
use Rattle.program.specs.Expressions.{Expr, Unfolded}
use Rattle.program.specs.Measures.{sizes_of}
use Rattle.program.specs.Reading.{number_bytes, coded, decoded, readable, available, part_count, binds, called_function, parts, expr}
use Rattle.program.specs.Verdict.{header, function, functions, read_block, part_fits, part_end, within_limits}

either_way : {A : Type 0} (t : Bool) (m n : Outcome A) → InLayer 1 m → InLayer 1 n → InLayer 1 (cond t m n)
either_way true m n h k = h
either_way false m n h k = k

layer_coded : (w c n at : ℕ) → InLayer 1 (coded w c n at)
layer_coded w c n at =
    either_way (eqb c 1) _ _ tt (either_way (eqb c 2) _ _ tt (either_way (eqb c 3) _ _ tt (either_way (eqb c 4) _ _ tt (either_way (eqb c 5) _ _ tt
    (either_way (eqb c 6) _ _ tt (either_way (eqb c 7) _ _ tt (either_way (eqb c 8) _ _ tt (either_way (eqb c 9) _ _ tt (either_way (eqb c 10) _ _ tt
    (either_way (eqb c 11) _ _ tt (either_way (eqb c 12) _ _ tt (either_way (eqb c 13) _ _ tt refl))))))))))))

layer_decoded : (w : ℕ) (rest : List ℕ) (at : ℕ) → InLayer 1 (decoded w rest at)
layer_decoded w rest at =
    either_way (ltb 0 (length rest)) _ _
    (either_way (leb (1 + number_bytes w (get_or rest 0 0)) (length rest)) _ _ (layer_coded w (get_or rest 0 0) (get_or rest 1 0) at) refl) refl

layer_parts : (read : ℕ → ℕ → Outcome (Expr × ℕ)) → ((at scope : ℕ) → InLayer 1 (read at scope)) → (n at first others : ℕ) → InLayer 1 (parts read n at first others)
layer_parts read h zero at first others = tt
layer_parts read h (suc n) at first others =
    layer_after 1 (read at first) _ (h at first) (λ a. layer_after 1 (parts read n a.1 others others) _ (layer_parts read h n a.1 others others) (λ ps. tt))

module _ (refuses : List ℕ → Bool) (k : KindShape) (sensors : ℕ) where
  layer_expr : (fs : List Unfolded) (part : List ℕ) (fuel at scope : ℕ) → InLayer 1 (expr refuses k sensors fs part fuel at scope)
  layer_expr fs part zero at scope = refl
  layer_expr fs part (suc fuel) at scope =
      layer_after 1 (decoded k.width (drop at part) at) _ (layer_decoded k.width (drop at part) at) (λ d.
      layer_after 1 (must (readable refuses k.width part d.0) cause.LiteralRefused (at + 1)) _ (layer_must 1 _ _ _ refl) (λ _.
      layer_after 1 (must (available k sensors (length fs) scope d.0) cause.NotAvailable (at + 1)) _ (layer_must 1 _ _ _ refl) (λ _.
      layer_after 1 (parts (expr refuses k sensors fs part fuel) (part_count (called_function fs d.0).parameters d.0) d.1 scope (scope + binds d.0)) _
      (layer_parts (expr refuses k sensors fs part fuel) (layer_expr fs part fuel) (part_count (called_function fs d.0).parameters d.0) d.1 scope (scope + binds d.0)) (λ ps. tt))))

  layer_function : (b : List ℕ) (fs : List Unfolded) (last : Bool) (at : ℕ) → InLayer 1 (function refuses k sensors b fs last at)
  layer_function b fs last at =
      layer_after 1 (must (part_fits b at) cause.FunctionCount at) _ (layer_must 1 _ _ _ refl) (λ _.
      layer_after 1 (must (leb (get_or b (at + 2) 0) 8 && (not last || eqb (get_or b (at + 2) 0) 0)) cause.Parameters (at + 2)) _ (layer_must 1 _ _ _ refl) (λ _.
      layer_after 1 (expr refuses k sensors fs (take (part_end b at) b) (length b) (at + 3) (get_or b (at + 2) 0)) _
      (layer_expr fs (take (part_end b at) b) (length b) (at + 3) (get_or b (at + 2) 0)) (λ e.
      layer_after 1 (must (eqb e.1 (part_end b at)) cause.ProgramLeftover e.1) _ (layer_must 1 _ _ _ refl) (λ _.
      layer_after 1 (must (not last || eqb (part_end b at) (length b)) cause.ProgramLeftover (part_end b at)) _ (layer_must 1 _ _ _ refl) (λ _.
      layer_after 1 (must (within_limits (sizes_of k.width e.0)) cause.FunctionTooLarge at) _ (layer_must 1 _ _ _ refl) (λ _. tt))))))

  layer_functions : (b : List ℕ) (n at : ℕ) (fs : List Unfolded) → InLayer 1 (functions refuses k sensors b n at fs)
  layer_functions b zero at fs = tt
  layer_functions b (suc n) at fs = layer_after 1 (function refuses k sensors b fs (eqb n 0) at) _ (layer_function b fs (eqb n 0) at) (λ f. layer_functions b n f.end (fs ++ (f ∷ [])))

pub layer_block : (refuses : List ℕ → Bool) (k : KindShape) (b : List ℕ) → InLayer 1 (read_block refuses k b)
layer_block refuses k b =
    layer_after 1 (header k b) _ (layer_header k b) (λ h.
    layer_after 1 (functions refuses k h.sensors b h.functions 10 []) _ (layer_functions refuses k h.sensors b h.functions 10 []) (λ fs. tt))
  where
    layer_header : (k : KindShape) (b : List ℕ) → InLayer 1 (header k b)
    layer_header k b =
        layer_after 1 (must (leb 10 (length b) && leb (length b) 1024) cause.ProgramLength 0) _ (layer_must 1 _ _ _ refl) (λ _.
        layer_after 1 (must (eqb (get_or b 0 0) 1) cause.ProgramVersion 0) _ (layer_must 1 _ _ _ refl) (λ _.
        layer_after 1 (must _ cause.ProgramCount 1) _ (layer_must 1 _ _ _ refl) (λ _.
        layer_after 1 (must (eqb (get_or b 7 0) k.number) cause.OtherKind 7) _ (layer_must 1 _ _ _ refl) (λ _.
        layer_after 1 (must (leb (get_or b 8 0) 8) cause.BlockCounts 8) _ (layer_must 1 _ _ _ refl) (λ _.
        layer_after 1 (must (leb 1 (get_or b 9 0) && leb (get_or b 9 0) 32) cause.BlockCounts 9) _ (layer_must 1 _ _ _ refl) (λ _. tt))))))
