-- What the check found is the verdict. Assumes nothing.
use Rattle.std.proofs.Common.{◌≡◌, ℕ, true, ◌&&◌, eqb, List, [], Ok, Err, sym, refl, ap, ◌∙◌, subst, eq-eqb}
use Rattle.refusal.specs.declared.refused.Refusal.{Refusal}
use Rattle.refusal.specs.Outcomes.{Outcome, after, InLayer}
use Rattle.refusal.proofs.Outcomes.{after_ok, mapped_ok, mapped_err, ok_same, after_is}
use Rattle.kind.specs.Kind.{Meaning}
use Rattle.program.specs.declared.program.Program.{Program}
use Rattle.program.specs.declared.header.Header.{Header}
use Rattle.program.specs.declared.function.Function.{Function}
use Rattle.program.specs.declared.shape.KindShape.{KindShape}
use Rattle.program.specs.Expressions.{Unfolded}
use Rattle.program.specs.Verdict.{header, functions, Checked, read_block, none_refused, shape_of, refused_by, suits, verdict}
use Rattle.program.specs.Sizing.{table_of, tabled, outline_of, outlined}
use Rattle.program.specs.Programs.{block_of, shown}
use Rattle.program.proofs.Accepted.{keeps_block}
use Rattle.program.proofs.Layer.{layer_block}
use Rattle.program.proofs.Shown.{reads}

module _ {V : Type 0} (k : Meaning V) (b : List ℕ) (s : KindShape) (is : s ≡ shape_of k) (h : Header) (headed : Ok h ≡ header s b) where
  abbrev rows : Outcome (List Unfolded)
  rows = functions (refused_by k) s h.sensors b h.functions 10 []

  to_verdict : read_block (refused_by k) s b ≡ verdict k b
  to_verdict = ap (λ (z : KindShape). read_block (refused_by k) z b) is

  pub refused_functions : (x : Refusal) → Err x ≡ tabled s.width (functions (refused_by k) s h.sensors b h.functions 10 []) → Err x ≡ verdict k b
  refused_functions x e =
      let none : rows ≡ Err x = mapped_err (table_of s.width) rows x (sym e) in
      sym (sym to_verdict ∙ after_is (header s b) _ h (sym headed) ∙ ap (λ (z : Outcome (List Unfolded)). after z (λ fs. Ok (record { block = b; shape = s; header = h; functions = fs }))) none)

  module _ (t : List Function) (e : Ok t ≡ tabled s.width (functions (refused_by k) s h.sensors b h.functions 10 [])) where
    record Accepted : Type 0 where
      checked : Checked
      by_kind : read_block (refused_by k) s b ≡ Ok checked
      outline : outline_of s.width checked ≡ record { header = h; functions = t }

    found : Accepted
    found =
        let q = mapped_ok (table_of s.width) rows t (sym e) in
        record {
          checked = record { block = b; shape = s; header = h; functions = q.0 };
          by_kind = after_is (header s b) _ h (sym headed) ∙ after_is rows _ q.0 q.1;
          outline = ap (λ (z : List Function). record { header = h; functions = z }) q.2;
        }

    by_none : read_block none_refused s b ≡ Ok found.checked
    by_none = keeps_block (refused_by k) s b found.checked found.by_kind

    pub outlined_is : outlined s.width (read_block none_refused s b) ≡ Ok (record { header = h; functions = t })
    outlined_is = ap (outlined s.width) by_none ∙ ap Ok found.outline

    pub shown_is : (p : Program) → block_of p ≡ b → p.shape ≡ s → Ok (shown p) ≡ verdict k b
    shown_is p kept shaped =
        let again : read_block none_refused p.shape (block_of p) ≡ Ok found.checked =
        ap (λ (z : KindShape). read_block none_refused z (block_of p)) shaped ∙ ap (read_block none_refused s) kept ∙ by_none in
        ap Ok (ok_same _ _ (sym (reads p) ∙ again)) ∙ sym found.by_kind ∙ to_verdict

pub refused_in_layer : {V : Type 0} (k : Meaning V) (b : List ℕ) (x : Refusal) → Err x ≡ verdict k b → InLayer {A = Checked} 1 (Err x)
refused_in_layer k b x e = subst (InLayer 1) (sym e) (layer_block (refused_by k) (shape_of k) b)

-- an accepted program is for the kind that it was checked for
pub shown_suits : {V : Type 0} (k : Meaning V) (b : List ℕ) (p : Program) → Ok (shown p) ≡ verdict k b → suits k (shown p) ≡ true
shown_suits k b p e =
    let h = after_ok (header (shape_of k) b) _ (shown p) (sym e) in
    let f = after_ok (functions (refused_by k) (shape_of k) h.0.sensors b h.0.functions 10 []) _ (shown p) h.2 in
    let s : shape_of k ≡ (shown p).shape = ap (λ (c : Checked). c.shape) (ok_same _ _ f.2) in
    subst (λ (t : KindShape). eqb t.number k.number && (eqb t.width k.width && eqb t.operators k.operators) ≡ true) s
    (rw (eq-eqb k.number k.number refl, eq-eqb k.width k.width refl, eq-eqb k.operators k.operators refl))
