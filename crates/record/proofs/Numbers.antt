-- What an accepted record reads at a number. Assumes nothing.
use Rattle.std.proofs.Common.{◌≡◌, ℕ, zero, suc, ◌+◌, Bool, true, false, cond, not, eqb, leb, List, [], ◌∷◌, Some, Ok, ap, ◌∙◌}
use Rattle.kind.specs.Kind.{Meaning}
use Rattle.refusal.specs.Outcomes.{must}
use Rattle.record.specs.Fields.{pair_at, part}
use Rattle.record.specs.Shapes.{sending}
use Rattle.record.specs.Records.{allowed, entries, judged, bytes_at}
use Rattle.record.specs.Trees.{Entry, sent, entry_at}
use Rattle.record.specs.Forms.{reads_at}
use Rattle.record.proofs.Inverse.{was_read}
use Rattle.refusal.proofs.Outcomes.{after_ok}

module _ {V : Type 0} (k : Meaning V) (number : ℕ) where
  found : (d : V) (default : List ℕ) → k.read default ≡ Some d → (base : ℕ) (bs : List ℕ) (n low at : ℕ) (es : List (Entry V)) → entries k d base bs n low at ≡ Ok es
      → k.read (bytes_at k.width number default bs n at) ≡ Some (entry_at number d es)
  found d default r base bs zero low at es e = let g : [] ≡ es = cc in r ∙ ap (λ (l : List (Entry V)). Some (entry_at number d l)) g
  found d default r base bs (suc n) low at es e =
      let c1 = after_ok (allowed _ (k.read (part bs (at + 2) k.width))) _ es e in
      let c2 = after_ok (must (leb low (pair_at bs at)) _ _) _ es c1.2 in
      let c3 = after_ok (must (not (k.same c1.0 d)) _ _) _ es c2.2 in
      let c4 = after_ok (entries k d base bs n (pair_at bs at + 1) (at + (2 + k.width))) _ es c3.2 in
      let last = c4.2 in
      let g : record { number = pair_at bs at; value = c1.0 } ∷ c4.0 ≡ es = cc in
      either (eqb (pair_at bs at) number) (was_read _ _ _ c1.1) (found d default r base bs n (pair_at bs at + 1) (at + (2 + k.width)) c4.0 c4.1) ∙ ap (λ (l : List (Entry V)). Some (entry_at number d l)) g
    where
      either : (t : Bool) {x y : List ℕ} {u v : V} → k.read x ≡ Some u → k.read y ≡ Some v → k.read (cond t x y) ≡ Some (cond t u v)
      either true p q = p
      either false p q = q

pub reads_entry : {V : Type 0} (k : Meaning V) (p at : ℕ) (place default : List ℕ) (n : ℕ) (bs : List ℕ) (q : ℕ) (d : V) (es : List (Entry V))
    → judged k p (sending at place default n bs) ≡ Ok (sent q d es) → (number : ℕ) → reads_at k number (sending at place default n bs) ≡ Some (entry_at number d es)
reads_entry {V} k p at place default n bs q d es e number =
    let d1 = after_ok (must (eqb (pair_at place 0) p) _ _) _ _ e in
    let d2 = after_ok (allowed _ (k.read default)) _ _ d1.2 in
    let d3 = after_ok (entries k d2.0 (at + 5 + k.width) bs n 0 0) _ _ d2.2 in
    let last = d3.2 in
    let x : d2.0 ≡ d = cc in
    let y : d3.0 ≡ es = cc in
    found k number d2.0 default (was_read _ _ _ d2.1) (at + 5 + k.width) bs n 0 0 d3.0 d3.1 ∙ (λ i. Some (entry_at number (x i) (y i)))
