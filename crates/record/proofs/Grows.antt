-- Outputs that grow. Assumes nothing.
use Rattle.std.proofs.Common.{◌≡◌, ℕ, ◌+◌, ◌-◌, ◌≤◌, Bool, true, false, cond, List, [], ◌++◌, length, take, drop, sym, refl, ap, ◌∙◌, subst, append_assoc, append-nil, arith, length-append, length-take, drop-drop, take-add, drop_at}
use mir.Val.{bool_byte}
use Rattle.record.specs.Fields.{part}
use Rattle.record.specs.declared.output.Output.{Output}
use Rattle.record.specs.Growth.{Grown, Puts}

pub grown_none : (c : List ℕ) (u : ℕ) → Grown c u c u []
grown_none c u = record { room = refl; top_is = omega arith; front = sym (append-nil (take u c)); tail = refl }

pub grown_after : {c₀ c₁ c₂ : List ℕ} {u₀ u₁ u₂ : ℕ} {xs ys : List ℕ} → Grown c₀ u₀ c₁ u₁ xs → Grown c₁ u₁ c₂ u₂ ys → Grown c₀ u₀ c₂ u₂ (xs ++ ys)
grown_after {c₀} {c₁} {c₂} {u₀} {u₁} {u₂} {xs} {ys} a b =
    let k = a.top_is in
    let l = b.top_is in
    let long = length-append xs ys in
    record {
      room = b.room ∙ a.room;
      top_is = omega arith;
      front = b.front ∙ ap (λ l. l ++ ys) a.front ∙ append_assoc (take u₀ c₀) xs ys;
      tail = b.tail ∙ ap (λ i. drop i c₁) l ∙ sym (drop-drop (length ys) u₁ c₁) ∙ ap (drop (length ys)) a.tail ∙ drop-drop (length ys) u₁ c₀ ∙ ap (λ i. drop i c₀) (sym l);
    }

pub grown_is : {c₀ c₁ : List ℕ} {u₀ u₁ : ℕ} {xs ys : List ℕ} → xs ≡ ys → Grown c₀ u₀ c₁ u₁ xs → Grown c₀ u₀ c₁ u₁ ys
grown_is {c₀} {c₁} {u₀} {u₁} e h = subst (Grown c₀ u₀ c₁ u₁) e h

-- the same of outputs
pub puts_after : {o m n : Output} {xs ys : List ℕ} → Puts o m xs → Puts m n ys → Puts o n (xs ++ ys)
puts_after a b = record { lender = b.lender ∙ a.lender; grown = grown_after a.grown b.grown }

pub puts_is : {o n : Output} {xs ys : List ℕ} → xs ≡ ys → Puts o n xs → Puts o n ys
puts_is {o} {n} e h = subst (Puts o n) e h

pub bit_is : (b : Bool) → bool_byte b ≡ cond b 1 0
bit_is true = refl
bit_is false = refl

-- what was put behind the front is the part there
pub grown_part : {old new more : List ℕ} {used top : ℕ} → Grown old used new top more → used ≤ length old → part new used (top - used) ≡ more
grown_part {old} {new} {more} {used} {top} g room =
    let long : length (take used old) ≡ used = simp length-take (omega arith) in
    let top_is = g.top_is in
    let all : top ≡ used + (top - used) = omega arith in
    let both : take used new ++ part new used (top - used) ≡ take used old ++ more = sym (take-add used (top - used) new) ∙ ap (λ i. take i new) (sym all) ∙ g.front in
    let new-long = ap length g.front in
    let same : length (take used new) ≡ used = simp length-take (let e = simp (length-append, length-take) at new-long in let r = g.room in omega arith) in
    sym (drop_at (take used new) (part new used (top - used)) used same) ∙ ap (drop used) both ∙ drop_at (take used old) more used long
