-- Cursors that are moved on and flags that are made, one slot after the other.
use Rattle.std.proofs.Common.{◌≡◌, ℕ, ◌+◌, ◌<◌, ◌≤◌, Bool, true, false, ◌&&◌, ◌≢◌, List, ◌++◌, length, get_or, set, Some, Option, sym, refl, ap, ◌∙◌, subst, arith, get_or-set_other, get_or-set_same, below_more}
use mathlib.Core.Bool.{beq}
use Rattle.std.proofs.lemmas.List.{get_or_append_left}
use Rattle.std.specs.Option.{option_eq}
use Rattle.kind.specs.Kind.{Meaning}
use Rattle.record.specs.Trees.{Rec, Said, silent, chose, reads, says}
use Rattle.rules.specs.Rules.{Given, same, is_choice, narrowed}
use Rattle.cursor.specs.Cursors.{Readable, Stands, said_choice}
use Rattle.hearing.specs.declared.inputs.Inputs.{Inputs}
use Rattle.hearing.specs.declared.cursors.Cursors.{Cursors}
use Rattle.hearing.specs.Hearing.{tree_of, Gives, Standing, Flags}
use Rattle.hearing.proofs.Hearers.{hears_nth}

-- one element more of a list that is written from the front on
pub each_more : {A : Type 0} (P : ℕ → A → Type 0) (d : A) (xs : List A) (j : ℕ) (v : A) → j < length xs → ((i : ℕ) → i < j → P i (get_or xs i d)) → P j v
    → (i : ℕ) → i < j + 1 → P i (get_or (set xs j v) i d)
each_more P d xs j v h below here =
    below_more _ _
    (λ i l. let ne : i ≢ j = omega arith in subst (P i) (sym (get_or-set_other xs j i v d ne)) (below i l))
    (subst (P j) (sym (get_or-set_same xs j v d h)) here)

module _ {V : Type 0} (k : Meaning V) (x : Inputs) (place : ℕ) where
  -- the cursor in the tree of slot j goes from a position to one that stands at the place
  abbrev pub Moves : ℕ → ℕ → ℕ → Type 0
  Moves j from to = (rs : List (Rec V)) (low : ℕ) → Readable k (tree_of k x j) rs → Stands k (tree_of k x j) rs low from → low ≤ place → Stands k (tree_of k x j) rs place to

  pub moves_on : (j at from to : ℕ) → at ≡ from → (m : List ℕ) → m ≡ tree_of k x j
      → ((rs : List (Rec V)) (low : ℕ) → Readable k m rs → Stands k m rs low at → low ≤ place → Stands k m rs place to)
      → Moves j from to
  moves_on j at from to e m is moves = λ rs low readable stands le.
      subst (λ (t : List ℕ). Stands k t rs place to) is
      (moves rs low (subst (λ (t : List ℕ). Readable k t rs) (sym is) readable)
      (subst (λ (n : ℕ). Stands k m rs low n) (sym e) (subst (λ (t : List ℕ). Stands k t rs low from) (sym is) stands)) le)

  -- the flag of slot j stays where its sender chose the branch
  abbrev pub Stays : Bool → ℕ → ℕ → Bool → Bool → Type 0
  Stays first j from flag still = (rs : List (Rec V)) (low number : ℕ) → Readable k (tree_of k x j) rs → Stands k (tree_of k x j) rs low from → low ≤ place → still ≡ (flag && is_choice first (says number place rs))

  -- the senders of the slots have moved on, or kept their flags: what is written is the front of the list
  pub all_moved : (g : Given V) (low : ℕ) (before after : Cursors) (items rest : List ℕ) → Gives k x g → Standing k x g low before → low ≤ place
      → after.senders ≡ items ++ rest → x.slots.now.count ≤ length items
      → ((j : ℕ) → j < x.slots.now.count → Moves j (get_or before.senders j 0) (get_or items j 0))
      → Stands k x.own.now g.last place after.own
      → Standing k x g place after
  all_moved g low before after items rest gives stands le e long moves own =
      let many = gives.held.many in
      record {
        senders = λ j d h.
            subst (λ (n : ℕ). Stands k (tree_of k x j) (get_or g.held j d).tree place n)
            (sym (ap (λ (xs : List ℕ). get_or xs j 0) e ∙ get_or_append_left items rest 0 j (omega (arith, many, h, long))))
            (moves j (omega (arith, many, h)) _ low (gives.trees j d h) (stands.senders j d h) le);
        own = own;
      }

  pub all_stay : (first : Bool) (g : Given V) (al : ℕ → Bool) (low : ℕ) (c : Cursors) (flags items rest : List Bool) → Gives k x g → Flags g al flags → Standing k x g low c → low ≤ place
      → x.slots.now.count ≤ length items
      → ((j : ℕ) → j < x.slots.now.count → Stays first j (get_or c.senders j 0) (get_or flags j false) (get_or items j false))
      → Flags g (narrowed g al place first) (items ++ rest)
  all_stay first g al low c flags items rest gives aligned stands le long stays =
      let many = gives.held.many in
      record {
        is = λ j d h.
            get_or_append_left items rest false j (omega (arith, many, h, long))
            ∙ stays j (omega (arith, many, h)) _ low g.number (gives.trees j d h) (stands.senders j d h) le
            ∙ (λ i. aligned.is j d h i && is_choice first (sym (hears_nth g.number place g.held gives.orderly.rising j d h) i));
      }

-- a choice that was found in a tree, by what the tree says
module _ {V : Type 0} (k : Meaning V) (x : Inputs) (place : ℕ) (first : Bool) (j from : ℕ) where
  pub found_stays : (flag still : Bool) → flag ≡ true → (m : List ℕ) → m ≡ tree_of k x j → (o : Option Bool)
      → ((rs : List (Rec V)) (low number : ℕ) → Readable k m rs → Stands k m rs low from → low ≤ place → o ≡ said_choice (says number place rs))
      → still ≡ option_eq beq o (Some first) → Stays k x place first j from flag still
  found_stays flag still aligned m is o found e = λ rs low number readable stands le.
      e
      ∙ ap (λ (p : Option Bool). option_eq beq p (Some first))
      (found rs low number (subst (λ (t : List ℕ). Readable k t rs) (sym is) readable) (subst (λ (t : List ℕ). Stands k t rs low from) (sym is) stands) le)
      ∙ by_said first (says number place rs)
      ∙ ap (λ (b : Bool). b && is_choice first (says number place rs)) (sym aligned)
    where
      by_choice : (b first : Bool) → beq b first ≡ same first b
      by_choice true true = refl
      by_choice true false = refl
      by_choice false true = refl
      by_choice false false = refl

      by_said : (first : Bool) (s : Said V) → option_eq beq (said_choice s) (Some first) ≡ is_choice first s
      by_said first silent = refl
      by_said first (chose b) = by_choice b first
      by_said first (reads v) = refl

  pub apart_stays : (flag still : Bool) → flag ≡ false → still ≡ flag → Stays k x place first j from flag still
  apart_stays flag still apart e = λ rs low number readable stands le.
      e ∙ apart ∙ ap (λ (b : Bool). b && is_choice first (says number place rs)) (sym apart)
