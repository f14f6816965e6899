-- A chain over the slots that hold an item.
use Rattle.std.proofs.Common.{◌≡◌, Bool, true, false, cond, List, [], ◌∷◌, length, Some, None, Option, sym, refl, ap, ◌∙◌, subst}
use Rattle.std.specs.Bool.{MatchBool}
use Rattle.std.specs.Option.{option_to_list}
use Rattle.std.specs.Iterator.Adapters.{option_iter_item, option_iter_done, option_iter_steps, flatten_source, flatten_front, flatten_back, flatten_done, flatten_steps}
use Rattle.std.specs.Slice.Iter.{iter_rest}
use Rattle.std.proofs.iter.Yields.{fronts}
use Rattle.std.specs.declared.iter.Flatten.{Flatten}
use Rattle.std.specs.declared.option.Iter.{OptionIter}
use Rattle.std.specs.declared.slice.Iter.{Iter}
use denote.Ref.{Bor}
use Rattle.std.proofs.lemmas.Option.{none-some}
use Rattle.std.proofs.lemmas.Iterator.{YieldsList, YieldsList-from_slice}
use Rattle.std.proofs.lemmas.Iterator.Consumers.{YieldsList-from_shown}
use Rattle.std.proofs.lemmas.Iterator.Adapters.{YieldsList-from_flatten}
use Rattle.slot_inbox.specs.Slots.{taken}
use Rattle.slot_inbox.specs.declared.slot.Slot.{Slot}

nothing_left : (done : Bool) (o : Option Slot) → MatchBool done (◌≡◌ {A = Option (Bor Slot)} None None) (None ≡ o) → length (cond done [] (option_to_list o)) ≡ 0
nothing_left true o h = refl
nothing_left false o h = ap (λ k. length (option_to_list k)) (sym h)

one_left : (done : Bool) (o : Option Slot) (x : Bor Slot) → MatchBool done (Some x ≡ None) (Some x.now ≡ o) → cond done [] (option_to_list o) ≡ x.now ∷ []
one_left true o x h = absurd (none-some x (sym h))
one_left false o x h = ap option_to_list (sym h)

gives_one : (j : OptionIter Slot) (o : Option Slot) → option_iter_item j ≡ o → option_iter_done j ≡ false → YieldsList (option_iter_steps {A = Slot}) (λ y. y.now) j (option_to_list o)
gives_one j o e d =
    subst (λ b. YieldsList (option_iter_steps {A = Slot}) (λ y. y.now) j (cond b [] (option_to_list o))) d
    (subst (λ k. YieldsList (option_iter_steps {A = Slot}) (λ y. y.now) j (cond (option_iter_done j) [] (option_to_list k))) e
    (YieldsList-from_shown (option_iter_steps {A = Slot}) (λ y. y.now) (λ u. cond (option_iter_done u) [] (option_to_list (option_iter_item u)))
    (λ u t h. nothing_left (option_iter_done u) (option_iter_item u) h.1)
    (λ u x t h. one_left (option_iter_done u) (option_iter_item u) x h.1 ∙ ap (λ b. x.now ∷ cond b [] (option_to_list (option_iter_item t))) (sym h.0))
    j))

pub gives_taken : (becomes : Bor (Option Slot) → OptionIter Slot → Type 0) → ((s : Bor (Option Slot)) (j : OptionIter Slot) → becomes s j → (option_iter_item j ≡ s.now) × (option_iter_done j ≡ false))
    → (s : Flatten (Iter (Option Slot)) (OptionIter Slot)) (ss : List (Option Slot)) → iter_rest (flatten_source s) ≡ ss → flatten_front s ≡ None → flatten_back s ≡ None → flatten_done s ≡ false
    → YieldsList (flatten_steps fronts becomes option_iter_steps) (λ y. y.now) s (taken ss)
gives_taken becomes says s ss e f b d = YieldsList-from_flatten becomes option_iter_steps (λ y. y.now) option_to_list (λ x j k. let h = says x j k in gives_one j x.now h.0 h.1) (YieldsList-from_slice ss e) f b d
