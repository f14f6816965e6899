-- The worked cases hold.
use Rattle.std.proofs.Common.{◌≡◌, ℕ, false, List, [], ◌∷◌, refl}
use Rattle.rules.specs.Rules.{Field, senders, folded, work, record_of}
use Rattle.rules.specs.Cases.{WorkedCases}

none_folded : {V : Type 0} (o : V → V → V) (f : Field V) (v : V) (ns : List ℕ) → folded o (λ _. false) f v ns ≡ v
none_folded o f v [] = refl
none_folded o f v (n ∷ ns) = none_folded o f v ns

pub worked_cases : (V : Type 0) → WorkedCases V
unfolding work record_of
worked_cases V = record {
  adds = refl;
  halves = refl;
  by_zero = refl;
  all_labels = refl;
  bit_above = refl;
  start = λ k g n a b env p. none_folded (k.apply n) (work k g a env (λ _. false) p).value _ (senders g.held);
  entry = refl;
  default = refl;
  distances = refl;
  two_calls = refl;
  first_branch = refl;
  second_branch = refl;
}
