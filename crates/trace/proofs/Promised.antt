-- The call at hand: it ends every line that leaves the state before it one longer, and what is promised holds.
use Rattle.std.proofs.Common.{◌≡◌, ℕ, List, [], ◌∷◌, ◌++◌, map, length, drop, Ok, Err, sym, refl, ap, ◌∙◌, subst, append_assoc}
use Rattle.std.proofs.ByRecursion.{All-push}
use Rattle.std.proofs.lemmas.List.{take_at}
use Rattle.refusal.specs.Outcomes.{Outcome, mapped}
use Rattle.kind.specs.Kind.{Meaning, Lawful}
use Rattle.trace.specs.States.{State}
use Rattle.trace.specs.Calls.{Call, round_on, round_answer, after_round, after_call}
use Rattle.trace.specs.Lines.{Event, delivered, dropped, worked, rounds_in, Line, start, then_call, OfBytes, Possible, worked_so, done_by, after_calls, history, end, events, rounds}
use Rattle.trace.specs.Promises.{gift, Keeps, Promise, given_by, CallsPromised, seen_in}
use Rattle.rules.specs.Working.{told, on_output}
use Rattle.trace.proofs.Isolated.{rounds_isolated}
use Rattle.trace.proofs.Held.{held_exactly}
use Rattle.trace.proofs.Own.{own_trees_pass_lem}

pub possible_more : (l : Line) (c : Call) → OfBytes c → Possible l → Possible (then_call l c)
possible_more l c b h = record { node = h.node; program = h.program; inbox = h.inbox; messages = All-push OfBytes l.calls c h.messages b }

gifts_append : {V : Type 0} (es fs : List (Event V)) → map gift (rounds_in (es ++ fs)) ≡ map gift (rounds_in es) ++ map gift (rounds_in fs)
gifts_append [] fs = refl
gifts_append (delivered s link m ∷ es) fs = gifts_append es fs
gifts_append (dropped s ∷ es) fs = gifts_append es fs
gifts_append (worked r ∷ es) fs = ap (λ l. gift r ∷ l) (gifts_append es fs)

nil : {X : Type 0} (xs : List X) → xs ++ [] ≡ xs
nil [] = refl
nil (x ∷ xs) = ap (λ l. x ∷ l) (nil xs)

module _ {V : Type 0} (k : Meaning V) where
  pub after_one_more : (s : State) (cs : List Call) (c : Call) → after_calls k s (cs ++ (c ∷ [])) ≡ after_call k (after_calls k s cs) c
  after_one_more s [] c = refl
  after_one_more s (d ∷ cs) c = after_one_more (after_call k s d) cs c

  pub history_one_more : (s : State) (cs : List Call) (c : Call) → history k s (cs ++ (c ∷ [])) ≡ history k s cs ++ done_by k (after_calls k s cs) c
  history_one_more s [] c = nil (done_by k s c)
  history_one_more s (d ∷ cs) c =
      ap (λ es. done_by k s d ++ es) (history_one_more (after_call k s d) cs c)
      ∙ sym (append_assoc (done_by k s d) (history k (after_call k s d) cs) (done_by k (after_calls k (after_call k s d) cs) c))

  module _ (law : Lawful k) where
    pub keeps : (l : Line) → Possible l → Keeps k l
    keeps l c = record {
      isolated = λ m d p n. rounds_isolated V k law l m c d p n;
      held_exactly = held_exactly k law l c;
      own_trees = own_trees_pass_lem V k law l c;
    }

    pub promised : (s : State) (c : Call) → OfBytes c → Promise k s c (given_by k s c) (after_call k s c)
    promised s c b = record {
      ends = λ l h e. after_one_more (start l) l.calls c ∙ ap (λ (t : State). after_call k t c) e;
      gives = λ l h e.
          ap (λ (es : List (Event V)). map gift (rounds_in es)) (history_one_more (start l) l.calls c)
          ∙ gifts_append (events k l) (done_by k (end k l) c)
          ∙ ap (λ (t : State). map gift (rounds k l) ++ given_by k t c) e;
      keeps = λ l h e. keeps (then_call l c) (possible_more l c b h);
    }

    -- any call, where the code shows which state it leaves
    pub promise_of : (s : State) (c : Call) (t : State) → OfBytes c → t ≡ after_call k s c → Promise k s c (given_by k s c) t
    promise_of s c t b e = subst (Promise k s c (given_by k s c)) (sym e) (promised s c b)

    given_seen : (a : Outcome (V × List ℕ)) (s : State) (b out : List ℕ) → map gift (rounds_in (worked_so k a s b)) ≡ seen_in (mapped told a) (on_output a out)
    given_seen (Err e) s b out = refl
    given_seen (Ok x) s b out = ap (λ (l : List ℕ). (x.0, l) ∷ []) (sym (take_at x.1 (drop (length x.1) out) (length x.1) refl))

    -- a round: by its answer, the output and the state that it leaves
    pub round_promise_of : (s : State) (b : List ℕ) (values bytes output : ℕ) (a : Outcome (V × ℕ)) (out out' : List ℕ) (t : State)
        → a ≡ mapped told (round_answer k s b values bytes output) → out' ≡ on_output (round_answer k s b values bytes output) out
        → t ≡ after_round k s b values bytes output → Promise k s (round_on b values bytes output) (seen_in a out') t
    round_promise_of s b values bytes output a out out' t f g e =
        subst (λ (l : List (V × List ℕ)). Promise k s (round_on b values bytes output) l t)
        (given_seen (round_answer k s b values bytes output) s b out ∙ (λ j. seen_in (sym f j) (sym g j)))
        (promise_of s (round_on b values bytes output) t tt e)

pub calls_promised : (V : Type 0) → CallsPromised V
calls_promised V k law s c b = promised k law s c b
