-- No call changes program, number, limits or life.
use Rattle.std.proofs.Common.{ℕ, List, [], ◌∷◌, ◌++◌, Ok, Err, refl, ◌∙◌}
use Rattle.refusal.specs.Outcomes.{Outcome}
use Rattle.kind.specs.Kind.{Meaning}
use Rattle.inbox.specs.Calls.{put_answer}
use Rattle.inbox.specs.Calls as inbox
use Rattle.trace.specs.States.{State, with_inbox}
use Rattle.trace.specs.Calls.{Call, delivery, drop_of, round_on, deliver_answer, round_answer, put_so, passed_so, after_call}
use Rattle.trace.specs.Lines.{start, after_calls}
use Rattle.trace.specs.Promises.{Stays, LimitsStay}

same : (s : State) → Stays s s
same s = record { program = refl; number = refl; sender_limit = refl; byte_limit = refl; life = refl }

and_then : {s t u : State} → Stays s t → Stays t u → Stays s u
and_then a b = record {
  program = b.program ∙ a.program;
  number = b.number ∙ a.number;
  sender_limit = b.sender_limit ∙ a.sender_limit;
  byte_limit = b.byte_limit ∙ a.byte_limit;
  life = b.life ∙ a.life;
}

put_stays : (o : Outcome (Unit {0})) (s : State) (n : ℕ) (x : List ℕ) → Stays s (with_inbox s (inbox.put_so o s.inbox n x))
put_stays (Ok u) s n x = record { program = refl; number = refl; sender_limit = refl; byte_limit = refl; life = refl }
put_stays (Err e) s n x = record { program = refl; number = refl; sender_limit = refl; byte_limit = refl; life = refl }

delivery_stays : (o : Outcome ℕ) (s : State) (x : List ℕ) → Stays s (put_so o s x)
delivery_stays (Err e) s x = same s
delivery_stays (Ok n) s x = put_stays (put_answer s.inbox n x) s n x

round_stays : {V : Type 0} (o : Outcome (V × List ℕ)) (s : State) → Stays s (passed_so o s)
round_stays (Err e) s = same s
round_stays (Ok x) s = record { program = refl; number = refl; sender_limit = refl; byte_limit = refl; life = refl }

module _ {V : Type 0} (k : Meaning V) where
  pub call_stays : (c : Call) (s : State) → Stays s (after_call k s c)
  call_stays (delivery link m) s = delivery_stays (deliver_answer k s link m) s (link ++ m)
  call_stays (drop_of n) s = record { program = refl; number = refl; sender_limit = refl; byte_limit = refl; life = refl }
  call_stays (round_on b values bytes output) s = round_stays (round_answer k s b values bytes output) s

  pub calls_stay : (s : State) (cs : List Call) → Stays s (after_calls k s cs)
  calls_stay s [] = same s
  calls_stay s (c ∷ cs) = and_then (call_stays c s) (calls_stay (after_call k s c) cs)

pub limits_stay_lem : (V : Type 0) → LimitsStay V
limits_stay_lem V k l = calls_stay k (start l) l.calls
