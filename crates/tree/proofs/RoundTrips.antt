-- Reading and writing of messages along a program. Assumes nothing.
use Rattle.std.proofs.Common.{◌≡◌, ℕ, ◌<◌, ◌≤◌, true, List, length, ap, ◌∙◌, subst, arith}
use Rattle.std.proofs.lemmas.Bool.Decides.{nat_tests}
use Rattle.refusal.specs.Outcomes.{after, must}
use Rattle.refusal.proofs.Outcomes.{after_ok}
use Rattle.refusal.specs.declared.cause.Cause.TheVariants as cause
use Rattle.kind.specs.Kind.{Meaning, Lawful}
use Rattle.program.specs.declared.program.Program.{Program}
use Rattle.program.specs.Measures.{weight}
use Rattle.program.specs.Verdict.{suits}
use Rattle.program.specs.Programs.{shown, run_of}
use Rattle.program.proofs.Shown.{run_within}
use Rattle.record.specs.Fields.{Bytes}
use Rattle.record.specs.Headers.{most_bytes}
use Rattle.record.specs.Trees.{Tree}
use Rattle.record.specs.Messages.{message}
use Rattle.record.specs.Writing.{Follows, written_tree}
use Rattle.record.proofs.Written.{written_read}
use Rattle.record.proofs.Canonical.{read_written}
use Rattle.record.proofs.Weights.{tree_fits}
use Rattle.tree.specs.Trees.{plan_of, RoundTrips}

module _ {V : Type 0} (k : Meaning V) (lawful : Lawful k) (p : Program) (me : ℕ) (m : List ℕ) where
  -- a program of this kind has its width
  same_width : suits k (shown p) ≡ true → (shown p).shape.width ≡ k.width
  same_width h = grind (arith, nat_tests)

  -- its trees keep the limit of a message, by its weight
  short : suits k (shown p) ≡ true → (t : Tree V) → Follows k (plan_of p) t.records → length (written_tree k (shown p).header.number t) ≤ most_bytes
  short h t f =
      let w : weight k.width (run_of p) ≤ 2039 = subst (λ (v : ℕ). weight v (run_of p) ≤ 2039) (same_width h) (run_within p).weight in
      tree_fits k lawful (run_of p) 0 (shown p).header.number t (omega arith) f

  pub round_trips : (n : ℕ) → n ≡ (shown p).header.number → n < 4294967296 → Bytes m → RoundTrips k p me m
  round_trips n en small bytes = record {
    canonical = λ t e.
        let a = after_ok (must (suits k (shown p)) cause.OtherKind 7) _ t e in
        read_written k lawful (plan_of p) (shown p).header.number me m t bytes a.2;
    back = λ h t e s o f.
        ap (λ b. after (must b cause.OtherKind 7) (λ _. message k (plan_of p) (shown p).header.number me m)) h
        ∙ ap (message k (plan_of p) (shown p).header.number me) e
        ∙ written_read k lawful (plan_of p) (shown p).header.number me t (omega arith) s o f (short h t f);
    fits = short;
  }
