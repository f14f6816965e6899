use Rattle.std.proofs.Common.{rules, ◌==◌, arith}
use Rattle.std.proofs.lemmas.Fn.{always_returns_same}
use Rattle.script.proofs.Runs.{none_behind, behind, behind_is_shorter}
use Rattle.script.proofs.text.cut.Goals as goal

pub returns-in-empty-clause-front : goal.returns-in-empty-clause-front
returns-in-empty-clause-front c = c.split_before.ensures.front (λ b. b == c.args.c) (always_returns_same _ _ _ (λ a r f k. search rules))

pub returns-in-empty-clause-back : goal.returns-in-empty-clause-back
returns-in-empty-clause-back c = none_behind _ _ (c.split_before.ensures.back (λ b. b == c.args.c) (always_returns_same _ _ _ (λ a r f k. search rules))) (omega arith)

pub returns-in-len1-up-clause-front : goal.returns-in-len1-up-clause-front
returns-in-len1-up-clause-front c = c.split_before.ensures.front (λ b. b == c.args.c) (always_returns_same _ _ _ (λ a r f k. search rules))

pub returns-in-len1-up-clause-back : goal.returns-in-len1-up-clause-back
returns-in-len1-up-clause-back c = behind _ _ (c.split_before.ensures.back (λ b. b == c.args.c) (always_returns_same _ _ _ (λ a r f k. search rules)))

pub returns-in-len1-up-clause-shorter : goal.returns-in-len1-up-clause-shorter
returns-in-len1-up-clause-shorter c = λ _. behind_is_shorter c.split_before.result.1.now c.args.text.now (omega arith) (omega arith)
