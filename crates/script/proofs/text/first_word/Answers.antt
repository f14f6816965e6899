use Rattle.std.proofs.Common.{rules, ap, ◌∙◌}
use Rattle.std.proofs.lemmas.Fn.{always_returns_same}
use Rattle.script.specs.Script.{blank, in_word, before, from}
use Rattle.script.proofs.text.first_word.Goals as goal

pub returns-clause-word : goal.returns-clause-word
returns-clause-word c =
    let words = c.split_before.ensures.back in_word (always_returns_same _ _ _ (λ a r f k. search rules)) in
    c.split_before-2.ensures.front blank (always_returns_same _ _ _ (λ a r f k. search rules)) ∙ ap (before blank) words

pub returns-clause-rest : goal.returns-clause-rest
returns-clause-rest c =
    let words = c.split_before.ensures.back in_word (always_returns_same _ _ _ (λ a r f k. search rules)) in
    c.split_before-2.ensures.back blank (always_returns_same _ _ _ (λ a r f k. search rules)) ∙ ap (from blank) words
