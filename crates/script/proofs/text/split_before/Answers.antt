use Rattle.std.proofs.Common.{rules, [], ◌∷◌}
use Rattle.std.proofs.lemmas.Iterator.{YieldsList-from_slice}
use Rattle.std.proofs.lemmas.Iterator.Search.{position_from_yields_List}
use Rattle.script.proofs.Runs.{front_is, back_is}
use Rattle.script.proofs.text.split_before.Goals as goal

pub returns-clause-front : goal.returns-clause-front
returns-clause-front g c = λ p h.
    let found = position_from_yields_List p _ _ c.position.result c.position.ensures.ran (YieldsList-from_slice c.args.text.now cc) (λ x b q k. (search rules, (h.at ((x, tt) ∷ []) b q k).0)) in
    front_is p c.args.text.now found c.unwrap_or-n.ensures c.split_at.ensures.front

pub returns-clause-back : goal.returns-clause-back
returns-clause-back g c = λ p h.
    let found = position_from_yields_List p _ _ c.position.result c.position.ensures.ran (YieldsList-from_slice c.args.text.now cc) (λ x b q k. (search rules, (h.at ((x, tt) ∷ []) b q k).0)) in
    back_is p c.args.text.now found c.unwrap_or-n.ensures c.split_at.ensures.back
