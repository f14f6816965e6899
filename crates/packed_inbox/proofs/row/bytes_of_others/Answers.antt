use Rattle.std.proofs.Common.{◌==◌, not, filter, ◌∙◌, rules, tests}
use Rattle.std.proofs.lemmas.Iterator.{YieldsList-from_map, YieldsList-from_slice}
use Rattle.std.proofs.lemmas.Iterator.Consumers.{YieldsList-at, YieldsList-from_filter, sum_by_from_yields_List}
use Rattle.packed_inbox.specs.declared.row.Row.{Row}
use Rattle.packed_inbox.proofs.Cuts.{span_sum}
use Rattle.packed_inbox.proofs.row.bytes_of_others.Goals as goal

pub returns : goal.returns
returns c =
    let others = filter (λ (e : Row). not (e.sender == c.args.sender)) c.args.rows.now in
    sum_by_from_yields_List (λ (e : Row). e.len) others c.map.result c.sum.result c.sum.ensures.ran
    (YieldsList-from_map _ (λ (e : Row). e.len) (YieldsList-at c.map.ensures.source
    (YieldsList-from_filter _ (λ (e : Row). not (e.sender == c.args.sender)) (YieldsList-at c.filter.ensures.source (YieldsList-from_slice c.args.rows.now c.iter.ensures.rest))
    c.filter.ensures.closure (λ x r q k. search (rules, tests)))) c.map.ensures.closure (λ x r q k. search (rules, tests)))
    ∙ span_sum others
