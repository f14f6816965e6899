use Rattle.std.proofs.Common.{◌≡◌, ◌∙◌, rules}
use Rattle.std.specs.List.{sum_by}
use Rattle.packed_inbox.specs.declared.row.Row.{Row}
use Rattle.packed_inbox.proofs.Cuts.{span_sum}
use Rattle.packed_inbox.proofs.row.bytes_of.Goals as goal

pub returns : goal.returns
returns c = let e : c.sum.result ≡ sum_by (λ (e : Row). e.len) c.args.rows.now = search rules in e ∙ span_sum c.args.rows.now
