use Rattle.std.proofs.Common.{ltb, get_or, rules, tests, arith}
use Rattle.std.proofs.lemmas.Bool.{ltb-true, ltb-false}
use Rattle.std.proofs.lemmas.List.Sorted.{IsPartitionedBy-ltb, IsPartitionPoint-from_clause}
use Rattle.packed_inbox.specs.PackedInbox.{rows, lent}
use Rattle.packed_inbox.specs.declared.row.Row.{Row}
use Rattle.packed_inbox.proofs.Cuts.{sender, bound_of}
use Rattle.packed_inbox.proofs.PackedFacts.{rows_rise}
use Rattle.packed_inbox.proofs.packed_inbox.PackedInbox.lower_bound.Goals as goal

pub returns : goal.returns
returns c =
    let p = c.args.self.now in
    let s = c.args.sender in
    let i = c.partition_point.result in
    let e = c.deref.ensures.0 in
    let k = IsPartitionPoint-from_clause (λ (r : Row). ltb (sender r) s) (rows p) i (rw e at c.partition_point.ensures.partitioned) (IsPartitionedBy-ltb sender (rows p) s (rows_rise p)) (λ a r q k. search (rules, tests)) in
    bound_of (rows p) (lent p) s i (rw e at c.partition_point.ensures.bound)
    (λ j d l. ltb-true (sender (get_or (rows p) j d)) s (k.0 j d (omega arith) l))
    (λ j d b l. ltb-false (sender (get_or (rows p) j d)) s (k.1 j d b l))
