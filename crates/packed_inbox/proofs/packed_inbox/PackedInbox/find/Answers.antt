use Rattle.std.proofs.Common.{length, subst, sym, rules}
use Rattle.std.proofs.lemmas.List.Sorted.{answers_always}
use Rattle.std.specs.List.Sorted.{IsBinarySearchResult, IsSearchInRange}
use Rattle.std.specs.Ordering.{nat_cmp}
use Rattle.inbox.specs.Search.{Finds}
use Rattle.packed_inbox.specs.PackedInbox.{contents}
use Rattle.packed_inbox.proofs.Cuts.{sender}
use Rattle.packed_inbox.proofs.PackedFacts.{found}
use Rattle.packed_inbox.proofs.packed_inbox.PackedInbox.find.Goals as goal

pub returns : goal.returns
returns c =
    let p = c.args.self.now in
    let s = c.args.sender in
    let r = c.binary_search_by_key.result in
    let e = c.deref.ensures.0 in
    subst (Finds (contents p).items s) (sym c.ok.ensures.value)
    (found p s r (subst (λ es. IsSearchInRange r (length es)) e c.binary_search_by_key.ensures.bound)
    (subst (λ es. IsBinarySearchResult (λ y. nat_cmp (sender y) s) es r) e (c.binary_search_by_key.ensures.position sender (answers_always _ _ _ (λ f a r g h. search rules)))))
