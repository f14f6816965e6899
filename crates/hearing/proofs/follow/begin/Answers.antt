use Rattle.std.proofs.Common.{ℕ, ◌<◌, get_or, sym, subst, arith}
use lib.ListN.{get_or-replicate}
use Rattle.cursor.specs.Cursors.{Stands}
use Rattle.cursor.proofs.Standing.{stands_start}
use Rattle.hearing.specs.Hearing.{tree_of}
use Rattle.hearing.proofs.follow.begin.Goals as goal

pub returns : goal.returns
returns g c = λ x given gives. record {
  senders = λ j d h.
      let many = gives.held.many in
      let few = x.slots.now.few in
      let short : j < 16 = omega (arith, many, few, h) in
      subst (λ (n : ℕ). Stands g.K.Kind.meaning (tree_of g.K.Kind.meaning x j) (get_or given.held j d).tree 0 n) (sym (get_or-replicate 16 j 9 0 short)) (stands_start (gives.trees j d h));
  own = stands_start gives.last;
}
