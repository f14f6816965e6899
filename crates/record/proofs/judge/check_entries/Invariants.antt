use Rattle.std.proofs.Common.{◌≡◌, ℕ, ◌+◌, ◌-◌, ◌*◌, length}
use Rattle.std.specs.Iterator.Adapters.{enumerate_source, enumerate_count}
use Rattle.std.specs.Slice.Iter.{chunks_exact_rest, chunks_exact_size}
use Rattle.record.specs.Records.{behind, entries}
use Rattle.record.proofs.Rows.{Cut, done}
use Rattle.record.proofs.judge.check_entries.Given as goal

abbrev pub invariant-loop-i : goal.invariant-loop-i
invariant-loop-i g l =
    let k = g.K.Kind.meaning in
    let i = enumerate_count l.i-iterator in
    let source = enumerate_source l.i-iterator in
    (goal.iterator-loop-i g).can_next l.i-iterator
    × (goal.iterator-loop-i g).is_finite l.i-iterator
    × (chunks_exact_size source ≡ 2 + k.width)
    × Cut k.width l.entries i (chunks_exact_rest source)
    × ((n : ℕ) → behind k.width n 0 ≡ length l.entries → done (entries k l.default l.base l.entries n 0 0) ≡ done (entries k l.default l.base l.entries (n - i) l.low (i * (2 + k.width))))
