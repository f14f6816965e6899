use Rattle.std.proofs.Common.{◌≡◌, ℕ, ◌+◌, ◌-◌, ◌*◌, length}
use Rattle.std.specs.Slice.Iter.{chunks_exact_rest, chunks_exact_size}
use Rattle.record.specs.Records.{behind, bytes_at}
use Rattle.record.proofs.Rows.{Cut}
use Rattle.record.proofs.reading.find_entry.Given as goal

abbrev pub invariant-loop-entry : goal.invariant-loop-entry
invariant-loop-entry g l =
    let w = g.K.Kind.meaning.width in
    let i = length l.yielded in
    (goal.iterator-loop-entry g).can_next l.entry-iterator
    × (goal.iterator-loop-entry g).is_finite l.entry-iterator
    × (chunks_exact_size l.entry-iterator ≡ 2 + w)
    × Cut w l.entries i (chunks_exact_rest l.entry-iterator)
    × ((n : ℕ) → behind w n 0 ≡ length l.entries → bytes_at w l.number l.default l.entries n 0 ≡ bytes_at w l.number l.default l.entries (n - i) (i * (2 + w)))
