use Rattle.std.proofs.Common.{◌≡◌, ◌+◌, ◌-◌, ◌*◌, length, drop}
use Rattle.std.specs.Iterator.Adapters.{enumerate_source, enumerate_count}
use Rattle.std.specs.Slice.Iter.{chunks_exact_rest, chunks_exact_size}
use Rattle.rules.specs.Working.{readings_from}
use Rattle.round.proofs.Outputs.{judged}
use Rattle.round.proofs.work_out.check_readings.Given as goal

abbrev pub invariant-loop-i : goal.invariant-loop-i
invariant-loop-i g l =
    let k = g.K.Kind.meaning in
    let i = enumerate_count l.i-iterator in
    let source = enumerate_source l.i-iterator in
    (goal.iterator-loop-i g).can_next l.i-iterator
    × (goal.iterator-loop-i g).is_finite l.i-iterator
    × (chunks_exact_size source ≡ k.width)
    × (drop (i * k.width) l.readings ≡ chunks_exact_rest source)
    × (i * k.width + length (chunks_exact_rest source) ≡ length l.readings)
    × (judged (readings_from k l.sensors 0 l.readings) ≡ judged (readings_from k (l.sensors - i) (i * k.width) l.readings))
