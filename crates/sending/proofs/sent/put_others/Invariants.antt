use Rattle.std.proofs.Common.{take}
use Rattle.record.specs.Growth.{Puts}
use Rattle.record.specs.Writing.{written_entries}
use Rattle.sending.specs.Kept.{kept}
use Rattle.sending.proofs.sent.put_others.Given as goal

abbrev pub invariant-loop-i : goal.invariant-loop-i
invariant-loop-i g l = Puts l.initial.output l.output (written_entries g.K.Kind.meaning (kept g.K.Kind.meaning l.default (take l.i l.numbers) l.cells))
