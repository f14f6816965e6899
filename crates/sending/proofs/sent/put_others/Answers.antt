use Rattle.std.proofs.Common.{ℕ, List, take, sym, refl, ap, ◌∙◌, add-one, arith, take_all}
use Rattle.record.specs.Writing.{written_entries}
use Rattle.record.proofs.Grows.{puts_after, puts_is}
use Rattle.sending.specs.Kept.{kept}
use Rattle.sending.proofs.Entries.{kept_next, written_both}
use Rattle.sending.proofs.Puts.{room_for_one}
use Rattle.sending.proofs.sent.put_others.Goals as goal

pub put_other-requires : goal.put_other-requires
put_other-requires g c =
    room_for_one g.K.Kind.meaning g.met.K.Kind.lawful c.args.default c.args.numbers.now c.args.cells.now c.loop-i.i c.loop-i-test.true c.loop-i.invariant c.requires.room

pub loop-i-preserved : goal.loop-i-preserved
loop-i-preserved g c =
    let k = g.K.Kind.meaning in
    let d = c.args.default in
    let i = c.loop-i.i in
    let ns = c.args.numbers.now in
    let xs = c.args.cells.now in
    let x = c.index-cells-i.result in
    let next = kept_next k d ns xs i _ x c.loop-i-test.true (omega arith) refl c.index-cells-i.is in
    let bytes = written_both k (kept k d (take i ns) xs) _ in
    rw add-one (puts_is (sym (ap (written_entries k) next ∙ bytes)) (puts_after c.loop-i.invariant c.put_other.ensures))

pub returns : goal.returns
returns g c =
    let k = g.K.Kind.meaning in
    let all = take_all c.loop-i.i c.args.numbers.now (omega arith) in
    puts_is (ap (λ (ns : List ℕ). written_entries k (kept k c.args.default ns c.args.cells.now)) all) c.loop-i.invariant
