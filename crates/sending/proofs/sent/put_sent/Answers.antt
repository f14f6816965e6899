use Rattle.std.proofs.Common.{◌≡◌, ◌+◌, ◌-◌, List, ◌∷◌, count_by, length, take, drop, sym, ap, ◌∙◌, subst, arith, length-drop, length-take-le}
use Rattle.std.proofs.lemmas.List.{take_rest}
use Rattle.record.specs.Writing.{written_entries}
use Rattle.record.proofs.Grows.{puts_after, puts_is}
use Rattle.row_stack.proofs.Laying.{row_long}
use Rattle.sending.specs.Kept.{kept, kept_one, differs}
use Rattle.sending.specs.Sending.{Put}
use Rattle.sending.proofs.Entries.{own_split, own_within, kept_few, one_few}
use Rattle.sending.proofs.Puts.{put_all, row_parts, room_behind_head, room_behind}
use Rattle.sending.proofs.sent.put_sent.Goals as goal

pub put_other-requires : goal.put_other-requires
put_other-requires g c =
    let k = g.K.Kind.meaning in
    let laws = g.met.K.Kind.lawful in
    let ns = take c.count_before-before.result c.args.numbers.now in
    let low = own_within c.args.node c.count_before-before.result c.args.numbers.now c.count_before-before.ensures in
    let front = length-take-le c.count_before-before.result c.args.numbers.now low in
    let d = c.index-row-0.result in
    let start = room_behind_head k laws c.args.place d c.count_other.result c.put_head.ensures c.requires.room in
    let room = room_behind k laws (kept k d ns _) (length ns) 1 17 c.put_others.ensures (kept_few k d ns _) (omega (arith, front, low)) start in
    omega (arith, room)

pub put_others-requires-2-clause-room : goal.put_others-requires-2-clause-room
put_others-requires-2-clause-room g c =
    let k = g.K.Kind.meaning in
    let laws = g.met.K.Kind.lawful in
    let i = c.count_before-before.result in
    let ns = c.args.numbers.now in
    let low = own_within c.args.node i ns c.count_before-before.ensures in
    let front = length-take-le i ns low in
    let back = length-drop i ns in
    let rest = ap length (take_rest ns i) in
    let d = c.index-row-0.result in
    let m = length (take (length ns - i) (drop i ns)) in
    let start = room_behind_head k laws c.args.place d c.count_other.result c.put_head.ensures c.requires.room in
    let second = room_behind k laws (kept k d (take i ns) _) (length (take i ns)) (1 + m) 17 c.put_others.ensures (kept_few k d (take i ns) _) (omega (arith, front, rest, back, low)) start in
    room_behind k laws (kept_one k d c.args.node c.index-row-1.result) 1 m (1 + m) c.put_other.ensures (one_few k d c.args.node c.index-row-1.result) (omega arith) second

pub returns : goal.returns
returns g c =
    let k = g.K.Kind.meaning in
    let laws = g.met.K.Kind.lawful in
    let s = c.args.rows.now in
    let row = c.row-row.result.now in
    let i = c.count_before-before.result in
    let ns = c.args.numbers.now in
    let d = c.index-row-0.result in
    let own = c.index-row-1.result in
    let ys = drop 2 row in
    let wide : length row ≡ 2 + length ns = ap length c.row-row.ensures ∙ row_long s c.args.at c.requires.there ∙ c.requires.wide in
    let parts = row_parts row (length ns) d own wide c.index-row-0.is c.index-row-1.is in
    let cells = take_rest row 2 in
    let counted : c.count_other.result ≡ count_by (differs k d) (own ∷ ys) =
    c.count_other.ensures ∙ ap (count_by (differs k d)) (take_rest row 1 ∙ ap (drop 1) (sym parts)) in
    let first = puts_is (ap (λ (l : List _). written_entries k (kept k d (take i ns) l)) cells) c.put_others.ensures in
    let last = puts_is (λ j. written_entries k (kept k d (take_rest ns i j) ((take_rest _ i ∙ ap (drop i) cells) j))) c.put_others-2.ensures in
    subst (λ (l : List _). Put k c.args.place c.args.node ns l c.args.output.now c.put_others-2.new.output)
    (parts ∙ c.row-row.ensures)
    (put_all k laws c.args.place c.args.node ns d own ys i c.count_other.result c.requires.few (let l = length-drop 2 row in omega arith)
    (own_split c.args.node i ns c.count_before-before.ensures) counted
    (puts_after c.put_head.ensures (puts_after first (puts_after c.put_other.ensures last))))
