use Rattle.hearing.proofs.Sounding.{heard_aligned, heard_apart}
use Rattle.hearing.proofs.rows.fn.receive.heard.Goals as goal

pub returns-then-aligned-j : goal.returns-then-aligned-j
returns-then-aligned-j g c =
    rw c.unwrap_or.ensures
    (heard_aligned g.K.Kind.meaning c.captures.x.now c.captures.aligned.now c.captures.place c.captures.cursors.now c.captures.initial c.args.j
    c.if-aligned-j.true _ c.tree.ensures _ c.value_at-said.ensures)

pub returns-else-aligned-j : goal.returns-else-aligned-j
returns-else-aligned-j g c =
    heard_apart g.K.Kind.meaning c.captures.x.now c.captures.aligned.now c.captures.place c.captures.cursors.now c.captures.initial c.args.j c.if-aligned-j.false
