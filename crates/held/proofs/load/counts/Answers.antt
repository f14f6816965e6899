use Rattle.std.proofs.Common.{sym, ◌∙◌}
use Rattle.held.proofs.Counting.{held_by_answers}
use Rattle.held.proofs.load.counts.Goals as goal

pub returns-then-is_some : goal.returns-then-is_some
returns-then-is_some g c =
    let split = c.in-Some.ensures.cases in
    c.eq.ensures
    ∙ held_by_answers g.K.Kind.meaning _ c.args.program.now c.args.node c.args.sender c.args.item.now c.in-Some.link.now c.in-Some.tree.now
    c.WIDTH.result (c.WIDTH.ensures ∙ g.met.K.Kind.width_is) split.1 split.2 c.requires.suits
    c.read.result c.read-then-is_some.result c.read.ensures
    c.read-then-is_some.ensures.is
    (sym c.is_some.ensures ∙ c.if-is_some.true)
