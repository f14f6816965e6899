use Rattle.std.proofs.Common.{sym, ◌∙◌, arith}
use Rattle.refusal.specs.Outcomes.{mapped}
use Rattle.tree.specs.Trees.{tree_in, sender_of}
use Rattle.round.proofs.Outputs.{own_true, own_false}
use Rattle.round.proofs.work_out.own_tree.Goals as goal

pub returns-then-eq : goal.returns-then-eq
returns-then-eq g c =
    let k = g.K.Kind.meaning in
    let p = c.args.program.now in
    let last = c.args.last.now in
    own_true k g.met.K.Kind.lawful p.program.now c.args.node last (λ i. omega (arith, (c.type_inv.last i).fits)) p.suited _ c.read.result
    (c.read.ensures.is ∙ (λ j. mapped sender_of (tree_in k (c.program.ensures j) (c.another.ensures j) last))) (sym c.eq.ensures ∙ c.if-eq.true)

pub returns-else-eq : goal.returns-else-eq
returns-else-eq g c =
    let k = g.K.Kind.meaning in
    let p = c.args.program.now in
    let last = c.args.last.now in
    own_false k g.met.K.Kind.lawful p.program.now c.args.node last (λ i. omega (arith, (c.type_inv.last i).fits)) p.suited _ c.read.result
    (c.read.ensures.is ∙ (λ j. mapped sender_of (tree_in k (c.program.ensures j) (c.another.ensures j) last))) (sym c.eq.ensures ∙ c.if-eq.false)
