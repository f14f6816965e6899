use Rattle.std.proofs.Common.{ℕ, ◌+◌, ◌-◌, ◌≤◌, sym, refl, ap, ◌∙◌, arith}
use Rattle.program.specs.declared.expression.Expression.TheVariants.{Let, If, Call}
use Rattle.program.specs.declared.function.Function.{Function}
use Rattle.program.specs.Measures.{places}
use Rattle.unfolding.specs.Unfolding.{start}
use Rattle.unfolding.specs.Walks.{unfolded_in}
use Rattle.unfolding.proofs.Checked.{some_depth}
use Rattle.unfolding.proofs.Programs.{start_small}
use Rattle.round.proofs.Rowing.{row_after_most}
use Rattle.round.proofs.Stacks.{laid_kept}
use Rattle.round.proofs.Arms.{found_low}
use Rattle.round.proofs.Readying as ready
use Rattle.round.proofs.Finishing as done
use Rattle.round.proofs.worker.Worker.+working.Goals as goal

pub bind-work-next-requires : goal.bind-work-next-requires
bind-work-next-requires g t c κs within = (omega (arith, some_depth), (within.0, (within.1, ready.first_ready _ _ c.requires.ready Let tt c.requires.step)))

pub bind-work-end-requires : goal.bind-work-end-requires
bind-work-end-requires g t c κs within = (omega (arith, some_depth), (within.0, (within.1, ready.second_ready _ _ c.requires.ready c.requires.step refl refl c.with.ensures c.work-next.ensures)))

pub bind-returns : goal.bind-returns
bind-returns g t c = done.bind_done _ g.met.K.Kind.lawful _ c.requires.ready c.requires.step refl c.with.ensures c.work-next.ensures c.work-end.ensures c.copy.ensures

pub work_parts-returns-then-count-eq0 : goal.work_parts-returns-then-count-eq0
work_parts-returns-then-count-eq0 g t c = done.none_done _ g.met.K.Kind.lawful _ _ (omega arith)

pub work_parts-work_parts-requires : goal.work_parts-work_parts-requires
work_parts-work_parts-requires g t c κs within = (omega arith, (within.0, (within.1, (ready.tail_ready _ _ (omega arith) c.requires.ready refl refl c.work-next.ensures, omega arith))))

pub work_parts-returns : goal.work_parts-returns
work_parts-returns g t c = done.next_done _ g.met.K.Kind.lawful _ c.requires.ready (omega arith) refl c.work-next.ensures c.work_parts.ensures

pub compute-work_parts-end-requires : goal.compute-work_parts-end-requires
compute-work_parts-end-requires g t c κs within =
    let ga = ready.gathers c.args.e c.requires.parts in
    let few : c.count_parts-count.result ≤ 8 = ready.parts_few g.K.Kind.meaning c.args.scene.now.inputs.now c.args.e ga c.count_parts-count.ensures.is in
    (omega (arith, some_depth), (within.0, (within.1, (ready.parts_ready _ _ c.requires.ready c.args.e ga c.requires.step c.count_parts-count.ensures.is (c.parts_start-at.ensures ∙ ap (λ (v : ℕ). start v c.args.task.at c.args.e) c.width.ensures.is), few))))

pub compute-returns : goal.compute-returns
compute-returns g t c = done.compute_done _ g.met.K.Kind.lawful _ c.requires.ready c.args.e c.requires.parts c.requires.step c.count_parts-count.ensures.is (c.parts_start-at.ensures ∙ ap (λ (v : ℕ). start v c.args.task.at c.args.e) c.width.ensures.is) c.work_parts-end.ensures c.finish.ensures

pub call-work_parts-end-requires : goal.call-work_parts-end-requires
call-work_parts-end-requires g t c κs within =
    let few = ready.called_few c.args.scene.now.inputs.now c.args.n c.function-called.ensures in
    (omega (arith, some_depth), (within.0, (within.1, (ready.parts_ready _ _ c.requires.ready (Call c.args.n) tt c.requires.step (ap (λ (h : Function). h.parameters) c.function-called.ensures) refl, few))))

pub call-arguments-top-requires-clause-few : goal.call-arguments-top-requires-clause-few
call-arguments-top-requires-clause-few g t c = ready.called_few c.args.scene.now.inputs.now c.args.n c.function-called.ensures

pub call-overflow_sub-depth : goal.call-overflow_sub-depth
call-overflow_sub-depth g t c = omega (arith, some_depth)

pub call-work-requires : goal.call-work-requires
call-work-requires g t c κs within = (omega (arith, some_depth), (within.0, (within.1, ready.body_ready _ _ c.requires.ready c.requires.step c.function-called.ensures c.arguments-top.ensures.top refl c.arguments-top.ensures.rows c.work_parts-end.ensures)))

pub call-copy-requires : goal.call-copy-requires
call-copy-requires g t c =
    let few = ready.called_few c.args.scene.now.inputs.now c.args.n c.function-called.ensures in
    let l = ready.left _ _ c.work_parts-end.ensures in
    let l' = ready.left _ _ c.work.ensures in
    let most = row_after_most c.work_parts-end.new.self.rows.width c.args.task.base c.function-called.result.parameters (omega (arith, some_depth)) in
    record { room = omega (arith, some_depth); there = omega (arith, some_depth) }

pub call-returns : goal.call-returns
call-returns g t c = done.call_done _ g.met.K.Kind.lawful _ c.requires.ready c.requires.step c.function-called.ensures c.arguments-top.ensures.top c.arguments-top.ensures.rows c.work_parts-end.ensures c.work.ensures c.copy.ensures

pub exchange-work-next-requires : goal.exchange-work-next-requires
exchange-work-next-requires g t c κs within = (omega (arith, some_depth), (within.0, (within.1, ready.first_ready _ _ c.requires.ready c.args.e (ready.sends_first c.args.e c.requires.sends) c.requires.step)))

pub exchange-skip_parts-inside-requires : goal.exchange-skip_parts-inside-requires
exchange-skip_parts-inside-requires g t c =
    let s = ready.spread _ _ c.requires.ready c.args.e c.requires.sends c.requires.step c.part_count-count.ensures c.work-next.ensures in
    record { near = s.near; few = omega arith }

pub exchange-overflow_add-here : goal.exchange-overflow_add-here
exchange-overflow_add-here g t c =
    let s = ready.spread _ _ c.requires.ready c.args.e c.requires.sends c.requires.step c.part_count-count.ensures c.work-next.ensures in
    record { fits = omega arith }

pub exchange-work_parts-end-requires : goal.exchange-work_parts-end-requires
exchange-work_parts-end-requires g t c κs within =
    let s = ready.spread _ _ c.requires.ready c.args.e c.requires.sends c.requires.step c.part_count-count.ensures c.work-next.ensures in
    let kp = laid_kept c.receive.ensures.laid (omega arith) c.receive.ensures.wide in
    (omega arith, (within.0, (within.1, (ready.sent_ready _ _ c.requires.ready s c.with.ensures refl kp refl, omega arith))))

pub exchange-hand_over-requires : goal.exchange-hand_over-requires
exchange-hand_over-requires g t c =
    let s = ready.spread _ _ c.requires.ready c.args.e c.requires.sends c.requires.step c.part_count-count.ensures c.work-next.ensures in
    let kp = laid_kept c.receive.ensures.laid (omega arith) c.receive.ensures.wide in
    let lo = ready.left _ _ c.work_parts-end.ensures in
    let low = found_low c.args.e (c.args.task.base + c.receive.new.rows.width) c.work_parts-end.new.self.rows.width c.rows_found-found.ensures in
    record { small = omega arith; wide = omega arith; base = omega arith; returned = omega arith; sent = omega arith; room = omega arith }

pub exchange-overflow_add-self : goal.exchange-overflow_add-self
exchange-overflow_add-self g t c =
    let s = ready.spread _ _ c.requires.ready c.args.e c.requires.sends c.requires.step c.part_count-count.ensures c.work-next.ensures in
    record { fits = omega arith }

pub exchange-returns : goal.exchange-returns
exchange-returns g t c = done.exchange_done _ g.met.K.Kind.lawful _ c.requires.ready c.args.e c.requires.sends c.requires.step c.part_count-count.ensures c.with.ensures refl refl c.skip_parts-inside.ensures.places c.work-next.ensures c.cell-initial.ensures c.receive.ensures c.work_parts-end.ensures c.rows_found-found.ensures c.hand_over.ensures

pub branch-work-next-requires : goal.branch-work-next-requires
branch-work-next-requires g t c κs within = (omega (arith, some_depth), (within.0, (within.1, ready.first_ready _ _ c.requires.ready If tt c.requires.step)))

pub branch-part_ways-requires : goal.branch-part_ways-requires
branch-part_ways-requires g t c =
    let fk = ready.forked _ _ c.requires.ready c.requires.step c.work-next.ensures in
    record { room = fk.room; small = omega arith }

pub branch-overflow_add-self : goal.branch-overflow_add-self
branch-overflow_add-self g t c =
    let fk = ready.forked _ _ c.requires.ready c.requires.step c.work-next.ensures in
    record { fits = omega arith }

pub branch-work-second-requires : goal.branch-work-second-requires
branch-work-second-requires g t c κs within = (omega (arith, some_depth), (within.0, (within.1, ready.yes_ready _ _ c.requires.ready c.requires.step c.work-next.ensures c.part_ways.ensures (omega arith))))

pub branch-skip-end-requires : goal.branch-skip-end-requires
branch-skip-end-requires g t c =
    let fk = ready.forked _ _ c.requires.ready c.requires.step c.work-next.ensures in
    let e1 = ap (λ (z : ℕ). places (unfolded_in c.args.scene.now.inputs.now.program.now (c.args.task.depth - 1) z).0) c.work-second.ensures.end_is in
    record { near = omega arith; few = omega arith }

pub branch-overflow_add-self-then-first : goal.branch-overflow_add-self-then-first
branch-overflow_add-self-then-first g t c =
    let fk = ready.forked _ _ c.requires.ready c.requires.step c.work-next.ensures in
    let e1 = ap (λ (z : ℕ). places (unfolded_in c.args.scene.now.inputs.now.program.now (c.args.task.depth - 1) z).0) c.work-second.ensures.end_is in
    record { fits = omega arith }

pub branch-skip-second-requires : goal.branch-skip-second-requires
branch-skip-second-requires g t c =
    let fk = ready.forked _ _ c.requires.ready c.requires.step c.work-next.ensures in
    record { near = fk.near; few = omega arith }

pub branch-overflow_add-self-else-first : goal.branch-overflow_add-self-else-first
branch-overflow_add-self-else-first g t c =
    let fk = ready.forked _ _ c.requires.ready c.requires.step c.work-next.ensures in
    record { fits = omega arith }

pub branch-work-requires : goal.branch-work-requires
branch-work-requires g t c κs within = (omega (arith, some_depth), (within.0, (within.1, ready.no_ready _ _ c.requires.ready c.requires.step c.work-next.ensures c.part_ways.ensures c.skip-second.ensures.end c.skip-second.ensures.places refl)))

pub branch-returns-then-first : goal.branch-returns-then-first
branch-returns-then-first g t c = done.yes_done _ g.met.K.Kind.lawful _ c.requires.ready c.requires.step c.work-next.ensures c.cell.ensures c.truth-first.ensures c.if-first.true c.part_ways.ensures (omega arith) c.work-second.ensures c.skip-end.ensures.end c.skip-end.ensures.places

pub branch-returns-else-first : goal.branch-returns-else-first
branch-returns-else-first g t c = done.no_done _ g.met.K.Kind.lawful _ c.requires.ready c.requires.step c.work-next.ensures c.cell.ensures c.truth-first.ensures c.if-first.false c.part_ways.ensures c.skip-second.ensures.end c.skip-second.ensures.places c.work.ensures

pub work-returns-in_default : goal.work-returns-in_default
work-returns-in_default g t c = done.blank_done _ g.met.K.Kind.lawful _ c.requires.ready (sym c.in_default.ensures) c.link_row.ensures (omega (arith, some_depth))

pub work-returns-in-Literal : goal.work-returns-in-Literal
work-returns-in-Literal g t c = done.leaf_done _ g.met.K.Kind.lawful _ c.requires.ready c.in-Some.e (done.is_leaf c.in-Some.e c.in-Literal.is) c.in-Some.ensures c.leaf.ensures (c.parts_start.ensures ∙ ap (λ (v : ℕ). start v c.args.task.at c.in-Some.e) c.width.ensures.is)

pub work-parts_start-requires : goal.work-parts_start-requires
work-parts_start-requires g t c = start_small c.args.scene.now.inputs.now.program.now c.args.task.at c.in-Some.e c.width.result c.requires.ready.near c.in-Some.ensures c.width.ensures.is
