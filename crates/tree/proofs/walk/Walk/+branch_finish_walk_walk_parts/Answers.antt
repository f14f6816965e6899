use Rattle.std.proofs.Common.{◌+◌, ◌-◌, sym, refl, ap, ◌∙◌, arith}
use Rattle.std.proofs.lemmas.Result.{err_from_is_err_and}
use Rattle.refusal.specs.Outcomes.{Outcome, after}
use Rattle.program.specs.Measures.{places_all}
use Rattle.program.specs.Programs.{shown}
use Rattle.unfolding.specs.Unfolding.{listed}
use Rattle.unfolding.specs.Walks.{rows, unfolded_in}
use Rattle.unfolding.proofs.Near.{split}
use Rattle.unfolding.proofs.Programs.{known_in, near_in, start_small, body_start, body_is}
use Rattle.tree.specs.Walks.{Stand, stand, finished}
use Rattle.tree.proofs.Branches.{condition, chosen, other, other_behind}
use Rattle.tree.proofs.Passing as passing
use Rattle.tree.proofs.walk.Walk.+branch_finish_walk_walk_parts.Goals as goal

pub branch-walk-requires : goal.branch-walk-requires
branch-walk-requires g t c κs within =
    let w = c.args.self.now in
    let from = c.args.here.now in
    let r = condition g.K.Kind.meaning w.message.now w.program.now c.args.depth from.at c.requires.deep from.place from.position c.requires.step (record { near = c.requires.near; few = c.requires.few }) in
    let o = c.decreases in
    let deep = c.requires.deep in
    (omega arith, (within.0, (within.1, (r.near, (r.few, c.requires.inside)))))

pub branch-overflow_add-here-2 : goal.branch-overflow_add-here-2
branch-overflow_add-here-2 g t c =
    let w = c.args.self.now in
    let from = c.args.here.now in
    let x = chosen g.K.Kind.meaning w.message.now w.program.now c.args.depth from.at c.requires.deep from.place from.position c.requires.step (record { near = c.requires.near; few = c.requires.few }) (stand c.walk.new.here) c.in_ok-walk.ensures.is in
    let few = x.few in
    record { fits = omega arith }

pub branch-walk-requires-then-yes : goal.branch-walk-requires-then-yes
branch-walk-requires-then-yes g t c κs within =
    let w = c.args.self.now in
    let from = c.args.here.now in
    let x = chosen g.K.Kind.meaning w.message.now w.program.now c.args.depth from.at c.requires.deep from.place from.position c.requires.step (record { near = c.requires.near; few = c.requires.few }) (stand c.walk.new.here) c.in_ok-walk.ensures.is in
    let o = c.decreases in
    let deep = c.requires.deep in
    (omega arith, (within.0, (within.1, (x.first.near, (x.first.few, c.in_ok-yes.ensures.ends.1)))))

pub branch-skip-at-requires : goal.branch-skip-at-requires
branch-skip-at-requires g t c =
    let w = c.args.self.now in
    let from = c.args.here.now in
    let r = other_behind g.K.Kind.meaning w.message.now w.program.now c.args.depth from.at c.requires.deep from.place from.position c.requires.step (record { near = c.requires.near; few = c.requires.few }) (stand c.walk.new.here) c.in_ok-walk.ensures.is _ (stand c.walk-then-yes.new.here) c.in_ok-walk-2.ensures.is in
    let few = r.few in
    record { near = r.near; few = omega arith }

pub branch-overflow_add-here-then-yes : goal.branch-overflow_add-here-then-yes
branch-overflow_add-here-then-yes g t c =
    let w = c.args.self.now in
    let from = c.args.here.now in
    let r = other_behind g.K.Kind.meaning w.message.now w.program.now c.args.depth from.at c.requires.deep from.place from.position c.requires.step (record { near = c.requires.near; few = c.requires.few }) (stand c.walk.new.here) c.in_ok-walk.ensures.is _ (stand c.walk-then-yes.new.here) c.in_ok-walk-2.ensures.is in
    let few = r.few in
    let skipped = c.skip-at.ensures.places in
    record { fits = omega arith }

pub branch-skip-at-requires-else-yes : goal.branch-skip-at-requires-else-yes
branch-skip-at-requires-else-yes g t c =
    let w = c.args.self.now in
    let from = c.args.here.now in
    let x = chosen g.K.Kind.meaning w.message.now w.program.now c.args.depth from.at c.requires.deep from.place from.position c.requires.step (record { near = c.requires.near; few = c.requires.few }) (stand c.walk.new.here) c.in_ok-walk.ensures.is in
    let few = x.few in
    record { near = x.first.near; few = omega arith }

pub branch-overflow_add-here-else-yes : goal.branch-overflow_add-here-else-yes
branch-overflow_add-here-else-yes g t c =
    let w = c.args.self.now in
    let from = c.args.here.now in
    let x = chosen g.K.Kind.meaning w.message.now w.program.now c.args.depth from.at c.requires.deep from.place from.position c.requires.step (record { near = c.requires.near; few = c.requires.few }) (stand c.walk.new.here) c.in_ok-walk.ensures.is in
    let few = x.few in
    let skipped = c.skip-at-else-yes.ensures.places in
    record { fits = omega arith }

pub branch-walk-requires-else-yes : goal.branch-walk-requires-else-yes
branch-walk-requires-else-yes g t c κs within =
    let w = c.args.self.now in
    let from = c.args.here.now in
    let skipped = c.skip-at-else-yes.ensures in
    let r = other g.K.Kind.meaning w.message.now w.program.now c.args.depth from.at c.requires.deep from.place from.position c.requires.step (record { near = c.requires.near; few = c.requires.few }) (stand c.walk.new.here) c.in_ok-walk.ensures.is c.skip-at-else-yes.result.0 (c.walk.new.here.place + 1 + c.skip-at-else-yes.result.1) skipped.end (ap (λ z. c.walk.new.here.place + 1 + z) skipped.places) in
    let o = c.decreases in
    let deep = c.requires.deep in
    (omega arith, (within.0, (within.1, (r.near, (r.few, c.in_ok-yes.ensures.ends.1)))))

pub branch-returns-in_err-yes-clause-is : goal.branch-returns-in_err-yes-clause-is
branch-returns-in_err-yes-clause-is g t c =
    let w = c.args.self.now in
    let p = w.program.now in
    let from = c.args.here.now in
    let x = err_from_is_err_and c.from_residual-in_err-yes.result c.from_residual-in_err-yes.ensures.1 in
    rw (x.1, x.2) (passing.fork_choice g.K.Kind.meaning w.message.now (shown p).shape.width (shown p).block (rows p) c.args.depth from.at c.requires.deep from.place from.position c.requires.step (stand c.walk.new.here) c.in_ok-walk.ensures.is _ c.in_err-yes.ensures.is)

pub branch-returns-in_ok-walk-2-clause-is : goal.branch-returns-in_ok-walk-2-clause-is
branch-returns-in_ok-walk-2-clause-is g t c =
    let w = c.args.self.now in
    let p = w.program.now in
    let from = c.args.here.now in
    let skipped = c.skip-at.ensures in
    passing.yes_ok g.K.Kind.meaning w.message.now (shown p).shape.width (shown p).block (rows p) c.args.depth from.at c.requires.deep from.place from.position c.requires.step (stand c.walk.new.here) c.in_ok-walk.ensures.is c.in_ok-yes.yes c.in_ok-yes.position c.in_ok-yes.ensures.is c.if-yes.true (stand c.walk-then-yes.new.here) c.in_ok-walk-2.ensures.is
    (c.skip-at.result.0, c.walk-then-yes.new.here.place + c.skip-at.result.1, c.walk-then-yes.new.here.position) skipped.end (ap (λ z. c.walk-then-yes.new.here.place + z) skipped.places) refl

pub branch-returns-else-yes-clause-is : goal.branch-returns-else-yes-clause-is
branch-returns-else-yes-clause-is g t c =
    let w = c.args.self.now in
    let p = w.program.now in
    let from = c.args.here.now in
    let skipped = c.skip-at-else-yes.ensures in
    passing.no_is g.K.Kind.meaning w.message.now (shown p).shape.width (shown p).block (rows p) c.args.depth from.at c.requires.deep from.place from.position c.requires.step (stand c.walk.new.here) c.in_ok-walk.ensures.is c.in_ok-yes.yes c.in_ok-yes.position c.in_ok-yes.ensures.is c.if-yes.false _ c.skip-at-else-yes.result.0 c.skip-at-else-yes.result.1 c.walk-else-yes.ensures.is skipped.end skipped.places

pub finish-walk-requires : goal.finish-walk-requires
finish-walk-requires g t c κs within =
    let p = c.args.self.now.program.now in
    let q = body_is (rows p) (unfolded_in p c.args.depth) c.args.e c.in-Call.n c.function.result c.in-Call.is c.function.ensures in
    let o = c.decreases in
    let few = c.requires.few in
    (omega arith, (within.0, (within.1, (body_start p c.in-Call.n c.function.result c.function.ensures, (omega arith, c.requires.inside)))))

pub walk-walk_parts-requires : goal.walk-walk_parts-requires
walk-walk_parts-requires g t c κs within =
    let p = c.args.self.now.program.now in
    let f = known_in p c.args.depth c.args.here.now.at c.in-Some.e c.count_parts-count.result c.parts_start-here.result c.width.result c.requires.near (omega arith) c.in-Some.ensures c.count_parts-count.ensures.is c.parts_start-here.ensures c.width.ensures.is in
    let o = c.decreases in
    let few = c.requires.few in
    let n = c.count_parts-count.ensures.few in
    let d = f.count in
    (omega arith, (within.0, (within.1, (f.near, (omega arith, c.requires.inside)))))

pub walk-returns-in_err-walk_parts : goal.walk-returns-in_err-walk_parts
walk-returns-in_err-walk_parts g t c =
    let k = g.K.Kind.meaning in
    let m = c.args.self.now.message.now in
    let p = c.args.self.now.program.now in
    let from = c.args.here.now in
    let x = err_from_is_err_and c.from_residual.result c.from_residual.ensures.1 in
    rw (x.1, x.2) (record { is = ap (λ (r : Outcome Stand). after r (λ x. finished k m (rows p) (unfolded_in p (c.args.depth - 1)) c.in-Some.e x.0 x.1 x.2)) c.in_err-walk_parts.ensures.is ∙ sym (passing.stepped k m (shown p).shape.width (shown p).block (rows p) c.args.depth from.at (omega arith) from.place from.position c.in-Some.e c.count_parts-count.result c.parts_start-here.result c.width.result c.in_default-e.not-If c.in-Some.ensures c.count_parts-count.ensures.is c.parts_start-here.ensures c.width.ensures.is); within = tt })

pub walk-finish-requires : goal.walk-finish-requires
walk-finish-requires g t c κs within =
    let k = g.K.Kind.meaning in
    let p = c.args.self.now.program.now in
    let from = c.args.here.now in
    let f = known_in p c.args.depth from.at c.in-Some.e c.count_parts-count.result c.parts_start-here.result c.width.result c.requires.near (omega arith) c.in-Some.ensures c.count_parts-count.ensures.is c.parts_start-here.ensures c.width.ensures.is in
    let o = c.decreases in
    let few = c.requires.few in
    let d = f.count in
    let q = passing.parts_ok k c.args.self.now.message.now (unfolded_in p (c.args.depth - 1)) c.count_parts-count.result c.parts_start-here.result from.place from.position (stand c.walk_parts.new.here) c.in_ok-walk_parts.ensures.is in
    let place = q.1 in
    (omega arith, (within.0, (within.1, (omega arith, c.in_ok-walk_parts.ensures.within))))

pub walk-returns : goal.walk-returns
walk-returns g t c =
    let k = g.K.Kind.meaning in
    let m = c.args.self.now.message.now in
    let p = c.args.self.now.program.now in
    let from = c.args.here.now in
    record {
      is = c.finish.ensures.is ∙ ap (λ (r : Outcome Stand). after r (λ x. finished k m (rows p) (unfolded_in p (c.args.depth - 1)) c.in-Some.e x.0 x.1 x.2)) c.in_ok-walk_parts.ensures.is ∙ sym (passing.stepped k m (shown p).shape.width (shown p).block (rows p) c.args.depth from.at (omega arith) from.place from.position c.in-Some.e c.count_parts-count.result c.parts_start-here.result c.width.result c.in_default-e.not-If c.in-Some.ensures c.count_parts-count.ensures.is c.parts_start-here.ensures c.width.ensures.is);
      within = c.finish.ensures.within;
    }

pub walk_parts-walk_parts-requires : goal.walk_parts-walk_parts-requires
walk_parts-walk_parts-requires g t c κs within =
    let p = c.args.self.now.program.now in
    let from = c.args.here.now in
    let read = unfolded_in p c.args.depth in
    let s = split read c.args.count from.at (omega arith) in
    let o = c.decreases in
    let d = s.count in
    let few = c.requires.few in
    let q = passing.walked_ok g.K.Kind.meaning c.args.self.now.message.now (read from.at) from.place from.position (stand c.walk.new.here) c.in_ok-walk.ensures.is in
    let at = q.0 in
    let place = q.1 in
    let h = near_in p c.args.depth from.at c.requires.near in
    let l = ap (λ z. places_all (listed read (c.args.count - 1) z).0) q.0 in
    (omega arith, (within.0, (within.1, (omega arith, (omega arith, c.in_ok-walk.ensures.within)))))

pub walk-parts_start-here-requires : goal.walk-parts_start-here-requires
walk-parts_start-here-requires g t c = start_small c.args.self.now.program.now c.args.here.now.at c.in-Some.e c.width.result c.requires.near c.in-Some.ensures c.width.ensures.is
