use Rattle.std.proofs.Common.{sym, ◌∙◌, arith}
use Rattle.unfolding.specs.Walks.{rows, unfolded_in}
use Rattle.unfolding.proofs.Near.{walked_more}
use Rattle.unfolding.proofs.Programs.{known_in, near_in, start_small, body_start, body_is}
use Rattle.unfolding.proofs.skip.+skip_skip_called_skip_parts.Goals as goal

pub skip-parts_start-requires : goal.skip-parts_start-requires
skip-parts_start-requires t c = start_small c.args.program.now c.args.at c.in-Some.e c.width.result c.requires.near c.in-Some.ensures c.width.ensures.is

pub skip-skip_parts-end-requires : goal.skip-skip_parts-end-requires
skip-skip_parts-end-requires t c =
    let f = known_in c.args.program.now c.args.depth c.args.at c.in-Some.e c.count_parts.result c.parts_start.result c.width.result c.requires.near (omega arith) c.in-Some.ensures c.count_parts.ensures.is c.parts_start.ensures c.width.ensures.is in
    let m = c.decreases in
    let few = c.requires.few in
    let n = c.count_parts.ensures.few in
    let d = f.count in
    (omega arith, (f.near, omega arith))

pub skip-skip_called-body-requires : goal.skip-skip_called-body-requires
skip-skip_called-body-requires t c =
    let f = known_in c.args.program.now c.args.depth c.args.at c.in-Some.e c.count_parts.result c.parts_start.result c.width.result c.requires.near (omega arith) c.in-Some.ensures c.count_parts.ensures.is c.parts_start.ensures c.width.ensures.is in
    let m = c.decreases in
    let few = c.requires.few in
    let d = f.count in
    (omega arith, omega arith)

pub skip-overflow_add-result-2 : goal.skip-overflow_add-result-2
skip-overflow_add-result-2 t c =
    let f = known_in c.args.program.now c.args.depth c.args.at c.in-Some.e c.count_parts.result c.parts_start.result c.width.result c.requires.near (omega arith) c.in-Some.ensures c.count_parts.ensures.is c.parts_start.ensures c.width.ensures.is in
    let few = c.requires.few in
    let d = f.count in
    let a = c.skip_parts-end.ensures.places in
    let b = c.skip_called-body.ensures in
    let e = c.places_own.ensures in
    record { fits = omega arith }

pub skip-returns : goal.skip-returns
skip-returns t c =
    let f = known_in c.args.program.now c.args.depth c.args.at c.in-Some.e c.count_parts.result c.parts_start.result c.width.result c.requires.near (omega arith) c.in-Some.ensures c.count_parts.ensures.is c.parts_start.ensures c.width.ensures.is in
    let d = f.count in
    let a = c.skip_parts-end.ensures.places in
    let b = c.skip_called-body.ensures in
    let e = c.places_own.ensures in
    record { end = c.skip_parts-end.ensures.end ∙ sym f.end; places = omega arith }

pub skip_called-skip-places-requires : goal.skip_called-skip-places-requires
skip_called-skip-places-requires t c =
    let p = c.args.program.now in
    let q = body_is (rows p) (unfolded_in p c.args.depth) c.args.e c.in-Call.n c.function.result c.in-Call.is c.function.ensures in
    let m = c.decreases in
    let few = c.requires.few in
    (omega arith, (body_start p c.in-Call.n c.function.result c.function.ensures, omega arith))

pub skip_parts-loop-preserved : goal.skip_parts-loop-preserved
skip_parts-loop-preserved t c =
    let h = near_in c.args.program.now c.args.depth c.loop.end c.loop.invariant.near in
    let e = c.skip-next.ensures.end in
    record { near = omega arith; walked = walked_more c.loop.invariant.walked _ _ c.loop-test.true e c.skip-next.ensures.places }
