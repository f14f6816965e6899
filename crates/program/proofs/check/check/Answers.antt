use Rattle.std.proofs.Common.{ap, ◌∙◌}
use Rattle.std.proofs.lemmas.Result.{err_from_is_err_and}
use Rattle.buffer.specs.Buffers.{held_bytes}
use Rattle.program.specs.Verdict.{refused_by}
use Rattle.program.proofs.Verdicts.{refused_functions, outlined_is, shown_is, refused_in_layer}
use Rattle.program.proofs.check.check.Goals as goal

pub returns-in_err-functions-clause-layer : goal.returns-in_err-functions-clause-layer
returns-in_err-functions-clause-layer g c =
    let k = g.K.Kind.meaning in
    let b = c.args.bytes.now in
    let p = err_from_is_err_and c.from_residual-in_err-functions.result c.from_residual-in_err-functions.ensures.1 in
    rw (p.1, p.2) (refused_in_layer k b _ (refused_functions k b c.shape-shape.result c.shape-shape.ensures.is _ c.in_ok-header.ensures.is _ (rw c.of-block.ensures at (c.in_err-functions.ensures.is (refused_by g.K.Kind.meaning) c.refused_literals-refused.ensures))))

pub keep-requires-clause-read : goal.keep-requires-clause-read
keep-requires-clause-read g c =
    rw c.of-block.ensures
    (outlined_is g.K.Kind.meaning c.args.bytes.now c.shape-shape.result c.shape-shape.ensures.is _ c.in_ok-header.ensures.is _ (rw c.of-block.ensures at (c.in_ok-functions.ensures.is (refused_by g.K.Kind.meaning) c.refused_literals-refused.ensures)))

pub returns-clause-is : goal.returns-clause-is
returns-clause-is g c =
    shown_is g.K.Kind.meaning c.args.bytes.now c.shape-shape.result c.shape-shape.ensures.is _ c.in_ok-header.ensures.is _
    (rw c.of-block.ensures at (c.in_ok-functions.ensures.is (refused_by g.K.Kind.meaning) c.refused_literals-refused.ensures)) c.keep.result (ap held_bytes c.keep.ensures.block ∙ c.of-block.ensures) c.keep.ensures.shape
