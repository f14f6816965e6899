use Rattle.std.proofs.Common.{arith}
use Rattle.std.proofs.lemmas.Result.{err_from_is_err_and}
use Rattle.program.proofs.Defaults.{default_row}
use Rattle.program.proofs.Tables.{front, limited_take, by_refusal, by_end, more, none, safe_none, safe_more}
use Rattle.program.proofs.block.check_functions.Goals as goal

pub loop-i-init : goal.loop-i-init
loop-i-init c = rw (default_row c.default-table.result c.default-table.ensures) (record { safe = safe_none _ (rw (c.as_slice-bytes.ensures) c.requires.long); sofar = λ refuses marked. none refuses _ _ _ _ })

pub invariant_of-source-clause-limited : goal.invariant_of-source-clause-limited
invariant_of-source-clause-limited c = limited_take _ _ c.loop-i.invariant.safe.limited

pub returns-in_err-f : goal.returns-in_err-f
returns-in_err-f c =
    let p = err_from_is_err_and c.from_residual.result c.from_residual.ensures.1 in
    rw (p.1, p.2) (record {
      long = tt;
      is = rw (← c.as_slice-bytes.ensures) (λ refuses marked.
          let s = c.loop-i.invariant.sofar refuses marked in
          by_refusal s _ (omega arith) (c.in_err-f.ensures.is refuses s.trees marked (front s)));
    })

pub loop-i-preserved : goal.loop-i-preserved
loop-i-preserved c =
    let ends = c.in_ok-f.ensures.ends in
    record {
      safe = safe_more _ c.in_ok-f.f c.loop-i.invariant.safe (omega arith) ends.0 ends.1 ends.2;
      sofar = λ refuses marked.
          let s = c.loop-i.invariant.sofar refuses marked in
          more s c.in_ok-f.f (omega arith) c.requires.few (c.in_ok-f.ensures.is refuses s.trees marked (front s));
    }

pub returns : goal.returns
returns c = record { long = c.loop-i.invariant.safe.long; is = rw (← c.as_slice-bytes.ensures) (λ refuses marked. by_end (c.loop-i.invariant.sofar refuses marked) (omega arith)) }
