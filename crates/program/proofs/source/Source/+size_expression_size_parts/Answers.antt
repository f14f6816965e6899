use Rattle.std.proofs.Common.{◌-◌, sym, arith}
use Rattle.std.proofs.lemmas.Result.{err_from_is_err_and}
use Rattle.program.specs.Reading.{expr}
use Rattle.program.proofs.Steps.{by_decode, by_literal, by_number, by_parts, part_sums_none, by_first, by_others}
use Rattle.program.proofs.Defaults.{default_sums}
use Rattle.program.proofs.source.Source.+size_expression_size_parts.Goals as goal

pub size_expression-returns-in_err-e-clause-is : goal.size_expression-returns-in_err-e-clause-is
size_expression-returns-in_err-e-clause-is t c refuses fs fuel marked tab enough =
    let p = err_from_is_err_and c.from_residual.result c.from_residual.ensures.1 in
    rw (p.1, p.2) (by_decode refuses c.args.self.refused.now c.args.self.shape c.args.self.sensors _ _ fs marked tab fuel _ c.args.scope enough _ c.in_err-e.ensures.is)

pub size_expression-returns-then-is_refused-clause-is :
    goal.size_expression-returns-then-is_refused-clause-is
size_expression-returns-then-is_refused-clause-is t c refuses fs fuel marked tab enough =
    let moves = c.in_ok-e.ensures.moves in
    let within = moves.2 in
    by_literal refuses c.args.self.refused.now c.args.self.shape c.args.self.sensors _ _ fs marked tab fuel _ c.args.scope enough _ _ c.in_ok-e.ensures.is (λ o i. omega (arith, within o i)) c.if-is_refused.ensures

pub size_expression-returns-then-not-is_available-clause-is :
    goal.size_expression-returns-then-not-is_available-clause-is
size_expression-returns-then-not-is_available-clause-is t c refuses fs fuel marked tab enough =
    let moves = c.in_ok-e.ensures.moves in
    let within = moves.2 in
    by_number refuses c.args.self.refused.now c.args.self.shape c.args.self.sensors _ _ fs marked tab fuel _ c.args.scope enough _ _ c.in_ok-e.ensures.is (λ o i. omega (arith, within o i)) c.if-is_refused.ensures c.if-not-is_available.ensures

pub size_expression-returns-in_err-sums-clause-is :
    goal.size_expression-returns-in_err-sums-clause-is
size_expression-returns-in_err-sums-clause-is t c refuses fs fuel marked tab enough =
    let p = err_from_is_err_and c.from_residual-in_err-sums.result c.from_residual-in_err-sums.ensures.1 in
    let moves = c.in_ok-e.ensures.moves in
    let within = moves.2 in
    rw (p.1, p.2)
    (by_parts refuses c.args.self.refused.now c.args.self.shape c.args.self.sensors _ _ fs marked tab fuel _ c.args.scope enough _ _ _ _ _ _ c.in_ok-e.ensures.is (λ o i. omega (arith, within o i)) c.if-is_refused.ensures c.if-not-is_available.ensures
    c.called-f.ensures.is c.part_count-count.ensures c.new_variables.ensures.is
    (c.in_err-sums.ensures.is refuses fs (fuel - 1) marked tab (omega arith)))

pub size_expression-returns-clause-is : goal.size_expression-returns-clause-is
size_expression-returns-clause-is t c refuses fs fuel marked tab enough =
    let moves = c.in_ok-e.ensures.moves in
    let within = moves.2 in
    rw c.combine.ensures.is
    (by_parts refuses c.args.self.refused.now c.args.self.shape c.args.self.sensors _ _ fs marked tab fuel _ c.args.scope enough _ _ _ _ _ _ c.in_ok-e.ensures.is (λ o i. omega (arith, within o i)) c.if-is_refused.ensures c.if-not-is_available.ensures
    c.called-f.ensures.is c.part_count-count.ensures c.new_variables.ensures.is
    (c.in_ok-sums.ensures.is refuses fs (fuel - 1) marked tab (omega arith)))

pub size_parts-returns-then-count-eq0-clause-is : goal.size_parts-returns-then-count-eq0-clause-is
size_parts-returns-then-count-eq0-clause-is t c refuses fs fuel marked tab enough =
    rw (default_sums c.default.result c.default.ensures) (sym (part_sums_none _ (expr refuses c.args.self.shape c.args.self.sensors fs c.args.self.bytes.now fuel) _ _ _ _ c.if-count-eq0.true))

pub size_parts-returns-in_err-a-clause-is : goal.size_parts-returns-in_err-a-clause-is
size_parts-returns-in_err-a-clause-is t c refuses fs fuel marked tab enough =
    let p = err_from_is_err_and c.from_residual.result c.from_residual.ensures.1 in
    rw (p.1, p.2) (by_first _ (expr refuses c.args.self.shape c.args.self.sensors fs c.args.self.bytes.now fuel) _ _ _ _ (omega arith) _ (c.in_err-a.ensures.is refuses fs fuel marked tab enough))

pub size_parts-returns-in_err-rest-clause-is : goal.size_parts-returns-in_err-rest-clause-is
size_parts-returns-in_err-rest-clause-is t c refuses fs fuel marked tab enough =
    let p = err_from_is_err_and c.from_residual-in_err-rest.result c.from_residual-in_err-rest.ensures.1 in
    let moves = c.in_ok-a.ensures.ends in
    rw (p.1, p.2) (by_others _ (expr refuses c.args.self.shape c.args.self.sensors fs c.args.self.bytes.now fuel) _ _ _ _ (omega arith) _ _ _ (c.in_ok-a.ensures.is refuses fs fuel marked tab enough) (c.in_err-rest.ensures.is refuses fs fuel marked tab (omega arith)))

pub size_parts-returns-clause-is : goal.size_parts-returns-clause-is
size_parts-returns-clause-is t c refuses fs fuel marked tab enough =
    let moves = c.in_ok-a.ensures.ends in
    rw c.add_part.ensures.is (by_others _ (expr refuses c.args.self.shape c.args.self.sensors fs c.args.self.bytes.now fuel) _ _ _ _ (omega arith) _ _ _ (c.in_ok-a.ensures.is refuses fs fuel marked tab enough) (c.in_ok-rest.ensures.is refuses fs fuel marked tab (omega arith)))
