use Rattle.std.proofs.Common.{sym, ap, ◌∙◌}
use Rattle.program.specs.declared.header.Header.{Header}
use Rattle.program.proofs.Shown.{header_is, function_count}
use Rattle.program.proofs.program.Program.functions.Goals as goal

pub returns-clause-all : goal.returns-clause-all
returns-clause-all c = ap (λ (h : Header). h.functions) (header_is c.args.self.now) ∙ sym (function_count c.args.self.now)
