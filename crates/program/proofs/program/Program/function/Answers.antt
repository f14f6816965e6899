use Rattle.std.proofs.Common.{◌≡◌, Some, None, Option, ap, ◌∙◌, arith}
use Rattle.std.specs.Option.{unwrap_or, UnwrapsOrElse}
use Rattle.program.specs.declared.function.Function.{Function}
use Rattle.program.specs.contracts.function.FunctionDefault.TheImpl.{is_default-value}
use Rattle.program.specs.Sizing.{no_row}
use Rattle.program.proofs.Defaults.{default_row}
use Rattle.program.proofs.Shown.{row_shown}
use Rattle.program.proofs.program.Program.function.Goals as goal

or_free : (o : Option Function) (f : Function) → UnwrapsOrElse o is_default-value.it f → f ≡ unwrap_or o no_row
or_free None f h = default_row f h
or_free (Some x) f h = h

pub returns : goal.returns
returns c =
    or_free c.copied.result _ c.unwrap_or_default.ensures
    ∙ ap (λ (o : Option Function). unwrap_or o no_row) c.copied.ensures
    ∙ c.get-row.ensures.lookup.4 (omega arith) no_row
    ∙ row_shown c.args.self.now c.args.n
