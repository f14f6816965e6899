use Rattle.std.proofs.Common.{◌+◌, ◌-◌, ◌*◌, length}
use Rattle.program.proofs.source.Source.+size_expression_size_parts.Given as goal

-- the bytes that remain; a list of parts begins with an expression at the same place
abbrev pub decreases-size_expression : goal.decreases-size_expression
decreases-size_expression l = 2 * (length l.self.bytes.now - l.at)

abbrev pub decreases-size_parts : goal.decreases-size_parts
decreases-size_parts l = 2 * (length l.self.bytes.now - l.at) + 1
