-- What a checked program in hand stands for. Assumes nothing.
use Rattle.std.specs.Prelude.{ℕ, List, [], Ok, Err}
use Rattle.buffer.specs.Buffers.{held_bytes}
use Rattle.refusal.specs.Outcomes.{Outcome}
use Rattle.program.specs.declared.program.Program.{Program}
use Rattle.program.specs.Expressions.{Expr}
use Rattle.program.specs.Verdict.{Checked, run, read_block, none_refused}

-- the bytes that it keeps
abbrev pub block_of : Program → List ℕ
block_of p = held_bytes p.block

abbrev pub checked_or : Checked → Outcome Checked → Checked
checked_or d (Err e) = d
checked_or d (Ok c) = c

-- those bytes read again: its header and its unfolded functions. No program in hand fails to be read
abbrev pub shown : Program → Checked
shown p =
    checked_or (record { block = block_of p; shape = p.shape; header = p.outline.header; functions = [] })
    (read_block none_refused p.shape (block_of p))

-- the unfolded expression that a round works
abbrev pub run_of : Program → Expr
run_of p = run (shown p)
