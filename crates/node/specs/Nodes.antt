-- The state that a node is in. Assumes nothing.
use Rattle.std.specs.Prelude.{◌≡◌, ℕ, []}
use Rattle.kind.specs.Kind.{Meaning}
use Rattle.program.specs.declared.program.Program.{Program}
use Rattle.inbox.specs.Contents.{Contents}
use Rattle.trace.specs.States.{State}
use Rattle.trace.specs.Lines.{Line, Possible, end}
use Rattle.trace.specs.Promises.{Keeps}
use Rattle.node.specs.declared.node.Node.{Node}
use Rattle.buffer.specs.Buffers.{held_bytes}

-- by what its inbox holds
abbrev pub state : {K I : Type 0} → (I → Contents) → Node K I → State
state meaning n = record { program = n.program; number = n.number; inbox = meaning n.inbox; last = held_bytes n.last }

-- a line without calls
abbrev pub begun : Program → ℕ → Contents → Line
begun p n c = record { program = p; number = n; inbox = c; calls = [] }

-- a line begins with this state, and what is promised holds of it
pub record Begins {V : Type 0} (k : Meaning V) (l : Line) (s : State) : Type 0 where
  pub ends : end k l ≡ s
  pub keeps : Possible l → Keeps k l
