-- The state of a node. Assumes nothing.
use Rattle.std.specs.Prelude.{ℕ, List, []}
use Rattle.program.specs.declared.program.Program.{Program}
use Rattle.inbox.specs.Contents.{Contents, holding}
use Rattle.inbox.specs.Calls.{after_passing}

-- a node: its program and number, what its inbox holds, and the bytes of its last own tree, none before its first round
pub record State : Type 0 where
  pub program : Program
  pub number : ℕ
  pub inbox : Contents
  pub last : List ℕ

-- a node fresh from its making, which empties the inbox
abbrev pub made : Program → ℕ → Contents → State
made p n c = record { program = p; number = n; inbox = holding c []; last = [] }

-- the node with another inbox
abbrev pub with_inbox : State → Contents → State
with_inbox s c = record { program = s.program; number = s.number; inbox = c; last = s.last }

-- the node after an accepted round that gave a tree: the inbox has passed, and the tree is its last own one
abbrev pub passed : State → List ℕ → State
passed s tree = record { program = s.program; number = s.number; inbox = after_passing s.inbox; last = tree }
