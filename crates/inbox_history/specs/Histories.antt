-- A call of a history, as a step from contents to contents. Assumes nothing.
use Rattle.std.specs.Prelude.{ℕ, List}
use Rattle.inbox.specs.Contents.{Contents}
use Rattle.inbox.specs.Calls.{after_put, after_remove, after_passing}
use Rattle.inbox_history.specs.declared.call.Call.{Call}
use Rattle.inbox_history.specs.declared.call.Call.TheVariants.{Put, Remove, Next, Read, Passing}

-- what an inbox holds after the call, x being the item of a put
abbrev pub after_call : Call → Contents → List ℕ → Contents
after_call (Put s len first) c x = after_put c s x
after_call (Remove s) c x = after_remove c s
after_call (Next k) c x = c
after_call (Read s room) c x = c
after_call Passing c x = after_passing c
