-- What each step of loading does. Assumes nothing.
use Rattle.std.specs.Prelude.{◌≡◌, ℕ, ◌*◌, ◌≤◌, Bool, List, [], ◌++◌, take, drop, is_some, Some, Option}
use Rattle.kind.specs.Kind.{Meaning}
use Rattle.program.specs.declared.program.Program.{Program}
use Rattle.program.specs.Programs.{shown, run_of}
use Rattle.record.specs.Fields.{part}
use Rattle.record.specs.Plans.{due}
use Rattle.inbox.specs.Contents.{Contents, longest_item}
use Rattle.inbox.specs.Calls.{bytes_of, at_front}
use Rattle.rules.specs.Held.{sender_in, before}
use Rattle.rules.specs.Rules.{Sender}
use Rattle.held.specs.declared.slots.Slots.{Slots}
use Rattle.held.specs.Slots.{Loaded}

-- the sender's item stands in the bytes from `start` on, with so many bytes; all else is as it was
pub record ReadsItem (c : Contents) (s start : ℕ) (old new : List ℕ) (n : ℕ) : Type 0 where
  pub fits : n ≤ longest_item
  pub bytes : new ≡ take start old ++ at_front (bytes_of c.items s) (drop start old)
  pub item : (x : List ℕ) → bytes_of c.items s ≡ Some x → part new start n ≡ x

-- the sender in an item of these bytes
abbrev pub sender_of_bytes : {V : Type 0} → Meaning V → Program → ℕ → ℕ → List ℕ → Option (Sender V)
sender_of_bytes k p me s x = sender_in k (due (run_of p) 0) (shown p).header.number me (record { sender = s; age = 0; bytes = x })

abbrev pub is_held : {V : Type 0} → Meaning V → Program → ℕ → ℕ → List ℕ → Bool
is_held k p me s x = is_some (sender_of_bytes k p me s x)

-- slots that hold some senders then hold also that of the item of n bytes behind them, if it is one
pub record Keeps {V : Type 0} (k : Meaning V) (p : Program) (me : ℕ) (bytes : List ℕ) (s : Slots) (sender n : ℕ) (t : Slots) : Type 0 where
  pub loaded : (ss : List (Sender V)) → Loaded k p me bytes s ss → Loaded k p me bytes t (ss ++ before (sender_of_bytes k p me sender (part bytes (s.count * longest_item) n)) [])
