-- What each call of an inbox answers, and what the inbox and the buffer hold after it. Assumes nothing.
use Rattle.std.specs.Prelude.{ℕ, ◌+◌, Bool, true, false, cond, not, ◌&&◌, List, [], ◌∷◌, ◌++◌, length, drop, Some, None, Ok, Err, Option, ◌==◌, nat_le, nat_lt}
use Rattle.refusal.specs.declared.cause.Cause.TheVariants.{ItemTooLong, SendersFull, BytesFull, BufferShort}
use Rattle.refusal.specs.Outcomes.{Outcome, refuse}
use Rattle.inbox.specs.Contents.{Item, Contents, longest_item, lasts, bytes_held, holding}

-- a fact that is promised where the call is refused
abbrev pub IfRefused : {A : Type 0} → Outcome A → Type 0 → Type 0
IfRefused (Ok _) P = Unit {0}
IfRefused (Err _) P = P

-- whether the sender is held
abbrev pub holds : List Item → ℕ → Bool
holds [] s = false
holds (i ∷ is) s = cond (i.sender == s) true (holds is s)

-- the items of all other senders
abbrev pub without : List Item → ℕ → List Item
without [] s = []
without (i ∷ is) s = cond (i.sender == s) (without is s) (i ∷ without is s)

-- the items and x, by rising sender
abbrev pub with_item : List Item → Item → List Item
with_item [] x = x ∷ []
with_item (i ∷ is) x = cond (nat_lt i.sender x.sender) (i ∷ with_item is x) (x ∷ (i ∷ is))

-- PUT

-- the answer by the item's length, whether its sender is held, how many senders are held and may be, how many bytes the others have and all may have
abbrev pub put_checked : ℕ → Bool → ℕ → ℕ → ℕ → ℕ → Outcome (Unit {0})
put_checked len held count sender_limit others byte_limit =
    cond (nat_lt longest_item len) (refuse ItemTooLong 0)
    (cond (not held && nat_le sender_limit count) (refuse SendersFull 0)
    (cond (nat_lt byte_limit (others + len)) (refuse BytesFull 0) (Ok tt)))

abbrev pub put_answer : Contents → ℕ → List ℕ → Outcome (Unit {0})
put_answer c s x = put_checked (length x) (holds c.items s) (length c.items) c.sender_limit (bytes_held (without c.items s)) c.byte_limit

abbrev pub new_item : ℕ → List ℕ → Item
new_item s x = record { sender = s; age = 0; bytes = x }

-- a refused item changes nothing; an accepted one stands in place of its sender's earlier one
abbrev pub put_so : Outcome (Unit {0}) → Contents → ℕ → List ℕ → Contents
put_so (Ok _) c s x = holding c (with_item (without c.items s) (new_item s x))
put_so (Err _) c s x = c

abbrev pub after_put : Contents → ℕ → List ℕ → Contents
after_put c s x = put_so (put_answer c s x) c s x

-- REMOVE
abbrev pub after_remove : Contents → ℕ → Contents
after_remove c s = holding c (without c.items s)

-- NEXT

-- the smallest held sender that is at least k
abbrev pub next_sender : List Item → ℕ → Option ℕ
next_sender [] k = None
next_sender (i ∷ is) k = cond (nat_lt i.sender k) (next_sender is k) (Some i.sender)

-- READ

-- the bytes of the sender's item
abbrev pub bytes_of : List Item → ℕ → Option (List ℕ)
bytes_of [] s = None
bytes_of (i ∷ is) s = cond (i.sender == s) (Some i.bytes) (bytes_of is s)

abbrev pub found_length : Option (List ℕ) → Option ℕ
found_length None = None
found_length (Some x) = Some (length x)

-- whether any item fits a buffer of n bytes
abbrev pub buffer_checked : ℕ → Outcome (Unit {0})
buffer_checked n = cond (nat_lt n longest_item) (refuse BufferShort 0) (Ok tt)

-- the answer to a buffer of n bytes: a short one is refused before the sender is looked for
abbrev pub read_answer : Contents → ℕ → ℕ → Outcome (Option ℕ)
read_answer c s n = cond (nat_lt n longest_item) (refuse BufferShort 0) (Ok (found_length (bytes_of c.items s)))

-- the bytes found stand at the buffer's front; all behind them is as it was
abbrev pub at_front : Option (List ℕ) → List ℕ → List ℕ
at_front None buffer = buffer
at_front (Some x) buffer = x ++ drop (length x) buffer

abbrev pub buffer_after_read : Contents → ℕ → List ℕ → List ℕ
buffer_after_read c s buffer = cond (nat_lt (length buffer) longest_item) buffer (at_front (bytes_of c.items s) buffer)

-- PASSING
abbrev pub older : Item → Item
older i = record { sender = i.sender; age = i.age + 1; bytes = i.bytes }

-- every item one age older, without those that end at that
abbrev pub aged : ℕ → List Item → List Item
aged life [] = []
aged life (i ∷ is) = cond (lasts life (i.age + 1)) (older i ∷ aged life is) (aged life is)

abbrev pub after_passing : Contents → Contents
after_passing c = holding c (aged c.life c.items)
