-- What holds of trees and their messages. Assumes nothing.
use Rattle.std.specs.Prelude.{◌≡◌, ℕ, ◌+◌, ◌<◌, ◌≤◌, ◌≢◌, List, length, Some, Ok}
use Rattle.kind.specs.Kind.{Meaning, Lawful}
use Rattle.program.specs.Expressions.{Expr}
use Rattle.program.specs.Measures.{places, weight}
use Rattle.record.specs.Fields.{Bytes}
use Rattle.record.specs.Forms.{reads_at}
use Rattle.record.specs.Headers.{most_bytes, header_length}
use Rattle.record.specs.Records.{judged, record_at}
use Rattle.record.specs.Shapes.{sending, shape, next_shape}
use Rattle.record.specs.Trees.{Tree, Entry, Rec, sent, entry_at, says, Agree, RisingPlaces}
use Rattle.record.specs.Plans.{Plan, due}
use Rattle.record.specs.Messages.{message}
use Rattle.record.specs.declared.record.Body.{Body}
use Rattle.record.specs.Writing.{Follows, written_records, written_tree}

-- a tree whose records the plan has due, from another node, is read as it was written
abbrev pub WrittenRead : Type 0 → Type 0
WrittenRead V =
    (k : Meaning V) → Lawful k → (plan : Plan) (program me : ℕ) (t : Tree V)
    → program < 4294967296 → t.sender < 65536 → t.sender ≢ me
    → Follows k plan t.records → length (written_tree k program t) ≤ most_bytes
    → message k plan program me (written_tree k program t) ≡ Ok t

-- every accepted message is the writing of its tree, whose records the plan has due
pub record Canonical {V : Type 0} (k : Meaning V) (plan : Plan) (program me : ℕ) (m : List ℕ) (t : Tree V) : Type 0 where
  pub is : m ≡ written_tree k program t
  pub follows : Follows k plan t.records
  pub other : t.sender ≢ me
  pub small : t.sender < 65536
  pub short : length m ≤ most_bytes

abbrev pub ReadWritten : Type 0 → Type 0
ReadWritten V =
    (k : Meaning V) → Lawful k → (plan : Plan) (program me : ℕ) (m : List ℕ) (t : Tree V)
    → Bytes m → message k plan program me m ≡ Ok t → Canonical k plan program me m t

-- an accepted record of an exchange reads at every number as its entry there, or else as its default
abbrev pub ReadsEntry : Type 0 → Type 0
ReadsEntry V =
    (k : Meaning V) (p at : ℕ) (place default : List ℕ) (n : ℕ) (bs : List ℕ) (q : ℕ) (d : V) (es : List (Entry V))
    → judged k p (sending at place default n bs) ≡ Ok (sent q d es)
    → (number : ℕ) → reads_at k number (sending at place default n bs) ≡ Some (entry_at number d es)

-- what a listing shows of a record that was accepted, is that record
abbrev pub ListsDue : Type 0 → Type 0
ListsDue V =
    (k : Meaning V) → Lawful k → (b : Body) (p : ℕ) (m : List ℕ) (at : ℕ) (x : Rec V × ℕ)
    → record_at k b p m at ≡ Ok x → next_shape k.width m at ≡ Some (shape b k.width m at, x.1)

-- two trees agree for a node at a place exactly when they say the same to it there
pub record Agreement {V : Type 0} (n p : ℕ) (rs ss : List (Rec V)) : Type 0 where
  pub same_said : Agree n p rs ss → says n p rs ≡ says n p ss
  pub agrees : says n p rs ≡ says n p ss → Agree n p rs ss

abbrev pub AgreesAsSaid : Type 0 → Type 0
AgreesAsSaid V = (n p : ℕ) (rs ss : List (Rec V)) → Agreement n p rs ss

-- the places of records that an expression has due rise, and are places of the expression
abbrev pub PlacesRise : Type 0 → Type 0
PlacesRise V =
    (k : Meaning V) (e : Expr) (p : ℕ) (rs : List (Rec V)) → Follows k (due e p) rs → RisingPlaces (p + places e) p rs

-- records that an expression has due take at most its weight in bytes
abbrev pub WeightBounds : Type 0 → Type 0
WeightBounds V =
    (k : Meaning V) → Lawful k → (e : Expr) (p : ℕ) (rs : List (Rec V))
    → Follows k (due e p) rs → length (written_records k rs) ≤ weight k.width e

-- a tree of an expression within the weight limit fits a message
abbrev pub TreeFits : Type 0 → Type 0
TreeFits V =
    (k : Meaning V) → Lawful k → (e : Expr) (p program : ℕ) (t : Tree V)
    → weight k.width e + header_length ≤ most_bytes → Follows k (due e p) t.records
    → length (written_tree k program t) ≤ most_bytes
