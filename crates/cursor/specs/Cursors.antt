-- Where a reader stands in the records of a tree, and what is found there. Assumes nothing.
use Rattle.std.specs.Prelude.{◌≡◌, ℕ, ◌+◌, ◌<◌, ◌≤◌, Bool, false, cond, ◌&&◌, List, ◌++◌, length, drop, Some, None, Option, ◌==◌, nat_le}
use Rattle.std.specs.List.{AllByRecursion}
use Rattle.kind.specs.Kind.{Meaning}
use Rattle.record.specs.Fields.{byte_at, pair_at}
use Rattle.record.specs.Headers.{header_length, most_bytes}
use Rattle.record.specs.Shapes.{Shape, choosing, sending, most_entries, end_at}
use Rattle.record.specs.Trees.{Entry, Rec, choice, sent, place_of, Said, silent, chose, reads, RisingPlaces}
use Rattle.record.specs.Writing.{RisingEntries, written_records}

-- a record that has a writing of its own: its place fits two bytes, and its entries are few and rise
pub data Sound {V : Type 0} (k : Meaning V) : Rec V → Type 0 where
  sound_choice : {p : ℕ} {b : Bool} → p < 65536 → Sound k (choice p b)
  sound_sent : {p : ℕ} {d : V} {es : List (Entry V)} → p < 65536 → length es ≤ most_entries → RisingEntries k d 0 es → Sound k (sent p d es)

-- the bytes m are a tree with these records, or too short for any and there are none
pub record Readable {V : Type 0} (k : Meaning V) (m : List ℕ) (rs : List (Rec V)) : Type 0 where
  pub behind : drop header_length m ≡ written_records k rs
  pub short : length m ≤ most_bytes
  pub sound : AllByRecursion (Sound k) rs
  pub rising : RisingPlaces 65536 0 rs

-- `at` is where a record of the tree begins, or its end. The places of all records before it are below `low`
pub record Stands {V : Type 0} (k : Meaning V) (m : List ℕ) (rs : List (Rec V)) (low at : ℕ) : Type 0 where
  pub passed : List (Rec V)
  pub ahead : List (Rec V)
  pub split : rs ≡ passed ++ ahead
  pub here : drop at m ≡ written_records k ahead
  pub below : AllByRecursion (λ r. place_of r < low) passed

-- what a tree says at a place, as a value or as a choice
abbrev pub said_value : {V : Type 0} → Said V → Option V
said_value silent = None
said_value (chose b) = None
said_value (reads v) = Some v

abbrev pub said_choice : {V : Type 0} → Said V → Option Bool
said_choice silent = None
said_choice (chose b) = Some b
said_choice (reads v) = None

-- the place of the record that begins at a position, and where it ends, if the bytes have it to its end
abbrev pub head_at : List ℕ → ℕ → Option (ℕ × ℕ)
head_at m at = cond (nat_le (at + 4) (length m) && nat_le (end_at m at) (length m)) (Some (pair_at m (at + 2), end_at m at)) None

-- whether such a record has this place
abbrev pub head_has : ℕ → Option (ℕ × ℕ) → Bool
head_has p None = false
head_has p (Some x) = x.0 == p

-- what a record by its shape chooses, if it is an if's
abbrev pub chooses : Shape → Option Bool
chooses (choosing at place b) = Some (byte_at b 0 == 1)
chooses (sending at place default n bs) = None
