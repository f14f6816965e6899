-- Where a sender stands among the items; for code that searches a row of items or goes over the held senders. Assumes nothing.
use Rattle.std.specs.Prelude.{◌≡◌, ℕ, ◌<◌, ◌≤◌, true, false, List, [], length, take, drop, Some, None, Option, slice_index_or}
use Rattle.std.specs.List.{remove, AllByRecursion}
use Rattle.inbox.specs.Contents.{Item}
use Rattle.inbox.specs.Calls.{holds, without, bytes_of}

abbrev pub no_item : Item
no_item = record { sender = 0; age = 0; bytes = [] }

-- i is the index of the first item whose sender is at least s
pub record LowerBound (is : List Item) (s i : ℕ) : Type 0 where
  pub in_range : i ≤ length is
  pub below : AllByRecursion (λ x. x.sender < s) (take i is)
  pub above : AllByRecursion (λ x. s ≤ x.sender) (drop i is)

-- i is the index of the item of s
pub record Finding (is : List Item) (s i : ℕ) : Type 0 where
  pub in_range : i < length is
  pub held : holds is s ≡ true
  pub gone : without is s ≡ remove is i
  pub read : (d : Item) → bytes_of is s ≡ Some (slice_index_or is i d).bytes

pub record Missing (is : List Item) (s : ℕ) : Type 0 where
  pub free : holds is s ≡ false
  pub same : without is s ≡ is
  pub none : bytes_of is s ≡ None

-- what a search for the item of s gives
abbrev pub Finds : List Item → ℕ → Option ℕ → Type 0
Finds is s (Some i) = Finding is s i
Finds is s None = Missing is s
