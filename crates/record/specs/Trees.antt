-- Trees: what a round leaves of the places that it visited. Assumes nothing.
use Rattle.std.specs.Prelude.{◌≡◌, ℕ, ◌+◌, ◌<◌, ◌≤◌, Bool, false, cond, ◌||◌, List, [], ◌∷◌, ◌==◌}

-- what an exchange or share sends to one node number
pub record Entry (V : Type 0) : Type 0 where
  pub number : ℕ
  pub value : V

-- the record of a place: an if's choice (true for the first branch), or what an exchange or share sends:
-- a default, and the entries of the numbers that are sent another value
pub data Rec (V : Type 0) : Type 0 where
  choice : ℕ → Bool → Rec V
  sent : ℕ → V → List (Entry V) → Rec V

-- a tree: its sender, and the records of the places that its round visited
pub record Tree (V : Type 0) : Type 0 where
  pub sender : ℕ
  pub records : List (Rec V)

abbrev pub place_of : {V : Type 0} → Rec V → ℕ
place_of (choice p b) = p
place_of (sent p d es) = p

-- a tree has the places of its records
abbrev pub has_place : {V : Type 0} → ℕ → List (Rec V) → Bool
has_place p [] = false
has_place p (r ∷ rs) = place_of r == p || has_place p rs

-- whether an if's record says the first branch
abbrev pub is_first : {V : Type 0} → Rec V → Bool
is_first (choice p b) = b
is_first (sent p d es) = false

-- READING AT A NUMBER: the entry with that number, or else the default
abbrev pub entry_at : {V : Type 0} → ℕ → V → List (Entry V) → V
entry_at n d [] = d
entry_at n d (e ∷ es) = cond (e.number == n) e.value (entry_at n d es)

-- what a tree says to a node at a place: nothing if it has no such place, an if's choice,
-- or what the record there reads at the node's number
pub data Said (V : Type 0) : Type 0 where
  silent : Said V
  chose : Bool → Said V
  reads : V → Said V

abbrev pub record_says : {V : Type 0} → ℕ → Rec V → Said V
record_says n (choice p b) = chose b
record_says n (sent p d es) = reads (entry_at n d es)

abbrev pub says : {V : Type 0} → ℕ → ℕ → List (Rec V) → Said V
says n p [] = silent
says n p (r ∷ rs) = cond (place_of r == p) (record_says n r) (says n p rs)

-- AGREEMENT: two trees agree for the node n at the place p when neither has it, or both have the same choice there,
-- or both read alike at the node's number
pub data Agree {V : Type 0} (n p : ℕ) (rs ss : List (Rec V)) : Type 0 where
  neither : has_place p rs ≡ false → has_place p ss ≡ false → Agree n p rs ss
  same_choice : (b : Bool) → says n p rs ≡ chose b → says n p ss ≡ chose b → Agree n p rs ss
  read_alike : (v : V) → says n p rs ≡ reads v → says n p ss ≡ reads v → Agree n p rs ss

-- the places of the records rise, each is at least `low` and below `high`
pub data RisingPlaces {V : Type 0} (high : ℕ) : ℕ → List (Rec V) → Type 0 where
  no_record : {low : ℕ} → RisingPlaces high low []
  record_then : {low : ℕ} {r : Rec V} {rs : List (Rec V)} → low ≤ place_of r → place_of r < high → RisingPlaces high (place_of r + 1) rs → RisingPlaces high low (r ∷ rs)
