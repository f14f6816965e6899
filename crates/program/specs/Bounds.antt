-- Bounds that keep the sizes within their types. Assumes nothing.
use Rattle.std.specs.Prelude.{ℕ, ◌+◌, ◌-◌, ◌*◌, ◌<◌, ◌≤◌, List, length, Ok, Err, Result, slice_index_or}
use Rattle.program.specs.declared.sizes.Sizes.{Sizes}
use Rattle.program.specs.declared.sizes.Sums.{Sums}
use Rattle.program.specs.declared.function.Function.{Function}
use Rattle.refusal.specs.declared.refused.Refusal.{Refusal}

-- the sizes of an expression of n bytes
pub record Small (s : Sizes) (n : ℕ) : Type 0 where
  pub size : s.size ≤ 5000 * n
  pub depth : s.depth ≤ 5000 * n
  pub weight : s.weight ≤ 5000 * n
  pub places : s.places ≤ s.size

pub record SmallSums (s : Sums) (n : ℕ) : Type 0 where
  pub all : Small s.all n
  pub branches : s.first + s.others ≤ s.all.weight

-- what keeps the sums in 32 bits
pub record Room (s : Sizes) : Type 0 where
  pub size : s.size ≤ 10000000
  pub depth : s.depth ≤ 10000000
  pub weight : s.weight ≤ 10000000
  pub places : s.places ≤ 10000000

pub record RoomSums (s : Sums) : Type 0 where
  pub all : Room s.all
  pub first : s.first ≤ 10000000
  pub others : s.others ≤ 10000000

-- the limits of a function
pub record Limits (s : Sizes) : Type 0 where
  pub size : s.size ≤ 4096
  pub depth : s.depth ≤ 32
  pub weight : s.weight ≤ 2039
  pub places : s.places ≤ s.size

-- every function of a table keeps the limits
abbrev pub Limited : List Function → Type 0
Limited fs = (k : ℕ) (d : Function) → k < length fs → Limits (slice_index_or fs k d).sizes

-- an expression ends behind its start and within its part, and is small for its length
abbrev pub Ends : ℕ → ℕ → Result (Sizes × ℕ) Refusal → Type 0
Ends at end (Err e) = Unit {0}
Ends at end (Ok s) = (at < s.1) × (s.1 ≤ end) × Small s.0 (s.1 - at)

abbrev pub PartsEnd : ℕ → ℕ → Result (Sums × ℕ) Refusal → Type 0
PartsEnd at end (Err e) = Unit {0}
PartsEnd at end (Ok s) = (at ≤ s.1) × (s.1 ≤ end) × SmallSums s.0 (s.1 - at)
