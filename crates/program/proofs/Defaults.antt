-- The default of a function is a free row, and that of sums is those over no part. Assumes nothing.
use Rattle.std.proofs.Common.{◌≡◌}
use Rattle.program.specs.declared.sizes.Sizes.{Sizes}
use Rattle.program.specs.declared.sizes.Sums.{Sums}
use Rattle.program.specs.declared.function.Function.{Function}
use Rattle.program.specs.Sizing.{no_sizes, no_sums, no_row}

abbrev pub Zero : Sizes → Type 0
Zero s = (s.size ≡ 0) × ((s.depth ≡ 0) × ((s.weight ≡ 0) × (s.places ≡ 0)))

default_sizes : (s : Sizes) → Zero s → s ≡ no_sizes
default_sizes s h = λ i. record { size = h.0 i; depth = h.1.0 i; weight = h.1.1.0 i; places = h.1.1.1 i }

pub default_row : (f : Function) → (f.parameters ≡ 0) × ((f.start ≡ 0) × ((f.end ≡ 0) × Zero f.sizes)) → f ≡ no_row
default_row f h = let z = default_sizes f.sizes h.1.1.1 in λ i. record { parameters = h.0 i; start = h.1.0 i; end = h.1.1.0 i; sizes = z i }

pub default_sums : (s : Sums) → Zero s.all × ((s.first ≡ 0) × (s.others ≡ 0)) → s ≡ no_sums
default_sums s h = let z = default_sizes s.all h.0 in λ i. record { all = z i; first = h.1.0 i; others = h.1.1 i }
