-- What a record by its shape has, and how it reads at a number. Assumes nothing.
use Rattle.std.specs.Prelude.{◌≡◌, ℕ, ◌+◌, ◌≤◌, length, None, Option}
use Rattle.kind.specs.Kind.{Meaning}
use Rattle.record.specs.Shapes.{Shape, choosing, sending}
use Rattle.record.specs.Records.{behind, bytes_at}

-- its parts are as long as values of width w ask, and it ends before `long`
abbrev pub Formed : ℕ → ℕ → Shape → Type 0
Formed w long (choosing at place b) = (at + 5 ≤ long) × (length place ≡ 2) × (length b ≡ 1)
Formed w long (sending at place default n bs) = (at + 5 + w + length bs ≤ long) × (length place ≡ 2) × (length default ≡ w) × (behind w n 0 ≡ length bs)

-- what a record reads at a number, if it is no if's
abbrev pub reads_at : {V : Type 0} → Meaning V → ℕ → Shape → Option V
reads_at k number (choosing at place b) = None
reads_at k number (sending at place default n bs) = k.read (bytes_at k.width number default bs n 0)
