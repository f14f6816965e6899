-- The header of a tree: a version, a count of what follows it, the program's number and the sender. Assumes nothing.
use Rattle.std.specs.Prelude.{ℕ, ◌+◌, ◌-◌, not, ◌&&◌, List, ◌∷◌, ◌++◌, length, Ok, ◌==◌, nat_le}
use Rattle.refusal.specs.Outcomes.{Outcome, after, must}
use Rattle.refusal.specs.declared.cause.Cause.TheVariants as cause
use Rattle.record.specs.Fields.{byte_at, pair_at, quad_at, pair_of, quad_of}

-- the version; where the count, the program's number and the sender begin; how long the header is
abbrev pub version : ℕ
version = 1

abbrev pub count_offset : ℕ
count_offset = 1

abbrev pub program_offset : ℕ
program_offset = 3

abbrev pub sender_offset : ℕ
sender_offset = 7

abbrev pub header_length : ℕ
header_length = 9

-- the most bytes of a message
abbrev pub most_bytes : ℕ
most_bytes = 2048

-- how many bytes the count counts, in a tree of n bytes: those behind it
abbrev pub counted : ℕ → ℕ
counted n = n - (count_offset + 2)

-- the sender of a message to the node `me` with the program of this number
abbrev pub header : ℕ → ℕ → List ℕ → Outcome ℕ
header program me m =
    after (must (nat_le header_length (length m) && nat_le (length m) most_bytes) cause.MessageLength 0) (λ _.
    after (must (byte_at m 0 == version) cause.MessageVersion 0) (λ _.
    after (must (pair_at m count_offset == counted (length m)) cause.MessageCount count_offset) (λ _.
    after (must (quad_at m program_offset == program) cause.OtherProgram program_offset) (λ _.
    after (must (not (pair_at m sender_offset == me)) cause.OwnMessage sender_offset) (λ _.
    Ok (pair_at m sender_offset))))))

-- the header of a tree whose records have n bytes
abbrev pub written_header : ℕ → ℕ → ℕ → List ℕ
written_header program sender n = version ∷ (pair_of (counted (header_length + n)) ++ (quad_of program ++ pair_of sender))
