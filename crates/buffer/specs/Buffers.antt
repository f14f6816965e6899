-- The bytes that a buffer holds. Assumes nothing.
use Rattle.std.specs.Prelude.{ℕ, List, take}
use Rattle.buffer.specs.declared.buffer.Buffer.{Buffer}

abbrev pub held_bytes : {n : ℕ} → Buffer n → List ℕ
held_bytes b = take b.len b.bytes
