-- The verdict on any bytes: the checked program, or the first refusal. Assumes nothing.
use Rattle.std.specs.Prelude.{ℕ, zero, suc, ◌+◌, ◌-◌, ◌*◌, Bool, false, not, ◌&&◌, ◌||◌, List, [], ◌∷◌, ◌++◌, length, take, is_some, Ok, ◌==◌, nat_le, slice_index, slice_index_or}
use Rattle.refusal.specs.declared.cause.Cause.TheVariants as cause
use Rattle.refusal.specs.Outcomes.{Outcome, after, must}
use Rattle.kind.specs.Kind.{Meaning}
use Rattle.program.specs.declared.shape.KindShape.{KindShape}
use Rattle.program.specs.declared.sizes.Sizes.{Sizes}
use Rattle.program.specs.declared.header.Header.{Header}
use Rattle.program.specs.Expressions.{Expr, Unfolded}
use Rattle.program.specs.Measures.{sizes_of}
use Rattle.program.specs.Reading.{no_function, expr}

-- a byte pair
abbrev pub pair : List ℕ → ℕ → ℕ
pair b at = slice_index b at * 256 + slice_index b (at + 1)

-- THE HEADER: bytes 0 to 9
abbrev pub header : KindShape → List ℕ → Outcome Header
header k b =
    after (must (nat_le 10 (length b) && nat_le (length b) 1024) cause.ProgramLength 0) (λ _.
    after (must (slice_index b 0 == 1) cause.ProgramVersion 0) (λ _.
    after (must (pair b 1 == length b - 3) cause.ProgramCount 1) (λ _.
    after (must (slice_index b 7 == k.number) cause.OtherKind 7) (λ _.
    after (must (nat_le (slice_index b 8) 8) cause.BlockCounts 8) (λ _.
    after (must (nat_le 1 (slice_index b 9) && nat_le (slice_index b 9) 32) cause.BlockCounts 9) (λ _.
    Ok (record {
      number = slice_index b 3 * 16777216 + slice_index b 4 * 65536 + slice_index b 5 * 256 + slice_index b 6;
      sensors = slice_index b 8;
      functions = slice_index b 9;
    })))))))

-- A FUNCTION: a byte pair, which counts a part of two bytes or more within the block, and the part
abbrev pub part_fits : List ℕ → ℕ → Bool
part_fits b at = nat_le (at + 2) (length b) && nat_le 2 (pair b at) && nat_le (at + 2 + pair b at) (length b)

abbrev pub part_end : List ℕ → ℕ → ℕ
part_end b at = at + 2 + pair b at

abbrev pub within_limits : Sizes → Bool
within_limits s = nat_le s.size 4096 && nat_le s.depth 32 && nat_le s.weight 2039

module _ (refuses : List ℕ → Bool) (k : KindShape) (sensors : ℕ) (b : List ℕ) where
  -- the function whose pair stands at a position, behind the functions fs
  abbrev pub function : List Unfolded → Bool → ℕ → Outcome Unfolded
  function fs last at =
      after (must (part_fits b at) cause.FunctionCount at) (λ _.
      after (must (nat_le (slice_index b (at + 2)) 8 && (not last || slice_index b (at + 2) == 0)) cause.Parameters (at + 2)) (λ _.
      after (expr refuses k sensors fs (take (part_end b at) b) (length b) (at + 3) (slice_index b (at + 2))) (λ e.
      after (must (e.1 == part_end b at) cause.ProgramLeftover e.1) (λ _.
      after (must (not last || part_end b at == length b) cause.ProgramLeftover (part_end b at)) (λ _.
      after (must (within_limits (sizes_of k.width e.0)) cause.FunctionTooLarge at) (λ _.
      Ok (record { parameters = slice_index b (at + 2); start = at + 3; end = part_end b at; body = e.0 })))))))

  -- n functions from a position on, behind the functions fs
  abbrev pub functions : ℕ → ℕ → List Unfolded → Outcome (List Unfolded)
  functions zero at fs = Ok fs
  functions (suc n) at fs = after (function fs (n == 0) at) (λ f. functions n f.end (fs ++ (f ∷ [])))

-- A CHECKED PROGRAM: the bytes that it was read from, for which kind, its header, and its functions unfolded
pub record Checked : Type 0 where
  pub block : List ℕ
  pub shape : KindShape
  pub header : Header
  pub functions : List Unfolded

-- the last function is run
abbrev pub run : Checked → Expr
run c = (slice_index_or c.functions (c.header.functions - 1) no_function).body

-- a block read against the numbers of a kind; `refuses` tells which literals are no value
abbrev pub read_block : (List ℕ → Bool) → KindShape → List ℕ → Outcome Checked
read_block refuses k b =
    after (header k b) (λ h.
    after (functions refuses k h.sensors b h.functions 10 []) (λ fs.
    Ok (record { block = b; shape = k; header = h; functions = fs })))

-- literals are judged once, at the check: a program that passed it is read again with none refused
abbrev pub none_refused : List ℕ → Bool
none_refused bs = false

abbrev pub shape_of : {V : Type 0} → Meaning V → KindShape
shape_of k = record { number = k.number; width = k.width; operators = k.operators }

abbrev pub refused_by : {V : Type 0} → Meaning V → List ℕ → Bool
refused_by k bs = not (is_some (k.read bs))

-- whether a checked program is for a kind: their numbers agree
abbrev pub suits : {V : Type 0} → Meaning V → Checked → Bool
suits k c = c.shape.number == k.number && (c.shape.width == k.width && c.shape.operators == k.operators)

-- THE VERDICT of a kind
abbrev pub verdict : {V : Type 0} → Meaning V → List ℕ → Outcome Checked
verdict k b = read_block (refused_by k) (shape_of k) b
