-- Records with their values, in the order of the checks. Assumes nothing.
use Rattle.std.specs.Prelude.{ℕ, zero, suc, ◌+◌, cond, not, List, [], ◌∷◌, drop, Some, None, Ok, Option, ◌==◌, nat_le}
use Rattle.refusal.specs.Outcomes.{Outcome, refuse, after, must}
use Rattle.refusal.specs.declared.cause.Cause.TheVariants as cause
use Rattle.kind.specs.Kind.{Meaning}
use Rattle.record.specs.Fields.{byte_at, pair_at, part}
use Rattle.record.specs.Shapes.{Shape, choosing, sending, end_at, shape_at}
use Rattle.record.specs.Trees.{Entry, Rec, choice, sent}
use Rattle.record.specs.declared.record.Body.{Body}

-- a value that was read, or its refusal at a position
abbrev pub allowed : {V : Type 0} → ℕ → Option V → Outcome V
allowed p None = refuse cause.ValueRefused p
allowed p (Some v) = Ok v

-- where n entries end that begin at a position
abbrev pub behind : ℕ → ℕ → ℕ → ℕ
behind w zero at = at
behind w (suc n) at = behind w n (at + (2 + w))

module _ {V : Type 0} (k : Meaning V) where
  -- one entry, whose bytes bs stand in the message at a position: the least number of the next, if this one's is at least `low`
  abbrev pub next_low : V → ℕ → List ℕ → ℕ → Outcome ℕ
  next_low d at bs low =
      after (allowed (at + 2) (k.read (drop 2 bs))) (λ v.
      after (must (nat_le low (pair_at bs 0)) cause.EntryRefused at) (λ _.
      after (must (not (k.same v d)) cause.EntryRefused (at + 2)) (λ _.
      Ok (pair_at bs 0 + 1))))

  -- n entries at a position of the bytes bs, which stand in the message from `base` on; no number is below `low`
  abbrev pub entries : V → ℕ → List ℕ → ℕ → ℕ → ℕ → Outcome (List (Entry V))
  entries d base bs zero low at = Ok []
  entries d base bs (suc n) low at =
      after (allowed (base + (at + 2)) (k.read (part bs (at + 2) k.width))) (λ v.
      after (must (nat_le low (pair_at bs at)) cause.EntryRefused (base + at)) (λ _.
      after (must (not (k.same v d)) cause.EntryRefused (base + (at + 2))) (λ _.
      after (entries d base bs n (pair_at bs at + 1) (at + (2 + k.width))) (λ es.
      Ok (record { number = pair_at bs at; value = v } ∷ es)))))

  -- a record at the place p that is due
  abbrev pub judged : ℕ → Shape → Outcome (Rec V)
  judged p (choosing at place b) =
      after (must (pair_at place 0 == p) cause.PlaceNotDue (at + 2)) (λ _.
      after (must (nat_le (byte_at b 0) 1) cause.ChoiceRefused (at + 4)) (λ _.
      Ok (choice p (byte_at b 0 == 1))))
  judged p (sending at place default n bs) =
      after (must (pair_at place 0 == p) cause.PlaceNotDue (at + 2)) (λ _.
      after (allowed (at + 4) (k.read default)) (λ d.
      after (entries d (at + 5 + k.width) bs n 0 0) (λ es.
      Ok (sent p d es))))

  -- the record that is due at a position, and where it ends
  abbrev pub record_at : Body → ℕ → List ℕ → ℕ → Outcome (Rec V × ℕ)
  record_at b p m at =
      after (shape_at b k.width m at) (λ s.
      after (judged p s) (λ r.
      Ok (r, end_at m at)))

-- the bytes that stand for a number among n entries at a position, or else the default's
abbrev pub bytes_at : ℕ → ℕ → List ℕ → List ℕ → ℕ → ℕ → List ℕ
bytes_at w number default bs zero at = default
bytes_at w number default bs (suc n) at = cond (pair_at bs at == number) (part bs (at + 2) w) (bytes_at w number default bs n (at + (2 + w)))
