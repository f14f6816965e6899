-- Records by their shape: the parts of a message that they are made of. Assumes nothing.
use Rattle.std.specs.Prelude.{ℕ, ◌+◌, ◌*◌, Bool, cond, ◌&&◌, List, length, take, drop, Some, None, Ok, Err, Option, ◌==◌, nat_le}
use Rattle.refusal.specs.Outcomes.{Outcome, after, must}
use Rattle.refusal.specs.declared.cause.Cause.TheVariants as cause
use Rattle.record.specs.Fields.{byte_at, pair_at, part}
use Rattle.record.specs.declared.record.Body.{Body}
use Rattle.record.specs.declared.record.Body.TheVariants as body
use Rattle.record.specs.declared.record.Record.{Record}
use Rattle.record.specs.declared.record.Record.TheVariants as case

-- a record as it stands in a message: where it begins, and its parts. An if's are its place and its choice;
-- an exchange's or share's are its place, its default, how many entries it has, and they
pub data Shape : Type 0 where
  choosing : ℕ → List ℕ → List ℕ → Shape
  sending : ℕ → List ℕ → List ℕ → ℕ → List ℕ → Shape

-- what each case of the code's records stands for
abbrev pub shown : Record → Shape
shown (case.Choice offset place choice) = choosing offset place.now choice.now
shown (case.Exchange offset place default count entries) = sending offset place.now default.now count entries.now

-- where the record at a position ends, by its count
abbrev pub end_at : List ℕ → ℕ → ℕ
end_at m at = at + 2 + pair_at m at

-- what the record at a position counts: the bytes behind its count, if they are all there
abbrev pub counted_at : List ℕ → ℕ → Option (List ℕ)
counted_at m at = cond (nat_le (at + 2) (length m) && nat_le (end_at m at) (length m)) (Some (part m (at + 2) (pair_at m at))) None

-- the most entries of a record
abbrev pub most_entries : ℕ
most_entries = 17

-- the count fits the body, at values of w bytes: an if's body is one byte; any other is a default, a count byte, and so many entries
abbrev pub fits : Body → ℕ → List ℕ → ℕ → Bool
fits body.Choice w m at = end_at m at == at + 5
fits body.Exchange w m at =
    nat_le (at + 5 + w) (end_at m at) && nat_le (byte_at m (at + 4 + w)) most_entries && end_at m at == at + 5 + w + byte_at m (at + 4 + w) * (2 + w)

abbrev pub shape : Body → ℕ → List ℕ → ℕ → Shape
shape body.Choice w m at = choosing at (part m (at + 2) 2) (part m (at + 4) 1)
shape body.Exchange w m at =
    sending at (part m (at + 2) 2) (part m (at + 4) w) (byte_at m (at + 4 + w)) (part m (at + 5 + w) (byte_at m (at + 4 + w) * (2 + w)))

-- the record at a position whose counted bytes these are
abbrev pub shape_of : Body → ℕ → ℕ → List ℕ → Option Shape
shape_of body.Choice w at bs = cond (length bs == 3) (Some (choosing at (take 2 bs) (drop 2 bs))) None
shape_of body.Exchange w at bs =
    cond (nat_le (3 + w) (length bs) && nat_le (byte_at bs (2 + w)) most_entries && length bs == 3 + w + byte_at bs (2 + w) * (2 + w))
    (Some (sending at (take 2 bs) (take w (drop 2 bs)) (byte_at bs (2 + w)) (drop (3 + w) bs))) None

-- the record at a position, where one with this body is due
abbrev pub shape_at : Body → ℕ → List ℕ → ℕ → Outcome Shape
shape_at b w m at =
    after (must (nat_le (at + 2) (length m)) cause.MessageCut at) (λ _.
    after (must (nat_le (end_at m at) (length m)) cause.MessageCut at) (λ _.
    after (must (fits b w m at) cause.RecordCount at) (λ _.
    Ok (shape b w m at))))

-- LISTING: the record at a position with no program at hand, and where it ends. A count of 3 tells an if's record
abbrev pub body_at : List ℕ → ℕ → Body
body_at m at = cond (pair_at m at == 3) body.Choice body.Exchange

abbrev pub with_end : ℕ → Outcome Shape → Option (Shape × ℕ)
with_end end (Err e) = None
with_end end (Ok s) = Some (s, end)

abbrev pub next_shape : ℕ → List ℕ → ℕ → Option (Shape × ℕ)
next_shape w m at = with_end (end_at m at) (shape_at (body_at m at) w m at)

-- what the code's answer to it stands for
abbrev pub shown_end : Option (Record × ℕ) → Option (Shape × ℕ)
shown_end None = None
shown_end (Some x) = Some (shown x.0, x.1)
