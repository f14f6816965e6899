-- Where a reader stands, and trees that can be read. Assumes nothing.
use Rattle.std.proofs.Common.{◌≡◌, ℕ, ◌<◌, ◌≤◌, List, [], drop, Ok, refl, ap, arith}
use Rattle.std.specs.List.{AllByRecursion}
use Rattle.std.proofs.ByRecursion.{All-append, All-weaker}
use Rattle.kind.specs.Kind.{Meaning, Lawful}
use Rattle.program.specs.Expressions.{Expr}
use Rattle.program.specs.Measures.{places}
use Rattle.record.specs.Fields.{Bytes}
use Rattle.record.specs.Headers.{header_length}
use Rattle.record.specs.Messages.{message}
use Rattle.record.specs.Plans.{Plan, due}
use Rattle.record.specs.Trees.{Rec, Tree, place_of, RisingPlaces, no_record, record_then}
use Rattle.record.specs.Writing.{Follows, ended, sends, first, second, both}
use Rattle.record.proofs.Canonical.{read_written}
use Rattle.record.proofs.Places.{places_rise_lem}
use Rattle.cursor.specs.Cursors.{Sound, sound_choice, sound_sent, Readable, Stands}

higher : {V : Type 0} {high low : ℕ} {rs : List (Rec V)} (more : ℕ) → high ≤ more → RisingPlaces high low rs → RisingPlaces more low rs
higher more h no_record = no_record
higher more h (record_then l u r) = record_then l (omega arith) (higher more h r)

module _ {V : Type 0} {k : Meaning V} where
  -- before all records
  pub stands_start : {m : List ℕ} {rs : List (Rec V)} → Readable k m rs → Stands k m rs 0 header_length
  stands_start {m} {rs} r = record { passed = []; ahead = rs; split = refl; here = r.behind; below = tt }

  -- what is below a place is below a later one
  pub stands_later : {m : List ℕ} {rs : List (Rec V)} {low low' at : ℕ} → Stands k m rs low at → low ≤ low' → Stands k m rs low' at
  stands_later {low} {low'} s h = record {
    passed = s.passed;
    ahead = s.ahead;
    split = s.split;
    here = s.here;
    below = All-weaker (λ r. place_of r < low) (λ r. place_of r < low') (λ r l. omega arith) s.passed s.below;
  }

  -- no bytes, no records
  pub readable_none : Readable k [] []
  readable_none = record { behind = refl; short = omega arith; sound = tt; rising = no_record }

  follows_sound : {plan : Plan} {rs : List (Rec V)} → Follows k plan rs → AllByRecursion (Sound k) rs
  follows_sound ended = tt
  follows_sound (sends small few fair) = (sound_sent small few fair, tt)
  follows_sound (first small f) = (sound_choice small, follows_sound f)
  follows_sound (second small f) = (sound_choice small, follows_sound f)
  follows_sound (both {rs = rs} {ss = ss} f g) = All-append (Sound k) rs ss (follows_sound f) (follows_sound g)

  -- every accepted message is a tree that can be read
  pub readable_accepted : Lawful k → (e : Expr) → places e ≤ 65536 → (program node : ℕ) (m : List ℕ) (t : Tree V) → Bytes m → message k (due e 0) program node m ≡ Ok t → Readable k m t.records
  readable_accepted laws e few program node m t bytes eq =
      let c = read_written k laws (due e 0) program node m t bytes eq in
      record {
        behind = ap (drop header_length) c.is;
        short = c.short;
        sound = follows_sound c.follows;
        rising = higher 65536 (omega arith) (places_rise_lem k e 0 t.records c.follows);
      }
