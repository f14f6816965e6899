-- Writing a tree, and which records follow a plan. Assumes nothing.
use Rattle.std.specs.Prelude.{◌≡◌, ℕ, ◌+◌, ◌*◌, ◌<◌, ◌≤◌, true, false, cond, List, [], ◌∷◌, ◌++◌, length}
use Rattle.kind.specs.Kind.{Meaning}
use Rattle.record.specs.Fields.{pair_of}
use Rattle.record.specs.Headers.{written_header}
use Rattle.record.specs.Shapes.{most_entries}
use Rattle.record.specs.Trees.{Entry, Rec, choice, sent, Tree}
use Rattle.record.specs.Plans.{Plan, nothing, sent_at, choice_at, ◌⨾◌}

module _ {V : Type 0} (k : Meaning V) where
  abbrev pub written_entry : ℕ → V → List ℕ
  written_entry n v = pair_of n ++ k.written v

  abbrev pub written_entries : List (Entry V) → List ℕ
  written_entries [] = []
  written_entries (e ∷ es) = written_entry e.number e.value ++ written_entries es

  -- the record of an exchange or share up to its entries, of which there are n: count, place, default and n
  abbrev pub written_head : ℕ → V → ℕ → List ℕ
  written_head p d n = pair_of (3 + k.width + n * (2 + k.width)) ++ (pair_of p ++ (k.written d ++ (n ∷ [])))

  -- an if's record is its count, 3, its place, and 1 for the first branch or 0
  abbrev pub written_record : Rec V → List ℕ
  written_record (choice p b) = pair_of 3 ++ (pair_of p ++ (cond b 1 0 ∷ []))
  written_record (sent p d es) = written_head p d (length es) ++ written_entries es

  abbrev pub written_records : List (Rec V) → List ℕ
  written_records [] = []
  written_records (r ∷ rs) = written_record r ++ written_records rs

  abbrev pub written_tree : ℕ → Tree V → List ℕ
  written_tree program t = written_header program t.sender (length (written_records t.records)) ++ written_records t.records

  -- entries rise by number, from `low` on, and none has the default
  pub data RisingEntries (d : V) : ℕ → List (Entry V) → Type 0 where
    no_entry : {low : ℕ} → RisingEntries d low []
    entry_then : {low : ℕ} {e : Entry V} {es : List (Entry V)} → low ≤ e.number → e.number < 65536 → k.same e.value d ≡ false → RisingEntries d (e.number + 1) es → RisingEntries d low (e ∷ es)

  -- the records are those that a plan has due
  pub data Follows : Plan → List (Rec V) → Type 0 where
    ended : Follows nothing []
    sends : {p : ℕ} {d : V} {es : List (Entry V)} → p < 65536 → length es ≤ most_entries → RisingEntries d 0 es → Follows (sent_at p) (sent p d es ∷ [])
    first : {p : ℕ} {a b : Plan} {rs : List (Rec V)} → p < 65536 → Follows a rs → Follows (choice_at p a b) (choice p true ∷ rs)
    second : {p : ℕ} {a b : Plan} {rs : List (Rec V)} → p < 65536 → Follows b rs → Follows (choice_at p a b) (choice p false ∷ rs)
    both : {a b : Plan} {rs ss : List (Rec V)} → Follows a rs → Follows b ss → Follows (a ⨾ b) (rs ++ ss)
