-- What a packed inbox holds. Assumes nothing.
use Rattle.std.specs.Prelude.{ℕ, List, length}
use Rattle.inbox.specs.Contents.{Contents, Lawful}
use Rattle.inbox.specs.Law.{lawful_of}
use Rattle.packed_inbox.specs.Rows.{cut}
use Rattle.packed_inbox.specs.declared.row.Row.{Row}
use Rattle.packed_inbox.specs.declared.packed_inbox.PackedInbox.{PackedInbox}

-- the rows of the held items
abbrev pub rows : PackedInbox → List Row
rows p = p.table.items

-- the bytes of the lent memory
abbrev pub lent : PackedInbox → List ℕ
lent p = p.memory.bytes.now

-- its byte limit is the length of the lent memory
abbrev pub contents : PackedInbox → Contents
contents p = record {
  sender_limit = p.limits.senders;
  byte_limit = length (lent p);
  life = p.limits.life;
  items = cut (rows p) (lent p);
}

pub packed_inbox_lawful : (p : PackedInbox) → Lawful (contents p)
packed_inbox_lawful p = lawful_of (contents p) p.lawful
