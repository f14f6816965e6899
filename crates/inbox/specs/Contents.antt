-- What an inbox holds, and what always holds of that. Assumes nothing.
use Rattle.std.specs.Prelude.{◌≡◌, ℕ, ◌+◌, ◌<◌, ◌≤◌, Bool, true, List, [], ◌∷◌, length, nat_lt}
use Rattle.std.specs.List.{AllByRecursion}

-- the longest item in bytes, the highest sender limit and the longest life
abbrev pub longest_item : ℕ
longest_item = 2064

abbrev pub most_senders : ℕ
most_senders = 16

abbrev pub longest_life : ℕ
longest_life = 255

-- an item of a sender; its age is how often the inbox has passed since it was put
pub record Item : Type 0 where
  pub sender : ℕ
  pub age : ℕ
  pub bytes : List ℕ

-- the limits, and the held items by rising sender
pub record Contents : Type 0 where
  pub sender_limit : ℕ
  pub byte_limit : ℕ
  pub life : ℕ
  pub items : List Item

-- whether an item of this age is still held: it ends when its age reaches the life
abbrev pub lasts : ℕ → ℕ → Bool
lasts life age = nat_lt age life

-- how many bytes the items have together
abbrev pub bytes_held : List Item → ℕ
bytes_held [] = 0
bytes_held (i ∷ is) = length i.bytes + bytes_held is

abbrev pub Rising : List Item → Type 0
Rising [] = Unit {0}
Rising (i ∷ is) = AllByRecursion (λ j. i.sender < j.sender) is × Rising is

-- what always holds of an inbox
pub record Lawful (c : Contents) : Type 0 where
  -- the sender limit is 1 to 16 and the life 1 to 255
  pub some : 1 ≤ c.sender_limit
  pub most : c.sender_limit ≤ most_senders
  pub lives : 1 ≤ c.life
  pub short : c.life ≤ longest_life
  -- no more senders are held than the sender limit
  pub few : length c.items ≤ c.sender_limit
  -- one item a sender, by rising sender
  pub rising : Rising c.items
  pub numbers : AllByRecursion (λ i. i.sender < 65536) c.items
  -- no item is longer than the longest, and none has ended
  pub fits : AllByRecursion (λ i. length i.bytes ≤ longest_item) c.items
  pub young : AllByRecursion (λ i. lasts c.life i.age ≡ true) c.items
  -- the items are together within the byte limit
  pub within : bytes_held c.items ≤ c.byte_limit

-- these items under the limits of c
abbrev pub holding : Contents → List Item → Contents
holding c is = record { sender_limit = c.sender_limit; byte_limit = c.byte_limit; life = c.life; items = is }

abbrev pub empty_contents : ℕ → ℕ → ℕ → Contents
empty_contents senders bytes life = record { sender_limit = senders; byte_limit = bytes; life = life; items = [] }
