-- From the bytes that were put to the record of a field.
use Rattle.std.proofs.Common.{◌≡◌, ℕ, ◌+◌, ◌*◌, ◌<◌, ◌≤◌, List, [], ◌∷◌, ◌++◌, map, length, get_or, take, drop, sym, refl, ap, ◌∙◌, mul-le-mul_right, add-mul, arith, length-append, length-take-le, count_by}
use Rattle.std.proofs.lemmas.List.Sums.{count_by-le-length}
use Rattle.kind.specs.Kind.{Meaning, Lawful}
use Rattle.program.specs.Measures.{record_weight}
use Rattle.record.specs.declared.output.Output.{Output}
use Rattle.record.specs.Growth.{Puts}
use Rattle.record.specs.Trees.{Entry, sent}
use Rattle.record.specs.Writing.{written_entries, written_head, written_record}
use Rattle.record.proofs.Grows.{puts_is}
use Rattle.record.proofs.Written.{entries_long, sent_long}
use Rattle.rules.specs.Rules.{Field, at, elsewhere, Given, senders, with_own, entries, record_of}
use Rattle.sending.specs.Kept.{kept_one, kept, differs}
use Rattle.sending.specs.Sending.{Put}
use Rattle.sending.proofs.Entries.{kept_few, all_long, all_is, written_both}

module _ {V : Type 0} (k : Meaning V) (laws : Lawful k) where
  -- room for entries: as many bytes as n of them have
  abbrev Room : ℕ → Output → Type 0
  Room n o = o.len + n * (2 + k.width) ≤ length o.bytes.now

  pub room_behind_head : (p : ℕ) (d : V) (n : ℕ) {o o' : Output} → Puts o o' (written_head k p d n)
      → o.len + record_weight k.width ≤ length o.bytes.now → Room 17 o'
  room_behind_head p d n g room =
      let l = length-append (k.written d) (n ∷ []) in
      let v = laws.long d in
      let t = g.grown.top_is in
      let r = g.grown.room in
      omega (arith, l, v, t, r, room)

  pub room_for : (n m : ℕ) (o : Output) → n ≤ m → Room m o → Room n o
  room_for n m o h room = let t : n * (2 + k.width) ≤ m * (2 + k.width) = mul-le-mul_right (2 + k.width) h in omega (arith, t, room)

  pub room_behind : (es : List (Entry V)) (j n m : ℕ) {o o' : Output} → Puts o o' (written_entries k es)
      → length es ≤ j → j + n ≤ m → Room m o → Room n o'
  room_behind es j n m g few sum room =
      let w = 2 + k.width in
      let l = entries_long k laws es in
      let a : length es * w ≤ j * w = mul-le-mul_right w few in
      let b : (j + n) * w ≤ m * w = mul-le-mul_right w sum in
      let e : (j + n) * w ≡ j * w + n * w = add-mul j n w in
      let t = g.grown.top_is in
      let r = g.grown.room in
      omega (arith, l, a, b, e, t, r, room)

  pub room_for_one : (d : V) (ns : List ℕ) (xs : List V) (i : ℕ) {o o' : Output} → i < length ns → Puts o o' (written_entries k (kept k d (take i ns) xs))
      → Room (length ns) o → o'.len + (2 + k.width) ≤ length o'.bytes.now
  room_for_one d ns xs i short g room =
      let few = kept_few k d (take i ns) xs in
      let l = length-take-le i ns (omega arith) in
      let r = room_behind (kept k d (take i ns) xs) i 1 (length ns) g (omega (arith, few, l)) (omega (arith, short)) room in
      omega (arith, r)

  -- the record, from its head and its three runs of entries: the numbers before the own one, the own one, and the others
  pub put_all : (p me : ℕ) (ns : List ℕ) (d own : V) (ys : List V) (i count : ℕ) {o o' : Output} → length ns ≤ 16 → length ys ≡ length ns
      → with_own me ns ≡ take i ns ++ (me ∷ drop i ns)
      → count ≡ count_by (differs k d) (own ∷ ys)
      → Puts o o' (written_head k p d count ++ (written_entries k (kept k d (take i ns) ys) ++ (written_entries k (kept_one k d me own) ++ written_entries k (kept k d (drop i ns) (drop i ys)))))
      → Put k p me ns (d ∷ own ∷ ys) o o'
  put_all p me ns d own ys i count few as_many split counted g =
      let a = kept k d (take i ns) ys in
      let b = kept_one k d me own in
      let c = kept k d (drop i ns) (drop i ys) in
      let es = a ++ (b ++ c) in
      let long : length es ≡ count = all_long k d me own i ns ys as_many ∙ sym counted in
      let bound = count_by-le-length (differs k d) (own ∷ ys) in
      let most : length es ≤ 17 = omega (arith, long, bound, counted, few, as_many) in
      let weight : length es * (2 + k.width) ≤ 17 * (2 + k.width) = mul-le-mul_right (2 + k.width) most in
      let size = sent_long k laws p d es in
      let both : written_entries k a ++ (written_entries k b ++ written_entries k c) ≡ written_entries k es =
      sym (written_both k a (b ++ c) ∙ ap (λ (l : List ℕ). written_entries k a ++ l) (written_both k b c)) in
      record {
        bytes = written_record k (sent p d es);
        puts = puts_is (λ j. written_head k p d (sym long j) ++ both j) g;
        light = omega (arith, weight, size);
        means = λ f e.
            let first : d ≡ f elsewhere = cc in
            let second : own ≡ f (at me) = cc in
            let rest : ys ≡ map (λ n. f (at n)) ns = cc in
            ap (λ (l : List (Entry V)). written_record k (sent p d l)) (all_is k d f me own second i ns ys rest ∙ ap (λ (l : List ℕ). entries k f d l) (sym split))
            ∙ ap (λ (v : V). written_record k (sent p v (entries k f v (with_own me ns)))) first;
      }

-- a row is its first two cells and those of the senders
pub row_parts : {V : Type 0} (xs : List V) (n : ℕ) (d own : V) → length xs ≡ 2 + n → d ≡ get_or xs 0 d → own ≡ get_or xs 1 own → d ∷ own ∷ drop 2 xs ≡ xs
row_parts [] n d own long a b = absurd (omega (arith, long))
row_parts (x ∷ []) n d own long a b = absurd (omega (arith, long))
row_parts (x ∷ y ∷ xs) n d own long a b = λ j. a j ∷ b j ∷ xs

map_map : {A B : Type 0} (g : ℕ → A) (f : A → B) (ns : List ℕ) → map f (map g ns) ≡ map (λ n. f (g n)) ns
map_map g f [] = refl
map_map g f (n ∷ ns) = ap (λ (l : List _). f (g n) ∷ l) (map_map g f ns)

-- what is put from the row of a field at a node is the record that the rules ask for
pub put_record_of : {V : Type 0} (k : Meaning V) (g : Given V) (f : Field V) {p : ℕ} {o o' : Output}
    (put : Put k p g.number (senders g.held) (map f (elsewhere ∷ at g.number ∷ map at (senders g.held))) o o')
    → put.bytes ≡ written_record k (record_of k g p f)
unfolding record_of
put_record_of k g f put = put.means f (ap (λ (l : List _). f elsewhere ∷ f (at g.number) ∷ l) (map_map at f (senders g.held)))
