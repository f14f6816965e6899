-- Parts of lent bytes, and reading an item into one.
use Rattle.std.proofs.Common.{◌≡◌, ℕ, ◌+◌, ◌-◌, ◌≤◌, true, false, cond, eqb, ltb, List, [], ◌∷◌, ◌++◌, length, take, drop, Some, None, Ok, Option, unwrap_or, sym, refl, ap, ◌∙◌, subst, ⊎_elim, arith, le-ltb}
use borrow.Rule.Slice.PartMut.{put_mid}
use Rattle.std.specs.Option.{option_flatten}
use Rattle.std.specs.Result.{result_ok}
use Rattle.std.specs.List.{AllByRecursion}
use Rattle.std.proofs.lemmas.Bool.{cases_Bool}
use Rattle.std.proofs.lemmas.List.{append_assoc, length-take-le, length-drop, take-take, take_at, drop_at, drop-take, drop-append-le, take-append-drop}
use Rattle.refusal.specs.declared.cause.Cause.TheVariants.{BufferShort}
use Rattle.refusal.specs.Outcomes.{Outcome, refuse}
use Rattle.record.specs.Fields.{part}
use Rattle.inbox.specs.Contents.{Item, Contents, Lawful, longest_item}
use Rattle.inbox.specs.Calls.{bytes_of, found_length, read_answer, at_front, buffer_after_read}
use Rattle.held.specs.Loading.{ReadsItem}

-- a part below a bound, of bytes that are the same below it
pub part_below : (bound at n : ℕ) (xs ys : List ℕ) → at + n ≤ bound → take bound xs ≡ take bound ys → part xs at n ≡ part ys at n
part_below bound at n xs ys h e =
    sym (drop-take at n xs)
    ∙ ap (drop at) (sym (take-take (at + n) bound xs h) ∙ ap (take (at + n)) e ∙ take-take (at + n) bound ys h)
    ∙ drop-take at n ys

-- READING AN ITEM

-- how many bytes were read
abbrev pub answer_size : Outcome (Option ℕ) → ℕ
answer_size r = unwrap_or (option_flatten (result_ok r)) 0

short_item : (is : List Item) (s : ℕ) (x : List ℕ) → AllByRecursion (λ i. length i.bytes ≤ longest_item) is → bytes_of is s ≡ Some x → length x ≤ longest_item
short_item [] s x h e = absurd (let z : ◌≡◌ {A = ℕ} 0 1 = cc in let y : ⊥ = omega arith in y)
short_item (i ∷ is) s x h e = ⊎_elim
    (λ (t : eqb i.sender s ≡ true). let f : Some i.bytes ≡ Some x = rw t at e in let g : i.bytes ≡ x = cc in subst (λ (y : List ℕ). length y ≤ longest_item) g h.0)
    (λ (t : eqb i.sender s ≡ false). short_item is s x h.1 (rw t at e))
    (cases_Bool (eqb i.sender s))

-- what is found, put in front of the part of m bytes from `start` on
put_back : (start m : ℕ) (old : List ℕ) (o : Option (List ℕ)) → ((x : List ℕ) → o ≡ Some x → length x ≤ m) → m ≤ length (drop start old)
    → put_mid start m old (at_front o (take m (drop start old))) ≡ take start old ++ at_front o (drop start old)
put_back start m old None h r = ap (λ l. take start old ++ l) (take-append-drop m (drop start old))
put_back start m old (Some x) h r =
    let rest : List ℕ = drop start old in
    let long : length (take m rest) ≡ m = length-take-le m rest r in
    let short : length x ≤ m = h x refl in
    ap (λ l. take start old ++ l)
    (append_assoc x (drop (length x) (take m rest)) (drop m rest)
    ∙ ap (λ l. x ++ l) (sym (drop-append-le (length x) (take m rest) (drop m rest) (omega arith)) ∙ ap (drop (length x)) (take-append-drop m rest)))

part_found : (start : ℕ) (front rest : List ℕ) (o : Option (List ℕ)) (x : List ℕ) → length front ≡ start → o ≡ Some x → part (front ++ at_front o rest) start (answer_size (Ok (found_length o))) ≡ x
part_found start front rest None x l e = absurd (let z : ◌≡◌ {A = ℕ} 0 1 = cc in let y : ⊥ = omega arith in y)
part_found start front rest (Some y) x l e =
    let same : y ≡ x = cc in
    ap (take (length y)) (drop_at front (y ++ drop (length y) rest) start l) ∙ take_at y (drop (length y) rest) (length y) refl ∙ same

size_found : (o : Option (List ℕ)) → ((x : List ℕ) → o ≡ Some x → length x ≤ longest_item) → answer_size (Ok (found_length o)) ≤ longest_item
size_found None h = omega arith
size_found (Some x) h = h x refl

pub reads_item : (c : Contents) → Lawful c → (s start : ℕ) (old : List ℕ) → start + longest_item ≤ length old → (buffer : List ℕ) (answer : Outcome (Option ℕ))
    → buffer ≡ buffer_after_read c s (take ((start + longest_item) - start) (drop start old))
    → answer ≡ read_answer c s (length (take ((start + longest_item) - start) (drop start old)))
    → ReadsItem c s start old (put_mid start ((start + longest_item) - start) old buffer) (answer_size answer)
reads_item c ok s start old room buffer answer e f =
    let m : ℕ = (start + longest_item) - start in
    let is_m : m ≡ longest_item = omega arith in
    let rest : List ℕ = drop start old in
    let o : Option (List ℕ) = bytes_of c.items s in
    let enough : m ≤ length rest = omega (arith, length-drop start old) in
    let long : length (take m rest) ≡ m = length-take-le m rest enough in
    let t : ltb (length (take m rest)) longest_item ≡ false = le-ltb (length (take m rest)) longest_item (omega arith) in
    let short : (x : List ℕ) → o ≡ Some x → length x ≤ longest_item = λ x h. short_item c.items s x ok.fits h in
    let whole : put_mid start m old buffer ≡ take start old ++ at_front o rest =
    ap (put_mid start m old) (e ∙ ap (λ b. cond b (take m rest) (at_front o (take m rest))) t)
    ∙ put_back start m old o (λ x h. subst (λ n. length x ≤ n) (sym is_m) (short x h)) enough in
    let answered : answer ≡ Ok (found_length o) = f ∙ ap (λ b. cond b (refuse BufferShort 0) (Ok (found_length o))) t in
    record {
      fits = subst (λ r. answer_size r ≤ longest_item) (sym answered) (size_found o short);
      bytes = whole;
      item = λ x h.
          ap (λ l. part l start (answer_size answer)) whole
          ∙ ap (λ r. part (take start old ++ at_front o rest) start (answer_size r)) answered
          ∙ part_found start (take start old) rest o x (length-take-le start old (omega arith)) h;
    }
