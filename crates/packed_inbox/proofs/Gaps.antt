-- A gap opened in memory and filled.
use Rattle.std.proofs.Common.{◌≡◌, ℕ, ◌+◌, ◌≤◌, List, ◌++◌, length, take, drop, ap, ◌∙◌, arith}
use lib.Seq.{paste}
use Rattle.std.proofs.lemmas.List.{take-take, take-append-le, drop_at, length-take, append_assoc, take_all}

-- a gap opened at a and filled with x
pub filled : {X : Type 0} (m x : List X) (a n : ℕ) → a + length x + n ≤ length m
    → paste (paste m (a + length x) (drop a m) n) a x (length x) ≡ take a m ++ (x ++ (take n (drop a m) ++ drop (a + length x + n) m))
filled {X} m x a n h =
    let back : List X = take n (drop a m) ++ drop (a + length x + n) m in
    let len : length (take (a + length x) m) ≡ a + length x = simp length-take (omega arith) in
    let le : a ≤ length (take (a + length x) m) = omega arith in
    let most : a ≤ a + length x = omega arith in
    let same : paste m (a + length x) (drop a m) n ≡ take (a + length x) m ++ back = append_assoc (take (a + length x) m) (take n (drop a m)) (drop (a + length x + n) m) in
    let front : take a (take (a + length x) m ++ back) ≡ take a m = take-append-le a (take (a + length x) m) back le ∙ take-take a (a + length x) m most in
    let rest : drop (a + length x) (take (a + length x) m ++ back) ≡ back = drop_at (take (a + length x) m) back (a + length x) len in
    ap (λ l. paste l a x (length x)) same
    ∙ ap (λ l. l ++ take (length x) x ++ drop (a + length x) (take (a + length x) m ++ back)) front
    ∙ ap (λ l. take a m ++ l ++ drop (a + length x) (take (a + length x) m ++ back)) (take_all (length x) x (omega arith))
    ∙ ap (λ l. take a m ++ x ++ l) rest
    ∙ append_assoc (take a m) x back
