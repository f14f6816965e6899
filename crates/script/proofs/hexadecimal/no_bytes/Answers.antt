use Rattle.std.proofs.Common.{◌≡◌, inr, true, false, rules}
use Rattle.std.specs.Char.{is_ascii_hexdigit}
use Rattle.std.proofs.lemmas.Iterator.{YieldsList-from_slice, IsFirst-from_position}
use borrow.Author.Tests.{tests}
use Rattle.script.proofs.Pairs.{bad_digit}
use Rattle.script.proofs.hexadecimal.no_bytes.Goals as goal

pub returns-in-Some : goal.returns-in-Some
returns-in-Some c =
    let word = c.args.word.now in
    let found = IsFirst-from_position _ _ c.position.result (λ b. is_ascii_hexdigit b ≡ false) (λ b. is_ascii_hexdigit b ≡ true) c.position.ensures.ran (YieldsList-from_slice word cc) (λ x q k. search (rules, tests)) (λ x q k. search (rules, tests)) in
    let bad = rw c.in-Some.is at found in
    inr (bad_digit c.in-Some.index word bad.0 (bad.1 0))
