-- Where a walk stands in an if. Assumes nothing.
use Rattle.std.proofs.Common.{◌≡◌, ℕ, ◌+◌, ◌-◌, ◌≤◌, List, length, Some, Ok, ap, arith}
use Rattle.kind.specs.Kind.{Meaning}
use Rattle.program.specs.declared.program.Program.{Program}
use Rattle.program.specs.declared.expression.Expression.TheVariants.{If}
use Rattle.program.specs.Expressions.{Expr}
use Rattle.program.specs.Measures.{places}
use Rattle.program.specs.Programs.{shown}
use Rattle.unfolding.specs.Unfolding.{expression_at}
use Rattle.unfolding.specs.Walks.{rows, unfolded_in}
use Rattle.unfolding.proofs.Near.{near_start}
use Rattle.unfolding.proofs.Programs.{wide, narrow, near_in}
use Rattle.tree.specs.Walks.{Stand, walked}
use Rattle.tree.proofs.Passing.{fork_count, walked_ok}

-- an expression can be walked that begins at a byte, from a place on
pub record Room (p : Program) (d at place : ℕ) : Type 0 where
  pub near : at ≤ length (shown p).block + 17
  pub few : place + places (unfolded_in p d at).0 ≤ 4096

module _ {V : Type 0} (k : Meaning V) (m : List ℕ) (p : Program) (d at : ℕ) (deep : 1 ≤ d) (place position : ℕ) (step : Some If ≡ expression_at (shown p).block at) (room : Room p d at place) where
  abbrev read : ℕ → Expr × ℕ
  read = unfolded_in p (d - 1)

  count : places (unfolded_in p d at).0 ≡ places (read (at + 1)).0 + places (read (read (at + 1)).1).0 + places (read (read (read (at + 1)).1).1).0 + 1
  count = fork_count k m (shown p).shape.width (shown p).block (rows p) d at deep place position step

  near_condition : at + 1 ≤ length (shown p).block + 17
  near_condition = near_start (shown p).shape.width (shown p).block (rows p) (wide p) (narrow p) at If step room.near

  pub condition : Room p (d - 1) (at + 1) place
  condition = let c = count in let f = room.few in record { near = near_condition; few = omega arith }

  module _ (x : Stand) (is : Ok x ≡ walked k m (read (at + 1)) place position) where
    -- the branch that begins behind the condition, and where it ends
    pub record Chosen : Type 0 where
      pub first : Room p (d - 1) x.0 (x.1 + 1)
      pub near : (read x.0).1 ≤ length (shown p).block + 17
      pub few : x.1 + 1 + places (read x.0).0 + places (read (read x.0).1).0 ≤ 4096

    pub chosen : Chosen
    chosen =
        let c = count in
        let f = room.few in
        let w = walked_ok k m (read (at + 1)) place position x is in
        let at_is = w.0 in
        let place_is = w.1 in
        let first : places (read x.0).0 ≡ places (read (read (at + 1)).1).0 = ap (λ z. places (read z).0) at_is in
        let second : places (read (read x.0).1).0 ≡ places (read (read (read (at + 1)).1).1).0 = ap (λ z. places (read (read z).1).0) at_is in
        let near0 = near_in p (d - 1) (at + 1) near_condition in
        let near1 : x.0 ≤ length (shown p).block + 17 = omega arith in
        record { first = record { near = near1; few = omega arith }; near = near_in p (d - 1) x.0 near1; few = omega arith }

    -- the other branch
    pub other : (s q : ℕ) → s ≡ (read x.0).1 → q ≡ x.1 + 1 + places (read x.0).0 → Room p (d - 1) s q
    other s q at_is place_is =
        let c = chosen in
        let n = c.near in
        let f = c.few in
        let e : places (read s).0 ≡ places (read (read x.0).1).0 = ap (λ z. places (read z).0) at_is in
        record { near = omega arith; few = omega arith }

    pub other_behind : (i : ℕ) (y : Stand) → Ok y ≡ walked k m (read x.0) (x.1 + 1) i → Room p (d - 1) y.0 y.1
    other_behind i y h = let w = walked_ok k m (read x.0) (x.1 + 1) i y h in other y.0 y.1 w.0 w.1
