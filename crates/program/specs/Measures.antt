-- Size, depth, weight and places of an unfolded expression. Assumes nothing.
use Rattle.std.specs.Prelude.{ℕ, ◌+◌, ◌*◌, max, List, [], ◌∷◌, ◌++◌}
use Rattle.program.specs.declared.sizes.Sizes.{Sizes}
use Rattle.program.specs.Expressions.{Expr, Exprs, literal, variable, bind, operator, fold, exchange, share, branch, call, sensor, link, own, choose, none, then}

-- SIZE: one for each expression
abbrev mutual
  pub size : Expr → ℕ
  size (literal v) = 1
  size (variable n) = 1
  size (bind a b) = 1 + size a + size b
  size (operator n a b) = 1 + size a + size b
  size (fold n a b) = 1 + size a + size b
  size (exchange a b c) = 1 + size a + size b + size c
  size (share a b) = 1 + size a + size b
  size (branch a b c) = 1 + size a + size b + size c
  size (call es b) = 1 + size_all es + size b
  size (sensor n) = 1
  size link = 1
  size (own a) = 1 + size a
  size (choose a b c) = 1 + size a + size b + size c

  pub size_all : Exprs → ℕ
  size_all none = 0
  size_all (then e es) = size e + size_all es

-- DEPTH: one more than the deepest part or called body
abbrev mutual
  pub depth : Expr → ℕ
  depth (literal v) = 1
  depth (variable n) = 1
  depth (bind a b) = 1 + max (depth a) (depth b)
  depth (operator n a b) = 1 + max (depth a) (depth b)
  depth (fold n a b) = 1 + max (depth a) (depth b)
  depth (exchange a b c) = 1 + max (depth a) (max (depth b) (depth c))
  depth (share a b) = 1 + max (depth a) (depth b)
  depth (branch a b c) = 1 + max (depth a) (max (depth b) (depth c))
  depth (call es b) = 1 + max (depth_all es) (depth b)
  depth (sensor n) = 1
  depth link = 1
  depth (own a) = 1 + depth a
  depth (choose a b c) = 1 + max (depth a) (max (depth b) (depth c))

  pub depth_all : Exprs → ℕ
  depth_all none = 0
  depth_all (then e es) = max (depth e) (depth_all es)

-- the most bytes that the record of an exchange or share takes, at values of w bytes: its count, place and entry
-- count, the default, and 17 entries of a node number and a value
abbrev pub record_weight : ℕ → ℕ
record_weight w = 5 + w + 17 * (2 + w)

-- WEIGHT: the most bytes that the records of one round take; of an if one branch is worked
module _ (w : ℕ) where
  abbrev mutual
    pub weight : Expr → ℕ
    weight (literal v) = 0
    weight (variable n) = 0
    weight (bind a b) = weight a + weight b
    weight (operator n a b) = weight a + weight b
    weight (fold n a b) = weight a + weight b
    weight (exchange a b c) = weight a + weight b + weight c + record_weight w
    weight (share a b) = weight a + weight b + record_weight w
    weight (branch a b c) = 5 + weight a + max (weight b) (weight c)
    weight (call es b) = weight_all es + weight b
    weight (sensor n) = 0
    weight link = 0
    weight (own a) = weight a
    weight (choose a b c) = weight a + weight b + weight c

    pub weight_all : Exprs → ℕ
    weight_all none = 0
    weight_all (then e es) = weight e + weight_all es

-- PLACES: what has a place
pub data Site : Type 0 where
  sends : Site
  chooses : Site

-- the places of an expression in their order: the number of a place is its index, counted from 0. An exchange or
-- share stands behind its parts, an if between its condition and its two branches, of which both are numbered
abbrev mutual
  pub sites : Expr → List Site
  sites (literal v) = []
  sites (variable n) = []
  sites (bind a b) = sites a ++ sites b
  sites (operator n a b) = sites a ++ sites b
  sites (fold n a b) = sites a ++ sites b
  sites (exchange a b c) = sites a ++ (sites b ++ (sites c ++ (sends ∷ [])))
  sites (share a b) = sites a ++ (sites b ++ (sends ∷ []))
  sites (branch a b c) = sites a ++ (chooses ∷ (sites b ++ sites c))
  sites (call es b) = sites_all es ++ sites b
  sites (sensor n) = []
  sites link = []
  sites (own a) = sites a
  sites (choose a b c) = sites a ++ (sites b ++ sites c)

  pub sites_all : Exprs → List Site
  sites_all none = []
  sites_all (then e es) = sites e ++ sites_all es

-- how many places there are
abbrev mutual
  pub places : Expr → ℕ
  places (literal v) = 0
  places (variable n) = 0
  places (bind a b) = places a + places b
  places (operator n a b) = places a + places b
  places (fold n a b) = places a + places b
  places (exchange a b c) = places a + places b + places c + 1
  places (share a b) = places a + places b + 1
  places (branch a b c) = places a + places b + places c + 1
  places (call es b) = places_all es + places b
  places (sensor n) = 0
  places link = 0
  places (own a) = places a
  places (choose a b c) = places a + places b + places c

  pub places_all : Exprs → ℕ
  places_all none = 0
  places_all (then e es) = places e + places_all es

-- all four, at values of w bytes
abbrev pub sizes_of : ℕ → Expr → Sizes
sizes_of w e = record { size = size e; depth = depth e; weight = weight w e; places = places e }
