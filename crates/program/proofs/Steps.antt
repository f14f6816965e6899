-- Sizing by the bytes, without the tree: what the code computes is what the tree has. Assumes nothing.
use Rattle.std.proofs.Common.{◌≡◌, ℕ, zero, suc, ◌+◌, ◌-◌, ◌<◌, ◌≤◌, Bool, true, false, not, List, [], map, length, get_or, take, drop, Ok, Err, sym, refl, ap, ◌∙◌, subst, sub-one, arith, length-drop}
use lib.ListN.{get_or-map, length-map}
use Rattle.std.proofs.lemmas.List.{drop_all, take_all, take-take, length-take}
use Rattle.std.proofs.lemmas.Slice.{between_is}
use Rattle.refusal.specs.declared.refused.Refusal.{Refusal}
use Rattle.program.specs.declared.shape.KindShape.{KindShape}
use Rattle.program.specs.declared.sizes.Sizes.{Sizes}
use Rattle.program.specs.declared.sizes.Sums.{Sums}
use Rattle.program.specs.declared.function.Function.{Function}
use Rattle.refusal.specs.declared.cause.Cause.TheVariants as cause
use Rattle.program.specs.declared.expression.Expression.{Expression}
use Rattle.program.specs.declared.expression.Expression.TheVariants.{Literal, Variable, Let, Operator, Fold, Exchange, Share, If, Call, Sensor, Link, Own, Choose}
use Rattle.refusal.specs.Outcomes.{Outcome, refuse, after, must}
use Rattle.refusal.proofs.Outcomes.{after_same, mapped_after}
use Rattle.program.specs.Expressions.{Expr, Exprs, Unfolded}
use Rattle.program.specs.Measures.{sizes_of, size_all, depth_all, weight_all, places_all}
use Rattle.program.specs.Bounds.{Small, SmallSums}
use Rattle.program.specs.Reading.{decoded, readable, available, part_count, binds, callee, Parts, arguments, built, no_function, parts, called_function, expr_by, expr}
use Rattle.program.specs.Sizing.{row, with_part, no_sums, combined, totals, sized, summed, part_sums, flagged, Marked}

-- the sums of a call's arguments are those of the unfolded expressions
record Summed (w : ℕ) (es : Exprs) (s : Sums) : Type 0 where
  size : size_all es ≡ s.all.size
  depth : depth_all es ≡ s.all.depth
  weight : weight_all w es ≡ s.all.weight
  places : places_all es ≡ s.all.places

arguments_summed : (w n : ℕ) (ps : Parts n) → Summed w (arguments n ps) (totals w n ps)
arguments_summed w zero ps = record { size = refl; depth = refl; weight = refl; places = refl }
arguments_summed w (suc n) ps =
    let h = arguments_summed w n ps.1 in
    record { size = rw h.size; depth = rw h.depth; weight = rw h.weight; places = rw h.places }

same_sizes : {s t : Sizes} → s.size ≡ t.size → s.depth ≡ t.depth → s.weight ≡ t.weight → s.places ≡ t.places → s ≡ t
same_sizes a b c d = λ i. record { size = a i; depth = b i; weight = c i; places = d i }

sizes_built : (w : ℕ) (part : List ℕ) (f : Unfolded) (e : Expression) (ps : Parts (part_count f.parameters e)) →
    sizes_of w (built w part f e ps) ≡ combined w e (sizes_of w f.body) (totals w (part_count f.parameters e) ps)
sizes_built w part f (Literal at) ps = refl
sizes_built w part f (Variable n) ps = refl
sizes_built w part f Let ps = same_sizes (omega arith) (omega arith) (omega arith) (omega arith)
sizes_built w part f (Operator n) ps = same_sizes (omega arith) (omega arith) (omega arith) (omega arith)
sizes_built w part f (Fold n) ps = same_sizes (omega arith) (omega arith) (omega arith) (omega arith)
sizes_built w part f Exchange ps = same_sizes (omega arith) (omega arith) (omega arith) (omega arith)
sizes_built w part f Share ps = same_sizes (omega arith) (omega arith) (omega arith) (omega arith)
sizes_built w part f If ps = same_sizes (omega arith) (omega arith) (omega arith) (omega arith)
sizes_built w part f (Call n) ps =
    let h = arguments_summed w f.parameters ps in
    same_sizes (omega (arith, h.size)) (omega (arith, h.depth)) (omega (arith, h.weight)) (omega (arith, h.places))
sizes_built w part f (Sensor n) ps = refl
sizes_built w part f Link ps = refl
sizes_built w part f Own ps = same_sizes (omega arith) (omega arith) (omega arith) (omega arith)
sizes_built w part f Choose ps = same_sizes (omega arith) (omega arith) (omega arith) (omega arith)

-- reading parts and building of them, sized
sized_built : (w : ℕ) (part : List ℕ) (f : Unfolded) (e : Expression) (p : Outcome (Parts (part_count f.parameters e) × ℕ)) →
    sized w (after p (λ ps. Ok (built w part f e ps.0, ps.1)))
    ≡ after (summed w (part_count f.parameters e) p) (λ s. Ok (combined w e (sizes_of w f.body) s.0, s.1))
sized_built w part f e (Err x) = refl
sized_built w part f e (Ok ps) = ap (λ (z : Sizes). Ok (z, ps.1)) (sizes_built w part f e ps.0)

-- what is done with a result passes over what came before it
sized_after : {A : Type 0} (w : ℕ) (m : Outcome A) (next : A → Outcome (Expr × ℕ)) → sized w (after m next) ≡ after m (λ a. sized w (next a))
sized_after w m next = mapped_after (λ e. (sizes_of w e.0, e.1)) m next

module _ (refuses : List ℕ → Bool) (k : KindShape) (sensors : ℕ) (fs : List Unfolded) (part : List ℕ) where
  -- the sizes of an expression, by what reads its parts
  abbrev pub sizes_by : (ℕ → ℕ → Outcome (Expr × ℕ)) → ℕ → ℕ → Outcome (Sizes × ℕ)
  sizes_by read at scope =
      after (decoded k.width (drop at part) at) (λ d.
      after (must (readable refuses k.width part d.0) cause.LiteralRefused (at + 1)) (λ _.
      after (must (available k sensors (length fs) scope d.0) cause.NotAvailable (at + 1)) (λ _.
      after (part_sums k.width read (part_count (called_function fs d.0).parameters d.0) d.1 scope (scope + binds d.0)) (λ s.
      Ok (combined k.width d.0 (sizes_of k.width (called_function fs d.0).body) s.0, s.1)))))

  pub sized_expr_by : (read : ℕ → ℕ → Outcome (Expr × ℕ)) (at scope : ℕ) → sized k.width (expr_by refuses k sensors fs part read at scope) ≡ sizes_by read at scope
  sized_expr_by read at scope =
      let w = k.width in
      sized_after w (decoded w (drop at part) at) _ ∙ after_same (decoded w (drop at part) at) _ _ (λ d.
      let m = must (readable refuses w part d.0) cause.LiteralRefused (at + 1) in
      sized_after w m _ ∙ after_same m _ _ (λ _.
      let n = must (available k sensors (length fs) scope d.0) cause.NotAvailable (at + 1) in
      sized_after w n _ ∙ after_same n _ _ (λ _.
      sized_built w part (called_function fs d.0) d.0 (parts read (part_count (called_function fs d.0).parameters d.0) d.1 scope (scope + binds d.0)))))

  -- as much fuel as bytes are left is enough to read one expression by parts with one less
  expr_enough : (fuel at scope : ℕ) → length part ≤ fuel + at → expr refuses k sensors fs part fuel at scope ≡ expr_by refuses k sensors fs part (expr refuses k sensors fs part (fuel - 1)) at scope
  expr_enough zero at scope h =
      let none : drop at part ≡ [] = drop_all at part (omega arith) in
      rw none
  expr_enough (suc fuel) at scope h = rw sub-one

  pub sizes_enough : (fuel at scope : ℕ) → length part ≤ fuel + at →
      sized k.width (expr refuses k sensors fs part fuel at scope) ≡ sizes_by (expr refuses k sensors fs part (fuel - 1)) at scope
  sizes_enough fuel at scope h = ap (sized k.width) (expr_enough fuel at scope h) ∙ sized_expr_by (expr refuses k sensors fs part (fuel - 1)) at scope

module _ (w : ℕ) (read : ℕ → ℕ → Outcome (Expr × ℕ)) where
  pub part_sums_none : (n at first others : ℕ) → n ≡ 0 → part_sums w read n at first others ≡ Ok (no_sums, at)
  part_sums_none n at first others e = subst (λ (m : ℕ). part_sums w read m at first others ≡ Ok (no_sums, at)) (sym e) refl

  joined : (n at first others : ℕ) (a : Expr × ℕ) (p : Outcome (Parts n × ℕ)) →
      summed w (suc n) (after p (λ ps. Ok ((a.0, ps.0), ps.1))) ≡ after (summed w n p) (λ s. Ok (with_part (sizes_of w a.0) s.0, s.1))
  joined n at first others a (Err x) = refl
  joined n at first others a (Ok ps) = refl

  abbrev pub sums_by : ℕ → ℕ → ℕ → ℕ → Outcome (Sums × ℕ)
  sums_by n at first others =
      after (sized w (read at first)) (λ a.
      after (part_sums w read n a.1 others others) (λ s.
      Ok (with_part a.0 s.0, s.1)))

  led : (n at first others : ℕ) (r : Outcome (Expr × ℕ)) →
      summed w (suc n) (after r (λ a. after (parts read n a.1 others others) (λ ps. Ok ((a.0, ps.0), ps.1))))
      ≡ after (sized w r) (λ a. after (part_sums w read n a.1 others others) (λ s. Ok (with_part a.0 s.0, s.1)))
  led n at first others (Err x) = refl
  led n at first others (Ok a) = joined n at first others a (parts read n a.1 others others)

  pub part_sums_more : (n at first others : ℕ) → 0 < n → part_sums w read n at first others ≡ sums_by (n - 1) at first others
  part_sums_more zero at first others h = absurd (omega arith)
  part_sums_more (suc n) at first others h = led n at first others (read at first) ∙ ap (λ (m : ℕ). sums_by m at first others) (sym (sub-one (suc n)))

-- what the code knows of a called function is what the tree has
pub record Called (w : ℕ) (e : Expression) (row_found : Function) (f : Unfolded) : Type 0 where
  pub count : part_count row_found.parameters e ≡ part_count f.parameters e
  pub body : (s : Sums) → combined w e row_found.sizes s ≡ combined w e (sizes_of w f.body) s

module _ (w : ℕ) (fs : List Unfolded) (found : Function) where
  pub called_same : (e : Expression) → ((n : ℕ) (d : Function) → e ≡ Call n → found ≡ get_or (map (row w) fs) n d) → Called w e found (get_or fs (callee e) no_function)
  called_same (Literal at) h = record { count = refl; body = λ s. refl }
  called_same (Variable n) h = record { count = refl; body = λ s. refl }
  called_same Let h = record { count = refl; body = λ s. refl }
  called_same (Operator n) h = record { count = refl; body = λ s. refl }
  called_same (Fold n) h = record { count = refl; body = λ s. refl }
  called_same Exchange h = record { count = refl; body = λ s. refl }
  called_same Share h = record { count = refl; body = λ s. refl }
  called_same If h = record { count = refl; body = λ s. refl }
  called_same (Call n) h =
      let same : found ≡ row w (get_or fs n no_function) = h n (row w no_function) refl ∙ get_or-map (row w) fs n no_function in
      record { count = ap (λ (r : Function). r.parameters) same; body = λ s. ap (λ (r : Function). combined w (Call n) r.sizes s) same }
  called_same (Sensor n) h = record { count = refl; body = λ s. refl }
  called_same Link h = record { count = refl; body = λ s. refl }
  called_same Own h = record { count = refl; body = λ s. refl }
  called_same Choose h = record { count = refl; body = λ s. refl }

-- the ways through the sizing of an expression
module _ (refuses : List ℕ → Bool) (flags : List Bool) (k : KindShape) (sensors : ℕ) (table : List Function) (part : List ℕ) (fs : List Unfolded) (marked : Marked refuses k.width part flags) (tab : table ≡ map (row k.width) fs) (fuel at scope : ℕ) (enough : length part ≤ fuel + at) where
  as_many : length table ≡ length fs
  as_many = ap length tab ∙ length-map fs (row k.width)

  -- what the code passes on as `&part[at..]`
  abbrev pub tail : List ℕ
  tail = take (length part - at) (drop at part)

  whole : tail ≡ drop at part
  whole = take_all (length part - at) (drop at part) (omega (arith, length-drop at part))

  pub by_decode : (x : Refusal) → Err x ≡ decoded k.width tail at → Err x ≡ sized k.width (expr refuses k sensors fs part fuel at scope)
  by_decode x d =
      let e : decoded k.width (drop at part) at ≡ Err x = sym (rw whole at d) in
      sym (sizes_enough refuses k sensors fs part fuel at scope enough ∙ rw e)

  -- a flag is what the kind says of the literal
  flag : (e : Expression) → ((o : ℕ) → e ≡ Literal o → o + k.width ≤ length part) → (r : Bool) → r ≡ flagged flags e → readable refuses k.width part e ≡ not r
  flag (Literal o) h r q = ap not (sym (q ∙ marked o (h o refl)))
  flag (Variable n) h r q = ap not (sym q)
  flag Let h r q = ap not (sym q)
  flag (Operator n) h r q = ap not (sym q)
  flag (Fold n) h r q = ap not (sym q)
  flag Exchange h r q = ap not (sym q)
  flag Share h r q = ap not (sym q)
  flag If h r q = ap not (sym q)
  flag (Call n) h r q = ap not (sym q)
  flag (Sensor n) h r q = ap not (sym q)
  flag Link h r q = ap not (sym q)
  flag Own h r q = ap not (sym q)
  flag Choose h r q = ap not (sym q)

  pub by_literal : (e : Expression) (next : ℕ) → Ok (e, next) ≡ decoded k.width tail at → ((o : ℕ) → e ≡ Literal o → o + k.width ≤ length part) → true ≡ flagged flags e →
      refuse cause.LiteralRefused (at + 1) ≡ sized k.width (expr refuses k sensors fs part fuel at scope)
  by_literal e next d l q =
      let o : decoded k.width (drop at part) at ≡ Ok (e, next) = sym (rw whole at d) in
      let v : readable refuses k.width part e ≡ false = flag e l true q in
      sym (sizes_enough refuses k sensors fs part fuel at scope enough ∙ rw (o, v))

  pub by_number : (e : Expression) (next : ℕ) → Ok (e, next) ≡ decoded k.width tail at → ((o : ℕ) → e ≡ Literal o → o + k.width ≤ length part) → false ≡ flagged flags e → false ≡ available k sensors (length table) scope e →
      refuse cause.NotAvailable (at + 1) ≡ sized k.width (expr refuses k sensors fs part fuel at scope)
  by_number e next d l q a =
      let b : available k sensors (length fs) scope e ≡ false = sym (rw as_many at a) in
      let o : decoded k.width (drop at part) at ≡ Ok (e, next) = sym (rw whole at d) in
      let v : readable refuses k.width part e ≡ true = flag e l false q in
      sym (sizes_enough refuses k sensors fs part fuel at scope enough ∙ rw (o, v, b))

  bodies : (e : Expression) (f g : Sizes) (h : (s : Sums) → combined k.width e f s ≡ combined k.width e g s) (r : Outcome (Sums × ℕ)) →
      after {B = Sizes × ℕ} r (λ s. Ok (combined k.width e g s.0, s.1)) ≡ after r (λ s. Ok (combined k.width e f s.0, s.1))
  bodies e f g h (Err x) = refl
  bodies e f g h (Ok s) = ap (λ (z : Sizes). Ok (z, s.1)) (sym (h s.0))

  pub by_parts : (e : Expression) (next : ℕ) (found : Function) (count new : ℕ) (r : Outcome (Sums × ℕ)) →
      Ok (e, next) ≡ decoded k.width tail at → ((o : ℕ) → e ≡ Literal o → o + k.width ≤ length part) → false ≡ flagged flags e → true ≡ available k sensors (length table) scope e →
      ((n : ℕ) (d : Function) → e ≡ Call n → found ≡ get_or table n d) → count ≡ part_count found.parameters e → new ≡ binds e →
      r ≡ part_sums k.width (expr refuses k sensors fs part (fuel - 1)) count next scope (scope + new) →
      after r (λ s. Ok (combined k.width e found.sizes s.0, s.1)) ≡ sized k.width (expr refuses k sensors fs part fuel at scope)
  by_parts e next found count new r d l u a h n v p =
      let b : available k sensors (length fs) scope e ≡ true = sym (rw as_many at a) in
      let o : decoded k.width (drop at part) at ≡ Ok (e, next) = sym (rw whole at d) in
      let y : readable refuses k.width part e ≡ true = flag e l false u in
      let q = called_same k.width fs found e (λ n z i. h n z i ∙ ap (λ (l : List Function). get_or l n z) tab) in
      let read = expr refuses k sensors fs part (fuel - 1) in
      let f = get_or fs (callee e) no_function in
      let K : Sums × ℕ → Outcome (Sizes × ℕ) = λ s. Ok (combined k.width e (sizes_of k.width f.body) s.0, s.1) in
      let same : part_sums k.width read (part_count f.parameters e) next scope (scope + binds e) ≡ r =
      ap (λ (m : ℕ). part_sums k.width read m next scope (scope + binds e)) (sym (n ∙ q.count))
      ∙ ap (λ (m : ℕ). part_sums k.width read count next scope (scope + m)) (sym v) ∙ sym p in
      sym (sizes_enough refuses k sensors fs part fuel at scope enough
      ∙ rw (o, y, b) (ap (λ (z : Outcome (Sums × ℕ)). after z K) same ∙ bodies e found.sizes (sizes_of k.width f.body) q.body r))

-- the ways through the sizing of parts
module _ (w : ℕ) (read : ℕ → ℕ → Outcome (Expr × ℕ)) (n at first others : ℕ) (some : 0 < n) where
  pub by_first : (r : Outcome (Sizes × ℕ)) → r ≡ sized w (read at first) →
      after r (λ a. after (part_sums w read (n - 1) a.1 others others) (λ s. Ok (with_part a.0 s.0, s.1))) ≡ part_sums w read n at first others
  by_first r e = sym (part_sums_more w read n at first others some ∙ rw (← e))

  pub by_others : (a : Sizes) (next : ℕ) (s : Outcome (Sums × ℕ)) → Ok (a, next) ≡ sized w (read at first) → s ≡ part_sums w read (n - 1) next others others →
      after s (λ s. Ok (with_part a s.0, s.1)) ≡ part_sums w read n at first others
  by_others a next s e p = ap (λ (z : Outcome (Sums × ℕ)). after {B = Sums × ℕ} z (λ s. Ok (with_part a s.0, s.1))) p ∙ by_first (Ok (a, next)) e

-- what is marked in the bytes is marked in a part from their start
pub marked_part : (refuses : List ℕ → Bool) (w : ℕ) (b : List ℕ) (flags : List Bool) (n : ℕ) → Marked refuses w b flags → Marked refuses w (take n b) flags
marked_part refuses w b flags n h i le =
    let l = length-take n b in
    let in_b : i + w ≤ length b = omega arith in
    h i in_b ∙ ap refuses (sym (ap (take w) (sym (between_is b i n)) ∙ take-take w (n - i) (drop i b) (omega arith)))

pub small_more : {s : Sizes} {m n : ℕ} → Small s m → m ≤ n → Small s n
small_more h le = record { size = omega arith; depth = omega arith; weight = omega arith; places = h.places }

pub small_sums_more : {s : Sums} {m n : ℕ} → SmallSums s m → m ≤ n → SmallSums s n
small_sums_more h le = record { all = small_more h.all le; branches = h.branches }
