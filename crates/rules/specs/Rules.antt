-- The rules of a round: what a program gives at a node from its readings, the senders that it holds and its last own
-- tree. Assumes nothing.
use Rattle.std.specs.Prelude.{ℕ, ◌+◌, Bool, true, false, cond, not, ◌&&◌, List, [], ◌∷◌, ◌++◌, ◌==◌, nat_lt, slice_index_or}
use Rattle.std.specs.Option.{unwrap_or}
use Rattle.kind.specs.Kind.{Meaning}
use Rattle.program.specs.Expressions.{Expr, Exprs, literal, variable, bind, operator, fold, exchange, share, branch, call, sensor, link, own, choose, none, then}
use Rattle.program.specs.Measures.{places, places_all}
use Rattle.record.specs.Trees.{Entry, Rec, choice, sent, Tree, Said, silent, chose, reads, says}

-- a value at every node number: one for each number that is own or held, and one for all others
pub data Spot : Type 0 where
  at : ℕ → Spot
  elsewhere : Spot

abbrev pub Field : Type 0 → Type 0
Field V = Spot → V

abbrev pub or_else : {V : Type 0} → V → Said V → V
or_else d silent = d
or_else d (chose b) = d
or_else d (reads v) = v

abbrev pub same : Bool → Bool → Bool
same true b = b
same false b = not b

abbrev pub is_choice : {V : Type 0} → Bool → Said V → Bool
is_choice b silent = false
is_choice b (chose c) = same b c
is_choice b (reads v) = false

pub record Sender (V : Type 0) : Type 0 where
  pub number : ℕ
  pub link : V
  pub tree : List (Rec V)

-- what a round is given
pub record Given (V : Type 0) : Type 0 where
  pub number : ℕ
  pub readings : List V
  pub held : List (Sender V)
  pub last : List (Rec V)

-- what node `me` hears of sender n at a place
abbrev pub hears : {V : Type 0} → ℕ → ℕ → ℕ → List (Sender V) → Said V
hears me p n [] = silent
hears me p n (s ∷ ss) = cond (s.number == n) (says me p s.tree) (hears me p n ss)

abbrev pub link_to : {V : Type 0} → V → ℕ → List (Sender V) → V
link_to unknown n [] = unknown
link_to unknown n (s ∷ ss) = cond (s.number == n) s.link (link_to unknown n ss)

abbrev pub senders : {V : Type 0} → List (Sender V) → List ℕ
senders [] = []
senders (s ∷ ss) = s.number ∷ senders ss

abbrev pub everywhere : {V : Type 0} → V → Field V
everywhere v s = v

abbrev pub links : {V : Type 0} → Meaning V → Given V → Field V
links k g elsewhere = k.unknown
links k g (at n) = cond (n == g.number) k.own (link_to k.unknown n g.held)

-- the received value at a place
abbrev pub received : {V : Type 0} → Given V → (ℕ → Bool) → ℕ → V → Field V
received g aligned p initial elsewhere = initial
received g aligned p initial (at n) =
    cond (n == g.number)
    (or_else initial (says g.number p g.last))
    (cond (aligned n) (or_else initial (hears g.number p n g.held)) initial)

-- the senders that stay aligned in a branch of the if at a place
abbrev pub narrowed : {V : Type 0} → Given V → (ℕ → Bool) → ℕ → Bool → ℕ → Bool
narrowed g aligned p b n = aligned n && is_choice b (hears g.number p n g.held)

abbrev pub folded : {V : Type 0} → (V → V → V) → (ℕ → Bool) → Field V → V → List ℕ → V
folded o aligned f v [] = v
folded o aligned f v (n ∷ ns) = folded o aligned f (cond (aligned n) (o v (f (at n))) v) ns

-- own number among the held ones, in rising order
abbrev pub with_own : ℕ → List ℕ → List ℕ
with_own n [] = n ∷ []
with_own n (m ∷ ms) = cond (nat_lt n m) (n ∷ m ∷ ms) (m ∷ with_own n ms)

-- the entries of a record: where the value differs from the default
abbrev pub entries : {V : Type 0} → Meaning V → Field V → V → List ℕ → List (Entry V)
entries k f d [] = []
entries k f d (n ∷ ns) =
    cond (k.same (f (at n)) d) (entries k f d ns) (record { number = n; value = f (at n) } ∷ entries k f d ns)

unfoldable pub record_of : {V : Type 0} → Meaning V → Given V → ℕ → Field V → Rec V
record_of k g p f = sent p (f elsewhere) (entries k f (f elsewhere) (with_own g.number (senders g.held)))

-- what working an expression gives: its value, and the records of the places that it visits
pub record Out (V : Type 0) : Type 0 where
  pub value : Field V
  pub records : List (Rec V)

pub record Outs (V : Type 0) : Type 0 where
  pub values : List (Field V)
  pub records : List (Rec V)

module _ {V : Type 0} (k : Meaning V) (g : Given V) where
  abbrev pub mine : Field V → V
  mine f = f (at g.number)

  -- an expression, the variables in sight, which senders are aligned, and the first place of the expression
  unfoldable mutual
    pub work : Expr → List (Field V) → (ℕ → Bool) → ℕ → Out V
    work (literal bs) env al p = record { value = everywhere (unwrap_or (k.read bs) k.own); records = [] }
    work (variable n) env al p = record { value = slice_index_or env n (everywhere k.own); records = [] }
    work (bind a b) env al p =
        let x = work a env al p in
        let y = work b (env ++ (x.value ∷ [])) al (p + places a) in
        record { value = y.value; records = x.records ++ y.records }
    work (operator n a b) env al p =
        let x = work a env al p in
        let y = work b env al (p + places a) in
        record { value = λ s. k.apply n (x.value s) (y.value s); records = x.records ++ y.records }
    work (fold n a b) env al p =
        let x = work a env al p in
        let y = work b env al (p + places a) in
        record { value = everywhere (folded (k.apply n) al x.value (mine y.value) (senders g.held)); records = x.records ++ y.records }
    work (exchange a b c) env al p =
        let q = p + places a + places b + places c in
        let x = work a env al p in
        let inner = env ++ (received g al q (mine x.value) ∷ []) in
        let y = work b inner al (p + places a) in
        let z = work c inner al (p + places a + places b) in
        record { value = y.value; records = x.records ++ y.records ++ z.records ++ (record_of k g q z.value ∷ []) }
    work (share a b) env al p =
        let q = p + places a + places b in
        let x = work a env al p in
        let inner = env ++ (received g al q (mine x.value) ∷ []) in
        let y = work b inner al (p + places a) in
        record { value = y.value; records = x.records ++ y.records ++ (record_of k g q y.value ∷ []) }
    work (branch a b c) env al p =
        let q = p + places a in
        let x = work a env al p in
        let t = k.truth (mine x.value) in
        let yes_part = work b env (narrowed g al q true) (q + 1) in
        let no_part = work c env (narrowed g al q false) (q + 1 + places b) in
        let y = cond t yes_part no_part in
        record { value = y.value; records = x.records ++ (choice q t ∷ y.records) }
    work (call es b) env al p =
        let xs = work_all es env al p in
        let y = work b xs.values al (p + places_all es) in
        record { value = y.value; records = xs.records ++ y.records }
    work (sensor n) env al p = record { value = everywhere (slice_index_or g.readings n k.own); records = [] }
    work link env al p = record { value = links k g; records = [] }
    work (own a) env al p =
        let x = work a env al p in
        record { value = everywhere (mine x.value); records = x.records }
    work (choose a b c) env al p =
        let x = work a env al p in
        let y = work b env al (p + places a) in
        let z = work c env al (p + places a + places b) in
        record { value = λ s. cond (k.truth (x.value s)) (y.value s) (z.value s); records = x.records ++ y.records ++ z.records }

    pub work_all : Exprs → List (Field V) → (ℕ → Bool) → ℕ → Outs V
    work_all none env al p = record { values = []; records = [] }
    work_all (then e es) env al p =
        let x = work e env al p in
        let xs = work_all es env al (p + places e) in
        record { values = x.value ∷ xs.values; records = x.records ++ xs.records }

-- A ROUND: at the outset every sender is aligned, no variable is in sight and places begin at 0
module _ {V : Type 0} (k : Meaning V) (g : Given V) (e : Expr) where
  abbrev pub round : Out V
  round = work k g e [] (λ n. true) 0

  -- its result is the value at the own number
  abbrev pub result : V
  result = mine k g round.value

  -- the tree that it gives
  abbrev pub tree : Tree V
  tree = record { sender = g.number; records = round.records }
