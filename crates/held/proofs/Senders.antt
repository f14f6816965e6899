-- What the slots hold: the link, the number and the tree of each held sender.
use Rattle.std.proofs.Common.{◌≡◌, ℕ, ◌<◌, Bool, true, false, cond, eqb, List, get_or, take, Some, None, Ok, Err, Option, refl, ap, ◌∙◌, arith, eqb-true}
use Rattle.refusal.specs.Outcomes.{Outcome}
use Rattle.kind.specs.Kind.{Meaning}
use Rattle.program.specs.declared.program.Program.{Program}
use Rattle.program.specs.Programs.{shown, run_of}
use Rattle.record.specs.Messages.{message}
use Rattle.record.specs.Plans.{due}
use Rattle.record.specs.Trees.{Tree}
use Rattle.rules.specs.Held.{sender_with}
use Rattle.rules.specs.Rules.{Sender}
use Rattle.held.specs.declared.slots.Slots.{Slots}
use Rattle.held.specs.Slots.{Loaded, slot_bytes, slot_tree}

-- the sender d under the number n has this link and this tree
record Made {V : Type 0} (n : ℕ) (v : Option V) (t : Outcome (Tree V)) (d : Sender V) : Type 0 where
  number : n ≡ d.number
  link : v ≡ Some d.link
  tree : Tree V
  read : t ≡ Ok tree
  records : tree.records ≡ d.tree
  sender : tree.sender ≡ n

made : {V : Type 0} (n : ℕ) (v : Option V) (t : Outcome (Tree V)) (d : Sender V) → sender_with n v t ≡ Some d → Made n v t d
made n None t d e = absurd (let z : ◌≡◌ {A = ℕ} 0 1 = cc in let y : ⊥ = omega arith in y)
made n (Some v) (Err r) d e = absurd (let z : ◌≡◌ {A = ℕ} 0 1 = cc in let y : ⊥ = omega arith in y)
made {V} n (Some v) (Ok t) d e = go (eqb t.sender n) refl e
  where
    go : (b : Bool) → eqb t.sender n ≡ b → cond b (Some (record { number = n; link = v; tree = t.records })) None ≡ Some d → Made n (Some v) (Ok t) d
    go false q f = absurd (let z : ◌≡◌ {A = ℕ} 0 1 = cc in let y : ⊥ = omega arith in y)
    go true q f =
        let same : ◌≡◌ {A = Sender V} (record { number = n; link = v; tree = t.records }) d = cc in
        record {
          number = ap (λ (x : Sender V). x.number) same;
          link = ap (λ (x : Sender V). Some x.link) same;
          tree = t;
          read = refl;
          records = ap (λ (x : Sender V). x.tree) same;
          sender = eqb-true t.sender n q;
        }

module _ {V : Type 0} {k : Meaning V} {p : Program} {me : ℕ} {bytes : List ℕ} {s : Slots} {ss : List (Sender V)} (h : Loaded k p me bytes s ss) (j : ℕ) (d : Sender V) (l : j < s.count) where
  in_slot : Made (get_or s.numbers j 0) (k.read (take k.width (slot_bytes bytes s j))) (message k (due (run_of p) 0) (shown p).header.number me (slot_tree k.width bytes s j)) (get_or ss j d)
  in_slot = made (get_or s.numbers j 0) _ _ (get_or ss j d) (h.slots j d l)

  pub loaded_link : k.read (take k.width (slot_bytes bytes s j)) ≡ Some (get_or ss j d).link
  loaded_link = in_slot.link

  pub loaded_number : get_or s.numbers j 0 ≡ (get_or ss j d).number
  loaded_number = in_slot.number

  pub loaded_tree : (t : Tree V) × (message k (due (run_of p) 0) (shown p).header.number me (slot_tree k.width bytes s j) ≡ Ok t) × (t.records ≡ (get_or ss j d).tree) × (t.sender ≡ (get_or ss j d).number)
  loaded_tree = (in_slot.tree, in_slot.read, in_slot.records, in_slot.sender ∙ in_slot.number)
