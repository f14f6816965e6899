use Rattle.std.proofs.Common.{◌≡◌, ◌+◌, ◌-◌, ◌*◌, ◌<◌, take, drop, length, Some, refl, sym, ap, subst, ◌∙◌, arith}
use Rattle.inbox.specs.Contents.{longest_item}
use Rattle.inbox.specs.Calls.{next_sender}
use Rattle.held.specs.Loading.{is_held, Keeps}
use Rattle.held.proofs.Counting.{keeps_none, keeps_one}
use Rattle.held.proofs.Turns.{sofar_start, sofar_done, sofar_free, sofar_rises, sofar_again, sofar_last}
use Rattle.held.proofs.load.load.Given.{Over}
use Rattle.held.proofs.load.load.Goals.{In-Some, After-checked_add, then-counts, else-counts}
use Rattle.held.proofs.load.load.Goals as goal

found : (g : Over) (c : In-Some g) → next_sender (g.I.Inbox.meaning c.args.inbox.now).items c.loop-sender.from ≡ Some c.in-Some.sender
found g c = sym c.next.ensures ∙ c.in-Some.is

free : (g : Over) (c : In-Some g) → c.loop-sender.slots.count < 16
free g c = sofar_free (g.I.Inbox.lawful c.args.inbox.now) c.loop-sender.invariant.sofar (found g c)

-- what is kept of the item that was read
keeps : (g : Over) (c : After-checked_add g) → Keeps g.K.Kind.meaning c.args.program.now c.args.node c.read_item-size.new.bytes c.loop-sender.slots c.in-Some.sender c.read_item-size.result c.if-counts.slots
keeps g c =
    let p = c.args.program.now in
    let bytes = c.read_item-size.new.bytes in
    let sender = c.in-Some.sender in
    let s = c.loop-sender.slots in
    let size = c.read_item-size.result in
    let start = s.count * longest_item in
    let held : c.counts.result ≡ is_held g.K.Kind.meaning p c.args.node sender (take size (drop start bytes)) =
    c.counts.ensures ∙ ap (λ n. is_held g.K.Kind.meaning p c.args.node sender (take n (drop start bytes))) (let h : (start + size) - start ≡ size = omega arith in h) in
    elim c.if-counts.branch [
      | then-counts w ↦ subst (Keeps g.K.Kind.meaning p c.args.node bytes s sender size) (sym w.slots-is)
          (keeps_one g.K.Kind.meaning p c.args.node bytes s sender size (sym held ∙ w.if-counts.true)
          (sofar_free (g.I.Inbox.lawful c.args.inbox.now) c.loop-sender.invariant.sofar (sym c.next.ensures ∙ c.in-Some.is)) c.read_item-size.ensures.fits
          w.with-slots.result w.with-slots.ensures.numbers w.with-slots.ensures.lengths w.with-slots.ensures.count)
      | else-counts w ↦ subst (Keeps g.K.Kind.meaning p c.args.node bytes s sender size) (sym w.slots-is)
          (keeps_none g.K.Kind.meaning p c.args.node bytes s sender size (sym held ∙ w.if-counts.false))
    ]

pub loop-sender-init : goal.loop-sender-init
loop-sender-init g c = record { long = refl; sofar = sofar_start g.K.Kind.meaning _ _ _ _ _ c.empty-slots.ensures }

pub read_item-size-requires : goal.read_item-size-requires
read_item-size-requires g c = let few = free g (goal.at.read_item-size-requires g c).In-Some in record { room = omega arith }

pub slice_bounds-counts-end : goal.slice_bounds-counts-end
slice_bounds-counts-end g c =
    let few = free g (goal.at.slice_bounds-counts-end g c).In-Some in
    let fits = c.read_item-size.ensures.fits in
    let long : length c.read_item-size.new.bytes ≡ length c.args.bytes.now = c.read_item-size.auto.bytes ∙ c.loop-sender.invariant.long in
    omega arith

pub with-slots-requires : goal.with-slots-requires
with-slots-requires g c = free g (goal.at.with-slots-requires g c).In-Some

pub loop-sender-smaller : goal.loop-sender-smaller
loop-sender-smaller g c =
    let rises = sofar_rises (g.I.Inbox.lawful c.args.inbox.now) c.loop-sender.invariant.sofar (found g (goal.at.loop-sender-smaller g c).In-Some) in
    omega (arith, c.in-Some-checked_add.ensures)

pub loop-sender-preserved : goal.loop-sender-preserved
loop-sender-preserved g c =
    let at = goal.at.loop-sender-preserved g c in
    record {
      long = c.read_item-size.auto.bytes ∙ c.loop-sender.invariant.long;
      sofar = sofar_again (g.I.Inbox.lawful c.args.inbox.now) c.loop-sender.invariant.sofar (found g at.In-Some)
          (omega (arith, c.loop-sender.invariant.long, c.requires.room)) c.read_item-size.ensures (keeps g at.After-checked_add) _ c.in-Some-checked_add.ensures.1;
    }

pub returns-in_default-checked_add : goal.returns-in_default-checked_add
returns-in_default-checked_add g c =
    let at = goal.at.returns-in_default-checked_add g c in
    sofar_last (g.I.Inbox.lawful c.args.inbox.now) c.loop-sender.invariant.sofar (found g at.In-Some)
    (omega (arith, c.loop-sender.invariant.long, c.requires.room)) c.read_item-size.ensures (keeps g at.After-checked_add) (omega (arith, c.in_default-checked_add.ensures))

pub returns-in_default : goal.returns-in_default
returns-in_default g c = sofar_done (g.I.Inbox.lawful c.args.inbox.now) c.loop-sender.invariant.sofar (sym c.next.ensures ∙ c.in_default.is)

pub shape_of-bytes-in_default : goal.shape_of-bytes-in_default
shape_of-bytes-in_default g c = c.loop-sender.invariant.long
