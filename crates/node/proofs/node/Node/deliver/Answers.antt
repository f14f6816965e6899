use Rattle.std.proofs.Common.{◌≡◌, ℕ, ◌++◌, take, Ok, Err, refl, ap, ◌∙◌, arith, rules}
use Rattle.std.proofs.lemmas.Result.{err_from_is_err_and}
use Rattle.refusal.specs.Outcomes.{Outcome, mapped}
use Rattle.inbox.specs.Calls.{put_answer, after_put}
use Rattle.tree.specs.Trees.{sender_of}
use Rattle.trace.specs.States.{State, with_inbox}
use Rattle.trace.specs.Calls.{put_so, arriving, deliver_answer, after_deliver}
use Rattle.node.specs.Nodes.{state}
use Rattle.node.proofs.Calls.{if_refused, refused_first, refused_after, refused_put, accepted, delivery_promise}
use Rattle.node.proofs.node.Node.deliver.Goals as goal

pub returns-in_err-sender : goal.returns-in_err-sender
returns-in_err-sender g c =
    let k = g.K.Kind.meaning in
    let s : State = state {K = g.row.K.Denot} g.I.Inbox.meaning c.args.self.now in
    let link = c.args.link.now in
    let m = c.args.message.now in
    let a = c.from_residual.result in
    let found : a ≡ mapped sender_of (arriving k s link m) = search rules in
    let value : a ≡ deliver_answer k s link m = refused_first s.inbox (link ++ m) (arriving k s link m) a c.from_residual.ensures.0 found in
    let after = refused_after s (link ++ m) a (deliver_answer k s link m) c.from_residual.ensures.0 value in
    record {
      value = value;
      after = after;
      untouched = if_refused a refl;
      promise = delivery_promise k g.met.K.Kind.lawful s link m s (λ i. omega (arith, (c.type_inv.message i).fits)) after;
    }

pub returns : goal.returns
returns g c =
    let k = g.K.Kind.meaning in
    let s : State = state {K = g.row.K.Denot} g.I.Inbox.meaning c.args.self.now in
    let link = c.args.link.now in
    let m = c.args.message.now in
    let n = c.in_ok-sender.sender in
    let joined : take c.join-n.result c.join-n.new.item ≡ link ++ m = c.join-n.ensures.joined in
    let put : ◌≡◌ {A = Outcome (Unit {0})} (Ok tt) (put_answer s.inbox n (link ++ m)) =
    c.in_ok-put.ensures.value ∙ ap (put_answer s.inbox n) joined in
    let value : Ok n ≡ deliver_answer k s link m =
    accepted s.inbox (link ++ m) (arriving k s link m) n tt c.in_ok-sender.ensures.is put in
    let held : g.I.Inbox.meaning c.put.new.self ≡ after_put s.inbox n (link ++ m) =
    c.put.ensures.after ∙ ap (after_put s.inbox n) joined in
    let after : with_inbox s (g.I.Inbox.meaning c.put.new.self) ≡ after_deliver k s link m =
    ap (with_inbox s) held ∙ ap (λ (o : Outcome ℕ). put_so o s (link ++ m)) value in
    record {
      value = value;
      after = after;
      untouched = tt;
      promise = delivery_promise k g.met.K.Kind.lawful s link m _ (λ i. omega (arith, (c.type_inv.message i).fits)) after;
    }

pub returns-in_err-put : goal.returns-in_err-put
returns-in_err-put g c =
    let k = g.K.Kind.meaning in
    let s : State = state {K = g.row.K.Denot} g.I.Inbox.meaning c.args.self.now in
    let link = c.args.link.now in
    let m = c.args.message.now in
    let n = c.in_ok-sender.sender in
    let r = c.from_residual-in_err-put.result in
    let p = err_from_is_err_and r c.from_residual-in_err-put.ensures.1 in
    let e = c.in_err-put.field-0.0 in
    let told : r ≡ Err e = p.1 ∙ ap Err p.2 in
    let joined : take c.join-n.result c.join-n.new.item ≡ link ++ m = c.join-n.ensures.joined in
    let put : Err e ≡ put_answer s.inbox n (link ++ m) = c.in_err-put.ensures.value ∙ ap (put_answer s.inbox n) joined in
    let refused : Err e ≡ deliver_answer k s link m = refused_put s.inbox (link ++ m) (arriving k s link m) n e c.in_ok-sender.ensures.is put in
    let same = c.in_err-put.ensures.untouched in
    let after : with_inbox s (g.I.Inbox.meaning c.put.new.self) ≡ after_deliver k s link m =
    ap (λ (x : g.row.I.Denot). with_inbox s (g.I.Inbox.meaning x)) same ∙ ap (λ (o : Outcome ℕ). put_so o s (link ++ m)) refused in
    record {
      value = told ∙ refused;
      after = after;
      untouched = if_refused r (λ j. record { program = c.args.self.now.program; number = c.args.self.now.number; inbox = same j; last = c.args.self.now.last; kind = c.args.self.now.kind });
      promise = delivery_promise k g.met.K.Kind.lawful s link m _ (λ i. omega (arith, (c.type_inv.message i).fits)) after;
    }
