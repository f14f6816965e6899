use Rattle.std.proofs.Common.{sym, refl, ap, ◌∙◌, arith}
use Rattle.std.proofs.lemmas.Bool.{true≢false}
use Rattle.inbox.specs.Contents.{Contents, holding}
use Rattle.packed_inbox.specs.PackedInbox.{lent, contents}
use Rattle.packed_inbox.specs.LentMemory.{laid_in}
use Rattle.packed_inbox.proofs.PackedFacts.{length_items, laid_as_it_stood}
use Rattle.packed_inbox.proofs.packed_inbox.calls.PackedInboxInbox.remove.Goals as goal

pub end-requires : goal.end-requires
end-requires c = omega (arith, c.in-Some.ensures.in_range, length_items c.args.self.now)

pub returns-in-Some : goal.returns-in-Some
returns-in-Some c =
    let p = c.args.self.now in
    let f = c.in-Some.ensures in
    record {
      value = sym f.held;
      after = c.end.ensures.after ∙ ap (holding (contents p)) (sym f.gone);
      untouched = λ e. absurd (true≢false e);
      memory = record {
        lender = c.end.ensures.memory.lender;
        after = c.end.ensures.memory.after ∙ sym (ap (λ (b : Contents). laid_in b.items (lent p)) c.end.ensures.after);
      };
    }

pub returns-in-None : goal.returns-in-None
returns-in-None c =
    let p = c.args.self.now in
    let f = c.in-None.ensures in
    record {
      value = sym f.free;
      after = sym (ap (holding (contents p)) f.same);
      untouched = λ _. refl;
      memory = record { lender = refl; after = laid_as_it_stood p };
    }
