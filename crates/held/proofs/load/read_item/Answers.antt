use Rattle.held.proofs.Reading.{reads_item}
use Rattle.held.proofs.load.read_item.Goals as goal

pub returns : goal.returns
returns g c =
    let contents = g.I.Inbox.meaning c.args.inbox.now in
    rw (c.unwrap_or.ensures, c.flatten.ensures, c.ok.ensures.value)
    (reads_item contents (g.I.Inbox.lawful c.args.inbox.now) c.args.sender c.args.start c.args.bytes.now c.requires.room c.read-found.new.buffer c.read-found.result c.read-found.ensures.after c.read-found.ensures.value)
