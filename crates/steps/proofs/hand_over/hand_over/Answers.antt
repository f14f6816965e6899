use Rattle.row_stack.specs.Rows.{row as row_at}
use Rattle.steps.proofs.Stepping.{put_means}
use Rattle.steps.proofs.hand_over.hand_over.Goals as goal

pub returns : goal.returns
returns g c =
    let put = c.put_sent.ensures in
    record {
      laid = c.copy.ensures;
      bytes = put.bytes;
      wrote = put.puts;
      light = put.light;
      means = λ given f gives row. put_means g.K.Kind.meaning c.args.x.now given gives f c.args.place (row_at c.args.rows.now c.args.found.1) put row;
      stands = λ given low gives stands le. c.advance.ensures given low gives stands le;
    }
