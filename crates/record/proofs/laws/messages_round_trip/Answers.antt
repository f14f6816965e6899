use Rattle.record.proofs.Written.{written_read}
use Rattle.record.proofs.Canonical.{read_written}
use Rattle.record.proofs.Numbers.{reads_entry}
use Rattle.record.proofs.Listing.{lists_due}
use Rattle.record.proofs.laws.messages_round_trip.Goals as goal

pub returns : goal.returns
returns g c = record { written = λ k laws. written_read k laws; canonical = λ k laws. read_written k laws; reads = λ k. reads_entry k; lists = λ k laws. lists_due k laws }
