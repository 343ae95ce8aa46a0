use Rattle.std.proofs.Common.{arith}
use Rattle.vote_journal.proofs.RecordLaws.{found_by, only_so}
use Rattle.vote_journal.proofs.record_reading.read_changes.Goals as goal

pub returns-clause-found : goal.returns-clause-found
returns-clause-found c = found_by c.args.bytes.now c.read_all.result (λ i. omega (arith, c.type_inv.bytes i)) c.read_all.ensures

pub returns-clause-only : goal.returns-clause-only
returns-clause-only c = only_so c.args.bytes.now c.read_all.result c.read_all.ensures
