use Rattle.std.proofs.Common.{arith}
use Rattle.vote_journal.proofs.RecordLaws.{found_first, only_first}
use Rattle.vote_journal.proofs.record_reading.read_first.Goals as goal

pub returns-clause-found : goal.returns-clause-found
returns-clause-found c = found_first c.args.bytes.now c.read_all_of_first.result (λ i. omega (arith, c.type_inv.bytes i)) c.read_all_of_first.ensures

pub returns-clause-only : goal.returns-clause-only
returns-clause-only c = only_first c.args.bytes.now c.read_all_of_first.result c.read_all_of_first.ensures
