use Rattle.std.proofs.Common.{arith}
use Rattle.command_codec.proofs.BatchLaws.{found_by, only_so}
use Rattle.command_codec.proofs.batch_reading.read_batch.Goals as goal

pub returns-clause-found : goal.returns-clause-found
returns-clause-found c = found_by c.args.bytes.now c.read_all.result (λ i. omega (arith, c.type_inv.bytes i)) c.read_all.ensures

pub returns-clause-only : goal.returns-clause-only
returns-clause-only c = only_so c.args.bytes.now c.read_all.result c.read_all.ensures
