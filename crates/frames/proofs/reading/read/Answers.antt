use Rattle.std.proofs.Common.{arith}
use Rattle.frames.proofs.FrameLaws.{found_by, only_so}
use Rattle.frames.proofs.reading.read.Goals as goal

pub returns-clause-found : goal.returns-clause-found
returns-clause-found c = found_by c.args.bytes.now c.read_any.result (λ i. omega (arith, c.type_inv.bytes i)) c.read_any.ensures

pub returns-clause-only : goal.returns-clause-only
returns-clause-only c = only_so c.args.bytes.now c.read_any.result c.read_any.ensures
