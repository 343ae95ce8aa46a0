use Rattle.checkpoint.specs.Checkpoints.{read_area}
use Rattle.checkpoint_disk.proofs.Damages.{finds_damage}
use Rattle.checkpoint_disk.proofs.checkpoints.stored_in.Goals as goal

pub returns-in-Err-clause-finds : goal.returns-in-Err-clause-finds
returns-in-Err-clause-finds c = finds_damage c.args.area c.args.generation (read_area c.args.bytes.items) c.in-Err.fault c.damage.result c.in-Err.ensures.read c.damage.ensures
