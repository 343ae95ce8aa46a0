use Rattle.ring_tables.proofs.Backing.{backing}
use Rattle.ring_tables.proofs.what_is_due_is_backed.Goals as goal

pub returns : goal.returns
returns c = backing
