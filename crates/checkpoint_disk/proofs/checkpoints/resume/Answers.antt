use Rattle.checkpoint_disk.proofs.Going.{read_went}
use Rattle.checkpoint_disk.proofs.checkpoints.resume.Goals as goal

pub returns-clause-went : goal.returns-clause-went
returns-clause-went g c = read_went c.stored_in.result c.stored_in.ensures.undisturbed c.in_ok-bytes.ensures.went
