use Rattle.world_shape.proofs.Disks.{runs_shaped}
use Rattle.world_shape.proofs.every_run_has_its_shape.Goals as goal

pub returns : goal.returns
returns c = runs_shaped
