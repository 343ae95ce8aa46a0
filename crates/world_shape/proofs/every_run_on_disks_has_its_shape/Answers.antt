use Rattle.world_shape.proofs.Disks.{disks_shaped}
use Rattle.world_shape.proofs.every_run_on_disks_has_its_shape.Goals as goal

pub returns : goal.returns
returns c = disks_shaped
