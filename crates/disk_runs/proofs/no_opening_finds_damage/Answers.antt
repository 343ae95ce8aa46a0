use Rattle.disk_runs.proofs.Readable.{no_damage}
use Rattle.disk_runs.proofs.no_opening_finds_damage.Goals as goal

pub returns : goal.returns
returns c = no_damage
