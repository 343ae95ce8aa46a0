use Rattle.disk_model.proofs.Running.{all_told, some_told}
use Rattle.world_model.proofs.laws.what_passed_took_effect.Goals as goal

pub returns-clause-all : goal.returns-clause-all
returns-clause-all c = all_told

pub returns-clause-some : goal.returns-clause-some
returns-clause-some c = some_told
