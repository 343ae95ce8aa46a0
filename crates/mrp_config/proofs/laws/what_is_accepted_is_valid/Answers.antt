use Rattle.mrp_config.proofs.AcceptedConfigs.{accepted_is_valid}
use Rattle.mrp_config.proofs.laws.what_is_accepted_is_valid.Goals as goal

pub returns : goal.returns
returns c = accepted_is_valid
