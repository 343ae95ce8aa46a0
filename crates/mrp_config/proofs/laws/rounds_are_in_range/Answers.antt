use Rattle.mrp_config.proofs.Rounds.{round_in_range}
use Rattle.mrp_config.proofs.laws.rounds_are_in_range.Goals as goal

pub returns : goal.returns
returns c = round_in_range
