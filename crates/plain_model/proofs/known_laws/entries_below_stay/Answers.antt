use Rattle.plain_model.proofs.Known.{below_more}
use Rattle.plain_model.proofs.known_laws.entries_below_stay.Goals as goal

pub returns : goal.returns
returns c = below_more
