use Rattle.ask_laws.proofs.Told.{stays-asked}
use Rattle.ask_laws.proofs.what_was_asked_stays.Goals as goal

pub returns : goal.returns
returns c = stays-asked
