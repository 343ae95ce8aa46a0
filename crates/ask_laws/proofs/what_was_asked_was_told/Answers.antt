use Rattle.ask_laws.proofs.Told.{was-told}
use Rattle.ask_laws.proofs.what_was_asked_was_told.Goals as goal

pub returns : goal.returns
returns c = was-told
