use Rattle.ask_laws.proofs.Told.{below-next}
use Rattle.ask_laws.proofs.numbers_are_below_the_next.Goals as goal

pub returns : goal.returns
returns c = below-next
