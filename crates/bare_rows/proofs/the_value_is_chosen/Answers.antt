-- By the rules of every run.
use Rattle.bare_rows.proofs.Chosen.{chosen, stays}
use Rattle.bare_rows.proofs.the_value_is_chosen.Goals as goal

pub returns-clause-chosen : goal.returns-clause-chosen
returns-clause-chosen c = chosen

pub returns-clause-stays : goal.returns-clause-stays
returns-clause-stays c = stays
