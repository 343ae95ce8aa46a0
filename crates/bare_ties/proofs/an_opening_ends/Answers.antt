use Rattle.bare_ties.proofs.Opening.{comes_back_ends}
use Rattle.bare_ties.proofs.an_opening_ends.Goals as goal

pub returns : goal.returns
returns c = comes_back_ends
