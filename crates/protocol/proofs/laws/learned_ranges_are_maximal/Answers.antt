use Rattle.protocol.proofs.RangeLemmas.{learned_maximal}
use Rattle.protocol.proofs.laws.learned_ranges_are_maximal.Goals as goal

pub returns : goal.returns
returns c = learned_maximal
