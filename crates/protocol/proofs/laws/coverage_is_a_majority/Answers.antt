use Rattle.protocol.proofs.CoverLemmas.{covers}
use Rattle.protocol.proofs.laws.coverage_is_a_majority.Goals as goal

pub returns : goal.returns
returns c = covers
