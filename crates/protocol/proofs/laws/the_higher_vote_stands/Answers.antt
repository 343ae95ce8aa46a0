use Rattle.protocol.specs.Ballots.{higher}
use Rattle.protocol.proofs.EntryLemmas.{meets}
use Rattle.protocol.proofs.laws.the_higher_vote_stands.Goals as goal

pub returns : goal.returns
returns c = λ lo hi cast reports p. meets higher cast lo hi reports p
