use Rattle.protocol.proofs.RoundLemmas.{says}
use Rattle.protocol.proofs.laws.a_round_says_the_least_answer.Goals as goal

pub returns : goal.returns
returns c = says
