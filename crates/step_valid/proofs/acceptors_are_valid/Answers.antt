use Rattle.step_valid.proofs.Tables.{valid_prepares, valid_accepts, valid_fetches, valid_trimmed}
use Rattle.step_valid.proofs.acceptors_are_valid.Goals as goal

pub returns-clause-prepare : goal.returns-clause-prepare
returns-clause-prepare c = valid_prepares

pub returns-clause-accept : goal.returns-clause-accept
returns-clause-accept c = valid_accepts

pub returns-clause-fetch : goal.returns-clause-fetch
returns-clause-fetch c = valid_fetches

pub returns-clause-trimmed : goal.returns-clause-trimmed
returns-clause-trimmed c = valid_trimmed
