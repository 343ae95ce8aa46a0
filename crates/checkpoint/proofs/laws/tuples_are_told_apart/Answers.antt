use Rattle.checkpoint.proofs.Tests.{after-before, same-is}
use Rattle.checkpoint.proofs.laws.tuples_are_told_apart.Goals as goal

pub returns-clause-after : goal.returns-clause-after
returns-clause-after c = after-before

pub returns-clause-same : goal.returns-clause-same
returns-clause-same c = same-is
