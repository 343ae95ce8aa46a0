use Rattle.tuple_laws.proofs.Below.{below-first, below-past}
use Rattle.tuple_laws.proofs.entries_below_go_on.Goals as goal

pub returns-clause-first : goal.returns-clause-first
returns-clause-first c = below-first

pub returns-clause-next : goal.returns-clause-next
returns-clause-next c = below-past
