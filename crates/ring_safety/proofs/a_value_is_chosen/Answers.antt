-- The run of the example, by computation.
use Rattle.ring_safety.proofs.Example.{can_first, chosen_first, can_second, chosen_second}
use Rattle.ring_safety.proofs.a_value_is_chosen.Goals as goal

pub returns-clause-first : goal.returns-clause-first
returns-clause-first c = can_first

pub returns-clause-chosen_first : goal.returns-clause-chosen_first
returns-clause-chosen_first c = chosen_first

pub returns-clause-second : goal.returns-clause-second
returns-clause-second c = can_second

pub returns-clause-chosen_second : goal.returns-clause-chosen_second
returns-clause-chosen_second c = chosen_second
