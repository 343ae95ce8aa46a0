use Rattle.disk_states.proofs.Working.{one_state, empty_stands}
use Rattle.disk_states.proofs.areas_stand_for_one_state.Goals as goal

pub returns-clause-one : goal.returns-clause-one
returns-clause-one c = one_state

pub returns-clause-none : goal.returns-clause-none
returns-clause-none c = empty_stands
