use Rattle.disk_states.proofs.Opening.{opening_stopped, opening_last, opening_opened, opening_full}
use Rattle.disk_states.proofs.an_opening_keeps_the_state.Goals as goal

pub returns-clause-stopped : goal.returns-clause-stopped
returns-clause-stopped c = opening_stopped

pub returns-clause-last : goal.returns-clause-last
returns-clause-last c = opening_last

pub returns-clause-opened : goal.returns-clause-opened
returns-clause-opened c = opening_opened

pub returns-clause-full : goal.returns-clause-full
returns-clause-full c = opening_full
