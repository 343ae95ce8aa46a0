use Rattle.ask_laws.proofs.Example.{run-valid, run-may, run-learns, entry-asked}
use Rattle.ask_laws.proofs.a_command_is_learned.Goals as goal

pub returns-clause-valid : goal.returns-clause-valid
returns-clause-valid c = run-valid

pub returns-clause-may : goal.returns-clause-may
returns-clause-may c = run-may

pub returns-clause-learned : goal.returns-clause-learned
returns-clause-learned c = run-learns

pub returns-clause-asked : goal.returns-clause-asked
returns-clause-asked c = entry-asked
