use Rattle.node_lines.proofs.Stepping.{step_quiet, opened_quiet}
use Rattle.node_lines.proofs.nodes_print_their_own_lines.Goals as goal

pub returns-clause-steps : goal.returns-clause-steps
returns-clause-steps c = step_quiet

pub returns-clause-openings : goal.returns-clause-openings
returns-clause-openings c = opened_quiet
