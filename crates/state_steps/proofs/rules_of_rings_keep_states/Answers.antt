use Rattle.state_steps.proofs.Learning.{rule_made}
use Rattle.state_steps.proofs.rules_of_rings_keep_states.Goals as goal

pub returns : goal.returns
returns c = rule_made
