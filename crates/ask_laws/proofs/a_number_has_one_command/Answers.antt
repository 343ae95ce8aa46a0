use Rattle.ask_laws.proofs.Told.{one-command}
use Rattle.ask_laws.proofs.a_number_has_one_command.Goals as goal

pub returns : goal.returns
returns c = one-command
