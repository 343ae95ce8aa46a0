use Rattle.services.proofs.PartLaws.{keeps_logs, keeps_table}
use Rattle.services.proofs.laws.commands_keep_to_their_part.Goals as goal

pub returns-clause-logs : goal.returns-clause-logs
returns-clause-logs c = keeps_logs

pub returns-clause-table : goal.returns-clause-table
returns-clause-table c = keeps_table
