use Rattle.services.proofs.PartLaws.{logs_decide, table_decides}
use Rattle.services.proofs.laws.growth_decides_room.Goals as goal

pub returns-clause-logs : goal.returns-clause-logs
returns-clause-logs c = logs_decide

pub returns-clause-table : goal.returns-clause-table
returns-clause-table c = table_decides
