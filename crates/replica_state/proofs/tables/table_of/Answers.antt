use Rattle.replica_state.proofs.ApplyLaws.{table_is}
use Rattle.replica_state.proofs.tables.table_of.Goals as goal

pub returns-clause-few : goal.returns-clause-few
returns-clause-few c = (table_is c.args.deployment.now c.args.p.0 c.in-Some.table.now c.partitions-all.ensures.valid c.in-Some.ensures).0

pub returns-clause-rising : goal.returns-clause-rising
returns-clause-rising c = (table_is c.args.deployment.now c.args.p.0 c.in-Some.table.now c.partitions-all.ensures.valid c.in-Some.ensures).1
