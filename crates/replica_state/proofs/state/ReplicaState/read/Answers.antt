use Rattle.replica_state.proofs.ApplyLaws.{for_table_of}
use Rattle.replica_state.proofs.state.ReplicaState.read.Goals as goal

pub returns-clause-exact : goal.returns-clause-exact
returns-clause-exact c = λ q is. for_table_of c.table_of-table.result.now q (λ s. s.replica) c.args.bytes.now _ _ c.table_of-table.ensures.found is c.read_of.ensures.exact
