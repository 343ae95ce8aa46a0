use Rattle.std.proofs.Common.{arith}
use Rattle.replica_state.proofs.ApplyLaws.{read_held}
use Rattle.replica_state.proofs.state.ReplicaState.read_of.Goals as goal

pub invariant_of-result : goal.invariant_of-result
invariant_of-result c = read_held c.args.table.now c.in_ok-partition.partition c.args.bytes.now _ c.requires.few c.requires.rising c.in_ok-partition.ensures (λ i. omega (arith, c.type_inv.bytes i)) c.in_ok-sessions.ensures
