use Rattle.std.proofs.Common.{◌∙◌, ap, map, List}
use Rattle.mrp_types.specs.declared.id.LogId.{LogId}
use Rattle.plain_model.specs.Replicas.{empty_log}
use Rattle.replica_state.proofs.ApplyLaws.{empty_held}
use Rattle.replica_state.proofs.state.ReplicaState.empty.Goals as goal

pub invariant_of-result : goal.invariant_of-result
invariant_of-result c =
    empty_held c.args.table.now c.in_ok-partition.partition c.new-2.result.entries c.in_ok-logs.logs c.new-3.result c.requires.few c.requires.rising c.in_ok-partition.ensures c.new-2.ensures.empty (c.in_ok-logs.ensures ∙ ap (λ (l : List LogId). map empty_log l) c.items.ensures) c.new-3.ensures
