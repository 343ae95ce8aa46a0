-- Each key in turn gives what the walk gives, or the fault at which it ends.
use Rattle.std.proofs.Common.{refl}
use Rattle.mrp_config.specs.Walk.{partition_of}
use Rattle.mrp_config.proofs.Steps.{step, fails_here, fails_later, ends_by}
use Rattle.mrp_config.proofs.walk.partitions.read_partition.Goals as goal

pub returns-in_err-from-clause-walk : goal.returns-in_err-from-clause-walk
unfolding partition_of
returns-in_err-from-clause-walk c =
    ends_by (λ p. p) _ _ _ c.from_residual-in_err-from.ensures.1
    (fails_later _ _ _ _ c.in_ok-id.ensures.walk (fails_later _ _ _ _ c.in_ok-replicas.ensures (fails_later _ _ _ _ c.in_ok-own.ensures (fails_later _ _ _ _ c.in_ok-home.ensures (fails_here _ _ _ c.in_err-from.ensures)))))

pub returns-in_err-to-clause-walk : goal.returns-in_err-to-clause-walk
unfolding partition_of
returns-in_err-to-clause-walk c =
    ends_by (λ p. p) _ _ _ c.from_residual-in_err-to.ensures.1
    (fails_later _ _ _ _ c.in_ok-id.ensures.walk (fails_later _ _ _ _ c.in_ok-replicas.ensures (fails_later _ _ _ _ c.in_ok-own.ensures (fails_later _ _ _ _ c.in_ok-home.ensures (fails_later _ _ _ _ c.in_ok-from.ensures (fails_here _ _ _ c.in_err-to.ensures))))))

pub returns-in_err-logs-clause-walk : goal.returns-in_err-logs-clause-walk
unfolding partition_of
returns-in_err-logs-clause-walk c =
    ends_by (λ p. p) _ _ _ c.from_residual-in_err-logs.ensures.1
    (fails_later _ _ _ _ c.in_ok-id.ensures.walk (fails_later _ _ _ _ c.in_ok-replicas.ensures (fails_later _ _ _ _ c.in_ok-own.ensures (fails_later _ _ _ _ c.in_ok-home.ensures (fails_later _ _ _ _ c.in_ok-from.ensures (fails_later _ _ _ _ c.in_ok-to.ensures (fails_here _ _ _ c.in_err-logs.ensures)))))))

pub returns-in_err-trim_quorum-clause-walk : goal.returns-in_err-trim_quorum-clause-walk
unfolding partition_of
returns-in_err-trim_quorum-clause-walk c =
    ends_by (λ p. p) _ _ _ c.from_residual-in_err-trim_quorum.ensures.1
    (fails_later _ _ _ _ c.in_ok-id.ensures.walk (fails_later _ _ _ _ c.in_ok-replicas.ensures (fails_later _ _ _ _ c.in_ok-own.ensures (fails_later _ _ _ _ c.in_ok-home.ensures (fails_later _ _ _ _ c.in_ok-from.ensures (fails_later _ _ _ _ c.in_ok-to.ensures (fails_later _ _ _ _ c.in_ok-logs.ensures (fails_here _ _ _ c.in_err-trim_quorum.ensures))))))))

pub returns-in_err-recovery_quorum-clause-walk : goal.returns-in_err-recovery_quorum-clause-walk
unfolding partition_of
returns-in_err-recovery_quorum-clause-walk c =
    ends_by (λ p. p) _ _ _ c.from_residual-in_err-recovery_quorum.ensures.1
    (fails_later _ _ _ _ c.in_ok-id.ensures.walk (fails_later _ _ _ _ c.in_ok-replicas.ensures (fails_later _ _ _ _ c.in_ok-own.ensures (fails_later _ _ _ _ c.in_ok-home.ensures (fails_later _ _ _ _ c.in_ok-from.ensures (fails_later _ _ _ _ c.in_ok-to.ensures (fails_later _ _ _ _ c.in_ok-logs.ensures (fails_later _ _ _ _ c.in_ok-trim_quorum.ensures (fails_here _ _ _ c.in_err-recovery_quorum.ensures)))))))))

pub returns-in_err-judge_partition_names-clause-walk : goal.returns-in_err-judge_partition_names-clause-walk
unfolding partition_of
returns-in_err-judge_partition_names-clause-walk c =
    ends_by (λ p. p) _ _ _ c.from_residual-in_err-judge_partition_names.ensures.1
    (fails_later _ _ _ _ c.in_ok-id.ensures.walk (fails_later _ _ _ _ c.in_ok-replicas.ensures (fails_later _ _ _ _ c.in_ok-own.ensures (fails_later _ _ _ _ c.in_ok-home.ensures (fails_later _ _ _ _ c.in_ok-from.ensures (fails_later _ _ _ _ c.in_ok-to.ensures (fails_later _ _ _ _ c.in_ok-logs.ensures (fails_later _ _ _ _ c.in_ok-trim_quorum.ensures (fails_later _ _ _ _ c.in_ok-recovery_quorum.ensures (fails_here _ _ _ c.in_err-judge_partition_names.ensures))))))))))

pub returns-clause-walk : goal.returns-clause-walk
unfolding partition_of
returns-clause-walk c =
    step _ _ _ _ c.in_ok-id.ensures.walk (step _ _ _ _ c.in_ok-replicas.ensures (step _ _ _ _ c.in_ok-own.ensures (step _ _ _ _ c.in_ok-home.ensures (step _ _ _ _ c.in_ok-from.ensures (step _ _ _ _ c.in_ok-to.ensures (step _ _ _ _ c.in_ok-logs.ensures (step _ _ _ _ c.in_ok-trim_quorum.ensures (step _ _ _ _ c.in_ok-recovery_quorum.ensures (step _ _ _ _ c.in_ok-judge_partition_names.ensures refl)))))))))
