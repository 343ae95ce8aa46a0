use Rattle.world_model.specs.Worlds.{started}
use Rattle.world_model.proofs.Scheduled.{may_run, trace_is}
use Rattle.world_model.proofs.laws.a_trace_is_a_run.Goals as goal

pub returns-clause-run : goal.returns-clause-run
returns-clause-run c = λ config events may. may_run config events (started config).world may

pub returns-clause-lines : goal.returns-clause-lines
returns-clause-lines c = trace_is
