use Rattle.schedule.proofs.Made.{generated_count, is_schedule}
use Rattle.schedule.proofs.laws.generated_schedules_may_be.Goals as goal

pub returns-clause-counted : goal.returns-clause-counted
returns-clause-counted c = generated_count

pub returns-clause-may_be : goal.returns-clause-may_be
returns-clause-may_be c = is_schedule
