use Rattle.disk_faults.proofs.Keeping.{run_faults, trace_faults}
use Rattle.disk_faults.proofs.only_a_fault_is_told_as_one.Goals as goal

pub returns-clause-runs : goal.returns-clause-runs
returns-clause-runs c = λ config valid xs may fits id has. run_faults config id valid xs may fits has

pub returns-clause-schedules : goal.returns-clause-schedules
returns-clause-schedules c = λ config valid events may shown id has. trace_faults config id valid events may shown has
