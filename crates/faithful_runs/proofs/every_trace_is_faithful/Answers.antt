use Rattle.faithful_runs.proofs.Faithful.{trace_faithful}
use Rattle.faithful_runs.proofs.every_trace_is_faithful.Goals as goal

pub returns : goal.returns
returns config = trace_faithful
