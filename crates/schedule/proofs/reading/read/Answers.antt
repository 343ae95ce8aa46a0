use Rattle.schedule.proofs.ScheduleLaws.{found_by, only_so, named_by}
use Rattle.schedule.proofs.reading.read.Goals as goal

pub returns-clause-found : goal.returns-clause-found
returns-clause-found c = found_by c.args.deployment.now c.args.bytes.now c.read_lines.result c.read_lines.ensures

pub returns-clause-only : goal.returns-clause-only
returns-clause-only c = only_so c.args.deployment.now c.args.bytes.now c.read_lines.result c.read_lines.ensures

pub returns-clause-first : goal.returns-clause-first
returns-clause-first c = named_by c.args.deployment.now c.args.bytes.now c.read_lines.result c.read_lines.ensures
