use Rattle.schedule.proofs.AskLaws.{found_by, only_so}
use Rattle.schedule.proofs.asking.read_ask.Goals as goal

pub returns-clause-found : goal.returns-clause-found
returns-clause-found c = found_by c.args.deployment.now c.args.bytes.now c.read_lines.result c.read_lines.ensures

pub returns-clause-only : goal.returns-clause-only
returns-clause-only c = only_so c.args.deployment.now c.args.bytes.now c.read_lines.result c.read_lines.ensures
