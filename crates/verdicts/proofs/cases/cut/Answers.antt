use Rattle.verdicts.proofs.Cuts.{cuts}
use Rattle.verdicts.proofs.cases.cut.Goals as goal

pub returns : goal.returns
returns c = cuts c.args.case.now c.split_once.result c.split_once.ensures.cases
