use Rattle.line_rules.proofs.OneMore.{reads_same, reads_on}
use Rattle.line_rules.proofs.laws.one_line_more.Goals as goal

pub returns-clause-others : goal.returns-clause-others
returns-clause-others c = reads_same

pub returns-clause-own : goal.returns-clause-own
returns-clause-own c = reads_on
