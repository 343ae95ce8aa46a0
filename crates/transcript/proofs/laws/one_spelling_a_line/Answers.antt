use Rattle.transcript.proofs.LineLaws.{one_line}
use Rattle.transcript.proofs.laws.one_spelling_a_line.Goals as goal

pub returns : goal.returns
returns c = one_line
