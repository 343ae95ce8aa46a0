use Rattle.transcript.proofs.LineLaws.{line_of_bytes}
use Rattle.transcript.proofs.laws.lines_are_read.Goals as goal

pub returns : goal.returns
returns c = line_of_bytes
