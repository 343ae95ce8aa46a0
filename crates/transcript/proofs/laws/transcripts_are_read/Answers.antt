use Rattle.transcript.proofs.WholeLaws.{transcript_read}
use Rattle.transcript.proofs.laws.transcripts_are_read.Goals as goal

pub returns : goal.returns
returns c = transcript_read
