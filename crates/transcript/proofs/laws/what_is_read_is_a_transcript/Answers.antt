use Rattle.transcript.proofs.WholeLaws.{transcript_was}
use Rattle.transcript.proofs.laws.what_is_read_is_a_transcript.Goals as goal

pub returns : goal.returns
returns c = transcript_was
