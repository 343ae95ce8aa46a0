use Rattle.answer_runs.proofs.Sent.{frames_reply}
use Rattle.answer_runs.proofs.frames_carry_replies.Goals as goal

pub returns : goal.returns
returns c = frames_reply
