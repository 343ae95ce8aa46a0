use Rattle.frame_parties.proofs.Runs.{frames_of_parties}
use Rattle.frame_parties.proofs.every_frame_is_of_the_deployment.Goals as goal

pub returns : goal.returns
returns c = frames_of_parties
