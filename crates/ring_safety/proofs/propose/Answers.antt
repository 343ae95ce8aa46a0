-- Each reachable world keeps the invariant, and so the rule.
use Rattle.ring_safety.proofs.Rules.{propose_holds}
use Rattle.ring_safety.proofs.Worlds.{Sound-reached}
use Rattle.ring_safety.proofs.propose.Goals as goal
use Rattle.ring_safety.specs.Worlds.{empty, run}

pub returns : goal.returns
returns g c = λ n events can. propose_holds n (run events empty) (Sound-reached n events can)
