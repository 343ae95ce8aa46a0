-- Each reachable world keeps the invariant, and so the rule.
use Rattle.ring_safety.proofs.Rules.{stays_holds}
use Rattle.ring_safety.proofs.Worlds.{Sound-reached}
use Rattle.ring_safety.proofs.stays.Goals as goal
use Rattle.ring_safety.specs.Worlds.{empty, run}

pub returns : goal.returns
returns g c = λ n early late can. stays_holds n (run early empty) (Sound-reached n early can) late
