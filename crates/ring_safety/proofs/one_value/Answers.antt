-- Each reachable world keeps the invariant, and so the rule.
use Rattle.ring_safety.proofs.Rules.{one_value_holds}
use Rattle.ring_safety.proofs.Worlds.{Sound-reached}
use Rattle.ring_safety.proofs.one_value.Goals as goal
use Rattle.ring_safety.specs.Worlds.{empty, run}

pub returns : goal.returns
returns g c = λ n early late can. one_value_holds n (run early empty) (Sound-reached n early can) late
