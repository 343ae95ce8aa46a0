-- By induction on the events.
use Rattle.ring_safety.proofs.Worlds.{Sound-empty, Sound-run}
use Rattle.ring_safety.proofs.what_may_happen_is_sound.Goals as goal

pub returns-clause-at_first : goal.returns-clause-at_first
returns-clause-at_first g c = Sound-empty

pub returns-clause-onward : goal.returns-clause-onward
returns-clause-onward g c = Sound-run
