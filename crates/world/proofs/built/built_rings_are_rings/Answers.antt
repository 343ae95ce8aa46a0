use Rattle.world.proofs.Rings.{built_ring_is}
use Rattle.world.proofs.built.built_rings_are_rings.Goals as goal

pub returns : goal.returns
returns c = built_ring_is
