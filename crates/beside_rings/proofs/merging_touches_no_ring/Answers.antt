use Rattle.beside_rings.proofs.Merge.{merges_untouched}
use Rattle.beside_rings.proofs.merging_touches_no_ring.Goals as goal

pub returns : goal.returns
returns c = merges_untouched
