-- Change by change.
use Rattle.ring_kept.proofs.Keeping.{ring_taken}
use Rattle.ring_kept.proofs.changes_of_one_ring_count.Goals as goal

pub returns : goal.returns
returns c = ring_taken
