-- Deed by deed.
use Rattle.ring_safety.proofs.Deeds.{Grows-done, Local-all_done}
use Rattle.ring_safety.proofs.deeds_keep_the_invariant.Goals as goal

pub returns-clause-keep : goal.returns-clause-keep
returns-clause-keep g c = Local-all_done

pub returns-clause-grow : goal.returns-clause-grow
returns-clause-grow g c = Grows-done
