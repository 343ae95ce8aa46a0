use Rattle.delivery.proofs.Found.{AreOthers}
use Rattle.delivery.proofs.ready.Ready.entries_at.Given as goal

-- none of the rings so far is the place's
abbrev pub invariant-loop-i : goal.invariant-loop-i
invariant-loop-i g l = AreOthers l.i l.pairs l.place.ring
