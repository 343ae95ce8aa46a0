use Rattle.std.proofs.Common.{◌≡◌, length}
use Rattle.merge.specs.Learned.{maps_of}
use Rattle.merge_cases.proofs.shown.show.Given as goal

-- a learned map for each ring
abbrev pub invariant-loop-call : goal.invariant-loop-call
invariant-loop-call l = length (maps_of l.learners.learners.now) ≡ length l.merge.tuple
