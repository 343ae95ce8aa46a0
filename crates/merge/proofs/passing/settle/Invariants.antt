use Rattle.std.proofs.Common.{ℕ, ◌≡◌, ◌<◌, ◌≤◌, slice_index_or}
use Rattle.mrp_types.specs.Rounds.{size_of}
use Rattle.merge.proofs.Turns.{none}
use Rattle.merge.proofs.Settled.{settled_front}
use Rattle.merge.proofs.passing.settle.Given as goal

-- those before i are settled
abbrev pub invariant-loop-i : goal.invariant-loop-i
invariant-loop-i l = record {
  settled : l.pairs ≡ settled_front (size_of l.m) l.place l.i l.initial.pairs;
  sized : (k : ℕ) → k < l.i → 1 ≤ size_of l.m (slice_index_or l.initial.pairs k none).0.0;
}
