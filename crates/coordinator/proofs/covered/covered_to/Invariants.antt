use Rattle.std.proofs.Common.{◌≡◌, ◌+◌, ◌/◌, max, drop, length}
use Rattle.protocol.specs.Ballots.{reached_by}
use Rattle.coordinator.proofs.covered.covered_to.Given as goal

-- the greatest so far, and what is still to come
abbrev pub invariant-loop-inst : goal.invariant-loop-inst
invariant-loop-inst l = max l.reached (reached_by (length l.covered / 2 + 1) l.covered (drop l.inst-index l.covered)) ≡ reached_by (length l.covered / 2 + 1) l.covered l.covered
