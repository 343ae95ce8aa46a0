use Rattle.std.proofs.Common.{◌≡◌, ℕ, ◌<◌, ◌≤◌, get_or}
use Rattle.ring_link.specs.Silence.{longer}
use Rattle.ring_link.proofs.link.grow.Given as goal

abbrev pub invariant-loop-count : goal.invariant-loop-count
invariant-loop-count l = record {
  below : (k : ℕ) → k < l.count-index → get_or l.quiet k 0 ≡ longer (get_or l.initial.quiet k 0);
  above : (k : ℕ) → l.count-index ≤ k → get_or l.quiet k 0 ≡ get_or l.initial.quiet k 0;
}
