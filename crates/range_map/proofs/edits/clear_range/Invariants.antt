use Rattle.std.proofs.Common.{◌≡◌, ℕ, ◌<◌, ◌≤◌}
use Rattle.std.specs.BTreeMap.{btree_map_len}
use Rattle.range_map.specs.Runs.{run_from, IsPlacedFrom}
use Rattle.range_map.proofs.edits.clear_range.Given as goal

abbrev pub invariant-loop-first : goal.invariant-loop-first
invariant-loop-first g l = record {
  placed : IsPlacedFrom 0 l.initial.runs.entries → IsPlacedFrom 0 l.runs.entries;
  before : (a : ℕ) → a < l.lo → run_from l.runs.entries a ≡ run_from l.initial.runs.entries a;
  after : (a : ℕ) → l.hi ≤ a → run_from l.runs.entries a ≡ run_from l.initial.runs.entries a;
}

abbrev pub decreases-loop-first : goal.decreases-loop-first
decreases-loop-first g l = btree_map_len l.runs
