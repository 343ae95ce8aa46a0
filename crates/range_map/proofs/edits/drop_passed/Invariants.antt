use Rattle.std.specs.BTreeMap.{btree_map_len}
use Rattle.range_map.specs.Runs.{Drops}
use Rattle.range_map.proofs.edits.drop_passed.Given as goal

abbrev pub invariant-loop-run : goal.invariant-loop-run
invariant-loop-run g l = Drops l.floor l.initial.runs.entries l.runs.entries

abbrev pub decreases-loop-run : goal.decreases-loop-run
decreases-loop-run g l = btree_map_len l.runs
