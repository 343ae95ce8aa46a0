use Rattle.std.proofs.Common.{◌≡◌, ◌≤◌, take, length}
use Rattle.std.specs.Prelude.{filter, not}
use Rattle.indexmap.specs.IndexSet.{contains}
use Rattle.mrp_types.specs.declared.value.Entry.{Entry}
use Rattle.coordinator.specs.declared.queue.Name.{Name}
use Rattle.coordinator.specs.Waiting.{same_name}
use Rattle.coordinator.proofs.queue.still_proposed.Given as goal

abbrev pub invariant-loop-at : goal.invariant-loop-at
invariant-loop-at l = record {
  same : l.count ≡ length (filter (λ (e : Name × Entry). not (contains same_name l.names e.0)) (take l.at l.waiting.entries));
  few : l.count ≤ l.at;
}
