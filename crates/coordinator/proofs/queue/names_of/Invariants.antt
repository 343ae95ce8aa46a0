use Rattle.std.proofs.Common.{◌≡◌, take}
use Rattle.coordinator.specs.declared.queue.Name.{Name}
use Rattle.coordinator.specs.Waiting.{same_name, is_named}
use Rattle.indexmap.specs.IndexSet.{contains}
use Rattle.coordinator.proofs.queue.names_of.Given as goal

-- those so far
abbrev pub invariant-loop-entry : goal.invariant-loop-entry
invariant-loop-entry l = (name : Name) → contains same_name l.names name ≡ is_named name (take l.entry-index l.entries)
