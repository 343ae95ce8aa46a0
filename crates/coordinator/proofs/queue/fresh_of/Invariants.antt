use Rattle.std.proofs.Common.{◌≡◌, ◌++◌, drop, map}
use Rattle.std.specs.List.{AllByRecursion}
use Rattle.mrp_types.specs.declared.value.Entry.{Entry}
use Rattle.mrp_types.specs.Entries.{IsEntry}
use Rattle.plain_model.specs.Pages.{front_within}
use Rattle.protocol.specs.Proposing.{entry_size}
use Rattle.coordinator.specs.declared.queue.Name.{Name}
use Rattle.coordinator.proofs.queue.fresh_of.Given as goal

-- the commands so far, and those that still have room
abbrev pub invariant-loop-at : goal.invariant-loop-at
invariant-loop-at l = record {
  front : l.fresh.items ++ front_within entry_size l.room (map (λ (e : Name × Entry). e.1) (drop l.at l.waiting.entries))
      ≡ front_within entry_size 8189 (map (λ (e : Name × Entry). e.1) (drop l.begin l.waiting.entries));
  valid : AllByRecursion IsEntry l.fresh.items;
}
