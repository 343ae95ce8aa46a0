use Rattle.std.proofs.Common.{◌∙◌, ◌||◌, sym, ap, take}
use Rattle.indexmap.specs.IndexSet.{contains}
use Rattle.coordinator.specs.declared.queue.Name.{Name}
use Rattle.coordinator.specs.Waiting.{same_name, is_named}
use Rattle.coordinator.proofs.Waiting.{name_added, named_more}
use Rattle.coordinator.proofs.queue.names_of.Goals as goal

pub loop-entry-preserved : goal.loop-entry-preserved
loop-entry-preserved c = λ name.
    name_added name c.of.result (contains same_name c.loop-entry.names name) (contains same_name c.insert.new.self name) (is_named name (take c.loop-entry.entry-index c.args.entries.now))
    (c.in_ok-insert.ensures.updates.0 name) (c.loop-entry.invariant name)
    ∙ ap (λ (own : Name). is_named name (take c.loop-entry.entry-index c.args.entries.now) || same_name name own) c.of.ensures
    ∙ sym (named_more name c.args.entries.now c.loop-entry.entry-index c.entry-item.result c.entry-item.result c.loop-entry-test.true c.entry-item.is)
