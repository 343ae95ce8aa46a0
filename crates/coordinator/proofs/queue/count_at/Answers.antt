use Rattle.std.proofs.Common.{true, false, Bool, sym, ap}
use Rattle.std.specs.Prelude.{not}
use Rattle.indexmap.specs.IndexSet.{contains}
use Rattle.mrp_types.specs.declared.value.Entry.{Entry}
use Rattle.coordinator.specs.declared.queue.Name.{Name}
use Rattle.coordinator.specs.Waiting.{same_name}
use Rattle.coordinator.proofs.Waiting.{one_gone}
use Rattle.coordinator.proofs.queue.count_at.Goals as goal

pub returns-then-contains-clause-counted : goal.returns-then-contains-clause-counted
returns-then-contains-clause-counted c =
    one_gone (λ (e : Name × Entry). not (contains same_name c.args.names.now e.0)) c.args.at c.args.waiting.now.entries (c.in-Some.name.now, c.in-Some.field-0-1.now) false
    c.in-Some.ensures.entry (ap (λ (b : Bool). not b) (sym c.if-contains.ensures))

pub returns-clause-counted : goal.returns-clause-counted
returns-clause-counted c =
    one_gone (λ (e : Name × Entry). not (contains same_name c.args.names.now e.0)) c.args.at c.args.waiting.now.entries (c.in-Some.name.now, c.in-Some.field-0-1.now) true
    c.in-Some.ensures.entry (ap (λ (b : Bool). not b) (sym c.if-contains.ensures))
