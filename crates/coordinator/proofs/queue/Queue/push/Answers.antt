use Rattle.std.proofs.Common.{◌∙◌, ◌++◌, ◌∷◌, [], false, List, ap}
use Rattle.mrp_types.specs.declared.value.Entry.{Entry}
use Rattle.protocol.specs.Parts.{Pending}
use Rattle.coordinator.specs.declared.queue.Name.{Name}
use Rattle.coordinator.specs.Waiting.{marked}
use Rattle.coordinator.proofs.Waiting.{one_waits, marked_more, one_named}
use Rattle.coordinator.proofs.queue.Queue.push.Goals as goal

pub invariant_of-self-2 : goal.invariant_of-self-2
invariant_of-self-2 c =
    one_named c.of.result c.args.entry c.self.inside.proposed c.self.inside.waiting.entries c.insert.new.self.entries
    (one_waits c.args.entry c.of.result c.self.inside.proposed c.self.inside.waiting.entries c.args.self.now c.self.view_is c.of.ensures c.self.invariant.1 c.requires.new c.insert.new.self.entries c.in_ok-insert.ensures.entries)
    c.of.ensures c.requires.entry c.self.invariant.0 c.self.invariant.1

pub returns-clause-ok : goal.returns-clause-ok
returns-clause-ok c =
    ap (λ (es : List (Name × Entry)). marked c.self.inside.proposed es)
    (one_waits c.args.entry c.of.result c.self.inside.proposed c.self.inside.waiting.entries c.args.self.now c.self.view_is c.of.ensures c.self.invariant.1 c.requires.new c.insert.new.self.entries c.in_ok-insert.ensures.entries)
    ∙ marked_more c.self.inside.proposed c.self.inside.waiting.entries (c.of.result, c.args.entry) c.self.invariant.0
    ∙ ap (λ (pending : List Pending). pending ++ (record { entry = c.args.entry; proposed = false }) ∷ []) c.self.view_is
