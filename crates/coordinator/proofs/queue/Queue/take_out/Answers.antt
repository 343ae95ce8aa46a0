use Rattle.indexmap.specs.IndexSet.{contains}
use Rattle.coordinator.specs.declared.queue.Name.{Name}
use Rattle.coordinator.specs.Waiting.{same_name}
use Rattle.coordinator.proofs.Waiting.{taken_out, left_named}
use Rattle.coordinator.proofs.queue.Queue.take_out.Goals as goal

pub invariant_of-self : goal.invariant_of-self
invariant_of-self c =
    left_named c.args.entries.now (λ (name : Name). contains same_name c.in_ok-names.names name) c.in_ok-names.ensures
    c.self.inside.proposed c.still_proposed-proposed.result c.self.inside.waiting.entries c.keep_others.new.waiting.entries c.self.invariant.1 c.still_proposed-proposed.ensures c.keep_others.ensures

pub returns-clause-ok : goal.returns-clause-ok
returns-clause-ok c =
    taken_out c.args.entries.now (λ (name : Name). contains same_name c.in_ok-names.names name) c.in_ok-names.ensures
    c.self.inside.proposed c.still_proposed-proposed.result c.self.inside.waiting.entries c.keep_others.new.waiting.entries c.args.self.now c.self.view_is c.self.invariant.1 c.still_proposed-proposed.ensures c.keep_others.ensures
