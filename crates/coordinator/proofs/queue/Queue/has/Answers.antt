use Rattle.std.proofs.Common.{◌∙◌, refl, ap}
use Rattle.std.specs.Prelude.{List}
use Rattle.protocol.specs.Parts.{Pending}
use Rattle.protocol.specs.Coordinator.{is_pending}
use Rattle.coordinator.specs.declared.queue.Name.{Name}
use Rattle.coordinator.specs.Waiting.{same_name}
use Rattle.coordinator.proofs.Waiting.{found_waits}
use Rattle.coordinator.proofs.queue.Queue.has.Goals as goal

pub returns : goal.returns
returns c = λ command.
    c.contains_key.ensures
    ∙ found_waits (record { client = c.args.client; seq = c.args.seq; command = command }) (λ (other : Name). same_name (record { client = c.args.client; seq = c.args.seq }) other) (λ other. refl) c.self.inside.proposed c.self.inside.waiting.entries c.self.invariant.1
    ∙ ap (λ (pending : List Pending). is_pending (record { client = c.args.client; seq = c.args.seq; command = command }) pending) c.self.view_is
