use Rattle.std.proofs.Common.{◌∙◌, Option, sym, ap}
use Rattle.protocol.specs.Parts.{Campaign}
use Rattle.coordinator.specs.Standing.{Led, role_of}
use Rattle.coordinator.proofs.Covering.{leads_of}
use Rattle.coordinator.proofs.coordinator.Coordinator.leads.Goals as goal

pub returns-in-Some : goal.returns-in-Some
returns-in-Some c = λ ring part stands.
    leads_of ring c.args.self.now part c.in-Some.campaign c.leads.result stands (ap (λ (l : Led). l.table.role) (sym c.self.view_is) ∙ ap (λ (o : Option Campaign). role_of o) c.in-Some.is) c.leads.ensures
