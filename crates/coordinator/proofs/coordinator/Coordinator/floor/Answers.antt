use Rattle.std.proofs.Common.{ℕ, ◌∙◌, max, sym, ap}
use Rattle.protocol.specs.Parts.{Coordinator}
use Rattle.coordinator.specs.Standing.{Led}
use Rattle.ring_view.proofs.ViewLemmas.{promise_read}
use Rattle.coordinator.proofs.coordinator.Coordinator.floor.Goals as goal

pub returns : goal.returns
returns c = λ ring link part shows table.
    c.max.ensures
    ∙ ap (λ (n : ℕ). max n c.self.inside.top) (sym (promise_read c.args.view.now c.args.durable.now c.args.changes.now ring link part shows c.promise_after.result c.items.result.now c.items.ensures c.promise_after.ensures.promise))
    ∙ ap (λ (n : ℕ). max part.kept.promise n) (ap (λ (l : Led). l.table.top) c.self.view_is ∙ ap (λ (t : Coordinator). t.top) table)
