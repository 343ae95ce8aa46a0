use Rattle.std.proofs.Common.{◌≡◌, List, length, sym, ap, subst, arith}
use Rattle.mrp_types.specs.declared.value.Entry.{Entry}
use Rattle.command_codec.specs.Spelling.{IsBatch}
use Rattle.protocol.specs.Parts.{Campaign}
use Rattle.protocol.specs.Proposing.{unproposed}
use Rattle.coordinator.proofs.Batching.{fresh_batch, fresh_few, not_true}
use Rattle.coordinator.proofs.campaign.Campaign.fresh.Goals as goal

pub write_batch-requires : goal.write_batch-requires
write_batch-requires c =
    subst (λ (l : List Entry). IsBatch l) (sym c.items.ensures)
    (fresh_batch c.self.inside.queue c.in_ok-entries.entries c.in_ok-entries.ensures.entries c.in_ok-entries.ensures.valid (λ none. not_true c.is_empty.result c.if-is_empty.false (c.is_empty.ensures.1 none)))

pub returns-clause-taken : goal.returns-clause-taken
returns-clause-taken c =
    let count = c.len.ensures in
    let few = fresh_few c.self.inside.queue c.in_ok-entries.entries c.in_ok-entries.ensures.entries in
    let left : length (unproposed c.self.inside.queue) ≡ length (unproposed c.args.self.now.pending) = ap (λ (x : Campaign). length (unproposed x.pending)) c.self.view_is in
    omega arith
