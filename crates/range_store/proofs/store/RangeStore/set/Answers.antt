use Rattle.range_store.specs.Table.{seen}
use Rattle.range_store.proofs.StoreLaws.{set_fits, set_kept}
use Rattle.range_store.proofs.store.RangeStore.set.Goals as goal

pub overflow_sub-self-inside : goal.overflow_sub-self-inside
overflow_sub-self-inside c = set_fits (seen c.self.inside.entries.entries) c.args.self.now c.args.key.now c.self.inside.size c.held-held.result c.self.view_is c.self.invariant.0 c.self.invariant.1 c.held-held.ensures.size

pub invariant_of-self-2 : goal.invariant_of-self-2
invariant_of-self-2 c =
    set_kept (seen c.self.inside.entries.entries) c.args.self.now _ c.args.key.now c.args.value.now c.self.inside.size c.held-held.result c.in-Some.size c.self.view_is c.self.invariant.0 c.self.invariant.1
    c.held-held.ensures.size c.requires.key c.requires.value c.in-Some.ensures.1 c.in_ok-put.ensures.ok
