use Rattle.std.proofs.Common.{arith}
use Rattle.range_store.specs.Table.{seen}
use Rattle.range_store.proofs.StoreLaws.{held_short}
use Rattle.range_store.proofs.store.RangeStore.held.Goals as goal

pub overflow_add-result : goal.overflow_add-result
overflow_add-result c = omega (arith, held_short c.args.key.now _ (seen c.self.inside.entries.entries) c.self.invariant.0 c.in-Some.ensures, c.requires.1, c.len.ensures)

pub overflow_add-result-in-Some : goal.overflow_add-result-in-Some
overflow_add-result-in-Some c = omega (arith, held_short c.args.key.now _ (seen c.self.inside.entries.entries) c.self.invariant.0 c.in-Some.ensures, c.requires.1, c.len.ensures)

pub returns-in-Some-clause-small : goal.returns-in-Some-clause-small
returns-in-Some-clause-small c = omega (arith, held_short c.args.key.now _ (seen c.self.inside.entries.entries) c.self.invariant.0 c.in-Some.ensures, c.requires.1, c.len.ensures)
