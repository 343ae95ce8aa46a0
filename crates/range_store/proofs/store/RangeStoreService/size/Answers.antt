use Rattle.range_store.proofs.CallLaws.{size_is}
use Rattle.range_store.proofs.store.RangeStoreService.size.Goals as goal

pub returns : goal.returns
returns c = size_is _ _ c.self.inside.size c.self.view_is c.self.invariant.1
