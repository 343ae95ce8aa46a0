use Rattle.state_laws.specs.States.{IsShort}
use Rattle.dlog_service.proofs.ValueLaws.{of_parts}
use Rattle.dlog_service.proofs.log.put_all.Goals as goal

pub put_values-requires : goal.put_values-requires
put_values-requires c = (of_parts IsShort _ _ _ c.as_slices.ensures.items c.requires).0

pub put_values-requires-2 : goal.put_values-requires-2
put_values-requires-2 c = (of_parts IsShort _ _ _ c.as_slices.ensures.items c.requires).1
