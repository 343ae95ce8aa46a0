use Rattle.std.proofs.Common.{[]}
use Rattle.world.specs.System.{trace}
use Rattle.world.proofs.Exact.{in_turn}
use Rattle.world.proofs.Worlds.{trace_is_exact}
use Rattle.world.proofs.laws.deliveries_are_in_turn.Goals as goal

pub returns : goal.returns
returns c = λ ring events node. in_turn ring [] (trace ring events) node (trace_is_exact ring events)
