use Rattle.std.proofs.Common.{◌-◌, ◌^◌}
use Rattle.mrp_types.specs.Moves.{count_below}
use Rattle.mrp_config.specs.Config.{Config}
use Rattle.protocol.specs.Node.{StepSoFar, Service}
use Rattle.delivery.specs.Readied.{Fits}
use Rattle.delivery.proofs.Moves.{IsLater, Going}
use Rattle.delivery.proofs.ready.Ready.merge.Given as goal

-- what the step still has to do from here is the whole of what it has to do
abbrev pub invariant-places : goal.invariant-places
invariant-places g l = record {
  later : IsLater l.initial.self l.self;
  goes : (config : Config) (service : Service) (a : StepSoFar) → Fits config service a.view l.own (g.L.Learned.maps l.learned) l.initial.self →
      Going config service a l.initial.self.standing l.self.standing l.initial.lines l.lines l.initial.replies l.replies;
}

abbrev pub decreases-places : goal.decreases-places
decreases-places g l = 2 ^ 44 - count_below l.self.standing.tuple
