-- Which deployments and which events the step is built for so far.
use Rattle.std.specs.Prelude.{ℕ, ◌≡◌, Bool, true, false, not, List, [], ◌∷◌, All, Contains, position, Option}
use Rattle.mrp_types.specs.declared.id.NodeId.{NodeId}
use Rattle.mrp_config.specs.declared.tables.RingTable.{RingTable}
use Rattle.mrp_config.specs.declared.tables.PartitionTable.{PartitionTable}
use Rattle.mrp_config.specs.Config.{Config}
use Rattle.command_codec.specs.declared.command.Command.TheVariants.{Append}
use Rattle.schedule.specs.declared.event.ScheduleEvent.{ScheduleEvent}
use Rattle.schedule.specs.declared.event.ScheduleEvent.TheVariants.{Ask, Flow, Lose, Deliver, List as Shows}

-- each is among the others
abbrev pub AreSame : List NodeId → List NodeId → Type 0
AreSame xs ys = All (Contains ys) xs × All (Contains xs) ys

-- one ring, which is not levelled, and one partition, whose replicas are the acceptors in any order
pub record IsBuiltRing (config : Config) (ring : RingTable) : Type 0 where
  pub alone : config.rings ≡ ring ∷ []
  pub level : config.lambda ≡ 0
  pub replicas : (p : PartitionTable) × (config.partitions ≡ p ∷ []) × AreSame p.replicas ring.acceptors

abbrev pub IsBuilt : Config → Type 0
IsBuilt config = (ring : RingTable) × IsBuiltRing config ring

-- whether the step is built for the event
abbrev pub is_built_event : ScheduleEvent → Bool
is_built_event (Ask client (Append log value)) = true
is_built_event (Ask client other) = false
is_built_event (Flow count) = true
is_built_event (Lose count) = true
is_built_event (Deliver frame) = true
is_built_event (Shows frame) = true
is_built_event other = false

-- the index of the first event for which it isn't built
abbrev pub unbuilt_at : List ScheduleEvent → Option ℕ
unbuilt_at events = position (λ (event : ScheduleEvent). not (is_built_event event)) events
