-- What a ready replica is seen as, and for which service of a node it stands.
use Rattle.std.specs.Prelude.{ℕ, ◌≡◌, ◌<◌, List}
use Rattle.mrp_types.specs.declared.id.NodeId.{NodeId}
use Rattle.mrp_types.specs.declared.value.Value.{Value}
use Rattle.mrp_types.specs.declared.place.Place.{Place}
use Rattle.mrp_types.specs.Rounds.{size_of}
use Rattle.mrp_types.specs.Moves.{count_below, rings_of}
use Rattle.mrp_config.specs.declared.tables.PartitionTable.{PartitionTable}
use Rattle.mrp_config.specs.Config.{Config}
use Rattle.plain_model.specs.Tuples.{round_sizes}
use Rattle.frames.specs.declared.sent.Sent.{Sent}
use Rattle.protocol.specs.Lines.{Line}
use Rattle.protocol.specs.Node.{StepSoFar, View, Service, Standing}
use Rattle.merge.specs.declared.passing.Next.{Next}
use Rattle.merge.specs.declared.passing.Next.TheVariants.{Deliver, Wait}
use Rattle.merge.specs.Steps.{Agree}

-- the partition, the sizes of the rounds by the rings' numbers, and where the replica stands
pub record Readied : Type 0 where
  pub partition : PartitionTable
  pub sizes : List ℕ
  pub standing : Standing

-- the sizes of the rounds are the deployment's
abbrev pub AreSizesOf : Config → List ℕ → Type 0
AreSizesOf config sizes = (ring : ℕ) → ring < 256 → size_of sizes ring ≡ round_sizes config ring

-- The replica is that of a service of a node with a view, and the maps hold what the view has learned of the replica's rings.
pub record Fits (config : Config) (service : Service) (view : View) (node : NodeId) (maps : List (List (ℕ × Value))) (ready : Readied) : Type 0 where
  pub own : view.id ≡ node
  pub partition : service.partition ≡ ready.partition
  pub sizes : AreSizesOf config ready.sizes
  pub learned : Agree view (rings_of ready.standing.tuple) maps

-- a step on its way with these lines and replies
abbrev pub with_all : List Line → List Sent → StepSoFar → StepSoFar
with_all lines replies a = record a { lines = lines; replies = replies }

-- the place that is to be delivered isn't counted among those that were
abbrev pub IsBehind : Standing → Next → Type 0
IsBehind standing (Deliver place) = standing.delivered < count_below standing.tuple
IsBehind standing (Wait ring) = Unit {0}
