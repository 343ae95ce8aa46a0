-- When a happening may happen, and runs of them.
use Rattle.std.specs.Prelude.{◌≡◌, ◌⊎◌, ℕ, ◌+◌, Bool, true, List, [], ◌∷◌, Option, Some, None, Ok}
use Rattle.mrp_types.specs.declared.id.NodeId.{NodeId}
use Rattle.mrp_types.specs.declared.id.ClientId.{ClientId}
use Rattle.mrp_types.specs.declared.id.Party.{Party}
use Rattle.mrp_types.specs.declared.id.Party.TheVariants.{Node, Client}
use Rattle.mrp_config.specs.Config.{Config, node_at, client_at, partition_of}
use Rattle.mrp_config.specs.declared.tables.NodeTable.{NodeTable}
use Rattle.mrp_config.specs.declared.tables.ClientTable.{ClientTable}
use Rattle.mrp_config.specs.declared.tables.PartitionTable.{PartitionTable}
use Rattle.frames.specs.declared.body.Body.{Body}
use Rattle.frames.specs.declared.frame.Frame.{Frame}
use Rattle.frames.specs.declared.sent.Sent.{Sent}
use Rattle.quorums.specs.Groups.{Has}
use Rattle.vote_state.specs.State.{State}
use Rattle.vote_journal.specs.Journal.{Journal}
use Rattle.checkpoint.specs.Checkpoints.{Checkpoint, Checkpoints}
use Rattle.plain_model.specs.Replicas.{Replica}
use Rattle.plain_model.specs.StateBytes.{whole_state}
use Rattle.plain_model.specs.Tuples.{round_sizes, is_tuple_of}
use Rattle.protocol.specs.Node.{Event, Takes}
use Rattle.protocol.specs.Client.{MayBeAsked}
use Rattle.bare_world.specs.Worlds.{Possible, Host, Up, Down, World, Happening, Steps, Breaks, Crashes, Opens, Fails, Asks, ClientTicks, ClientTakes, Shows, Lists, chosen, happens}

-- ---- frames

-- the frame was sent to this party
pub record WasSent (frames : List Sent) (to : Party) (frame : Frame) : Type 0 where
  pub sent : Sent
  pub there : Has frames sent
  pub by : sent.to ≡ to
  pub same : sent.frame ≡ frame

-- a frame that comes was sent, whenever that was, and however often it came before; ticks and orders to lead come at any time
abbrev pub MayCome : World → NodeId → Event → Type 0
MayCome w id (Takes frame) = WasSent w.frames (Node id) frame
MayCome w id other = Unit {0}

pub record BodyWasSent (frames : List Sent) (to : Party) (body : Body) : Type 0 where
  pub frame : Frame
  pub sent : WasSent frames to frame
  pub same : frame.body ≡ body

-- ---- who is there

abbrev pub IsNode : Config → NodeId → Type 0
IsNode config id = (table : NodeTable) × (node_at config.nodes id.0 ≡ Some table)

abbrev pub IsClient : Config → ClientId → Type 0
IsClient config id = (table : ClientTable) × (client_at config.clients id.0 ≡ Some table)

-- ---- openings

-- a replica's checkpoint is one of its partition: its tuple is a valid one there, and its bytes are a state
pub record IsReadable (config : Config) (p : PartitionTable) (newest : Checkpoint) : Type 0 where
  pub tuple : is_tuple_of (round_sizes config) p.rings newest.tuple ≡ true
  pub replica : Replica
  pub state : whole_state p newest.state ≡ Ok replica

-- an opening reads what stood, in an epoch more; it goes on only where a replica's checkpoint is readable
pub record MayOpen (config : Config) (id : NodeId) (stood : Possible) (journal : Journal) (checkpoints : Checkpoints) : Type 0 where
  pub node : IsNode config id
  pub epoch : journal.state.epoch ≡ stood.state.epoch + 1
  pub rings : journal.state.rings ≡ stood.state.rings
  pub newest : checkpoints.newest ≡ stood.newest
  pub readable : (p : PartitionTable) (newest : Checkpoint) → partition_of config.partitions id ≡ Some p → checkpoints.newest ≡ Some newest → IsReadable config p newest

-- an opening that failed has left what stood, or that in an epoch more
pub record MayLeave (stood left : Possible) : Type 0 where
  pub epoch : (left.state.epoch ≡ stood.state.epoch) ⊎ (left.state.epoch ≡ stood.state.epoch + 1)
  pub rings : left.state.rings ≡ stood.state.rings
  pub newest : left.newest ≡ stood.newest

-- what happens to a node that is up does nothing there, and needs nothing
abbrev pub MayOpenAt : Config → NodeId → Bool → Journal → Checkpoints → Host → Type 0
MayOpenAt config id after journal checkpoints (Up view) = Unit {0}
MayOpenAt config id after journal checkpoints (Down durable pending) = MayOpen config id (chosen after durable pending) journal checkpoints

abbrev pub MayLeaveAt : Bool → Possible → Host → Type 0
MayLeaveAt after left (Up view) = Unit {0}
MayLeaveAt after left (Down durable pending) = MayLeave (chosen after durable pending) left

-- ---- what may happen

abbrev pub MayHappen : Config → World → Happening → Type 0
MayHappen config w (Steps id event) = MayCome w id event
MayHappen config w (Breaks id event cause) = MayCome w id event
MayHappen config w (Crashes id cause) = Unit {0}
MayHappen config w (Opens id after journal checkpoints) = MayOpenAt config id after journal checkpoints (w.hosts id.0)
MayHappen config w (Fails id after left cause) = IsNode config id × MayLeaveAt after left (w.hosts id.0)
MayHappen config w (Asks id command) = IsClient config id × MayBeAsked command
MayHappen config w (ClientTicks id) = IsClient config id
MayHappen config w (ClientTakes id body) = IsClient config id × BodyWasSent w.frames (Client id) body
MayHappen config w (Shows id) = IsNode config id
MayHappen config w (Lists number shown) = Unit {0}

-- ---- runs

-- the world after all of them
abbrev pub run : Config → List Happening → World → World
run config [] w = w
run config (h ∷ hs) w = run config hs (happens config h w)

-- each may happen when its turn comes
abbrev pub MayRun : Config → World → List Happening → Type 0
MayRun config w [] = Unit {0}
MayRun config w (h ∷ hs) = MayHappen config w h × MayRun config (happens config h w) hs
