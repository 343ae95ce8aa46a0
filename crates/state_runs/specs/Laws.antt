-- The words in which the laws of every run are said.
use Rattle.std.specs.Prelude.{◌≡◌, ℕ, List, Option, Some}
use Rattle.mrp_types.specs.declared.id.NodeId.{NodeId}
use Rattle.mrp_types.specs.declared.id.ClientId.{ClientId}
use Rattle.mrp_types.specs.declared.id.PartitionId.{PartitionId}
use Rattle.mrp_types.specs.declared.id.RingId.{RingId}
use Rattle.mrp_types.specs.declared.id.Party.TheVariants.{Node}
use Rattle.mrp_config.specs.Config.{Config}
use Rattle.mrp_config.specs.declared.tables.PartitionTable.{PartitionTable}
use Rattle.frames.specs.declared.sent.Sent.{Sent}
use Rattle.protocol.specs.Lines.{Line, Frame}
use Rattle.protocol.specs.Node.{Attempt, Choice, Ready, Recovering, Service, Standing, View}
use Rattle.bare_world.specs.Worlds.{Up, Happening}
use Rattle.line_runs.specs.Laws.{host_of}
use Rattle.state_steps.specs.Folded.{IsFoldReply, IsPartAt}

-- ---- lines

-- no frame is listed by it
abbrev pub IsUnlisted : Line → Type 0
IsUnlisted (Frame number shown) = ⊥
IsUnlisted other = Unit {0}

-- ---- frames

-- a node sent it, and it is the fold's
pub record SentReply (c : Config) (lines : List Line) (sent : Sent) (client : ClientId) (seq : ℕ) (partition : PartitionId) (bytes : List ℕ) : Type 0 where
  pub from : NodeId
  pub by : sent.frame.from ≡ Node from
  pub folded : IsFoldReply c lines from client seq partition bytes

-- a node sent it, and it is of the state at the tuple
pub record SentPart (c : Config) (lines : List Line) (sent : Sent) (tuple : List (RingId × ℕ)) (offset total : ℕ) (bytes : List ℕ) : Type 0 where
  pub from : NodeId
  pub by : sent.frame.from ≡ Node from
  pub part : IsPartAt c lines from tuple offset total bytes

-- ---- replicas

-- after this run a node is up, and a replica of this partition
pub record Serves (c : Config) (hs : List Happening) (n : ℕ) (p : PartitionTable) (service : Service) : Type 0 where
  pub view : View
  pub up : host_of c hs n ≡ Up view
  pub there : view.service ≡ Some service
  pub partition : service.partition ≡ p

-- and it is ready: it stands at this tuple, with this replica
pub record IsReady (c : Config) (hs : List Happening) (n : ℕ) (p : PartitionTable) (standing : Standing) : Type 0 where
  pub service : Service
  pub serves : Serves c hs n p service
  pub ready : service.stage ≡ Ready standing

-- and it has chosen a checkpoint, of which some bytes came so far
pub record HasChosen (c : Config) (hs : List Happening) (n : ℕ) (p : PartitionTable) (choice : Choice) : Type 0 where
  pub service : Service
  pub serves : Serves c hs n p service
  pub attempt : Attempt
  pub recovers : service.stage ≡ Recovering attempt
  pub chosen : attempt.choice ≡ Some choice
