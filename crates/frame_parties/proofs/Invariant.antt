-- What every run keeps of the names in frames, views and hosts.
use Rattle.std.specs.Prelude.{◌≡◌, ℕ, List, Option, Some, None}
use Rattle.std.specs.List.{AllByRecursion}
use Rattle.mrp_types.specs.declared.id.NodeId.{NodeId}
use Rattle.mrp_types.specs.declared.id.RingId.{RingId}
use Rattle.mrp_types.specs.declared.id.Party.{Party}
use Rattle.mrp_types.specs.declared.id.Party.TheVariants.{Node, Client}
use Rattle.mrp_config.specs.Config.{Config}
use Rattle.mrp_config.specs.declared.tables.NodeTable.{NodeTable}
use Rattle.mrp_config.specs.declared.tables.RingTable.{RingTable}
use Rattle.mrp_config.specs.declared.tables.PartitionTable.{PartitionTable}
use Rattle.frames.specs.declared.body.Body.{Body}
use Rattle.frames.specs.declared.body.Body.TheVariants.{Reply}
use Rattle.frames.specs.declared.sent.Sent.{Sent}
use Rattle.protocol.specs.Parts.{Ring}
use Rattle.protocol.specs.Rings.{replicas_of}
use Rattle.protocol.specs.Node.{RingPart, Choice, Stage, Recovering, Ready, Service, View, Event, Takes, StepSoFar}
use Rattle.bare_world.specs.Worlds.{Host, Up, Down, World}
use Rattle.line_rules.specs.Rules.{HasNode, HasClient, HasParty}

abbrev pub AreThere : Config → List NodeId → Type 0
AreThere c nodes = AllByRecursion (HasNode c) nodes

-- ---- frames

-- Between nodes of the deployment, or from a client of it to a node of it, or a reply of a node to the client that it names. That this
-- client is one of the deployment follows from the entries that were asked.
abbrev pub GoesBetween : Config → Party → Party → Body → Type 0
GoesBetween c (Node from) (Node to) body = HasNode c from × HasNode c to
GoesBetween c (Node from) (Client to) (Reply client seq partition reply) = HasNode c from × (to ≡ client)
GoesBetween c (Client from) (Node to) body = HasClient c from × HasNode c to
GoesBetween c from to body = ⊥

abbrev pub IsAddressed : Config → Sent → Type 0
IsAddressed c sent = GoesBetween c sent.frame.from sent.to sent.frame.body

abbrev pub AreAddressed : Config → List Sent → Type 0
AreAddressed c frames = AllByRecursion (IsAddressed c) frames

-- ---- the deployment

-- each node that its lists name is there
pub record IsClosed (c : Config) : Type 0 where
  pub nodes : AllByRecursion (λ (t : NodeTable). HasNode c t.id) c.nodes
  pub acceptors : AllByRecursion (λ (t : RingTable). AreThere c t.acceptors) c.rings
  pub replicas : AllByRecursion (λ (p : PartitionTable). AreThere c p.replicas) c.partitions

-- ---- what a node keeps

-- each node that a ring names is there
pub record RingNamed (c : Config) (ring : Ring) : Type 0 where
  pub own : HasNode c ring.own
  pub acceptors : AreThere c ring.acceptors
  pub members : AreThere c ring.members
  pub replicas : AreThere c (replicas_of ring.subscribers)

abbrev pub MemberNamed : Config → RingPart → Type 0
MemberNamed c p = RingNamed c p.ring

abbrev pub AnswerNamed : Config → NodeId × List (RingId × ℕ) → Type 0
AnswerNamed c answer = HasNode c answer.0

abbrev pub ChoiceNamed : Config → Option Choice → Type 0
ChoiceNamed c None = Unit {0}
ChoiceNamed c (Some choice) = HasNode c choice.from

-- of an attempt, those that answered, and the one that was chosen
abbrev pub StageNamed : Config → Stage → Type 0
StageNamed c (Recovering attempt) = AllByRecursion (AnswerNamed c) attempt.answers × ChoiceNamed c attempt.choice
StageNamed c (Ready standing) = Unit {0}

pub record ServiceNamed (c : Config) (service : Service) : Type 0 where
  pub replicas : AreThere c service.partition.replicas
  pub stage : StageNamed c service.stage

abbrev pub ReplicaNamed : Config → Option Service → Type 0
ReplicaNamed c None = Unit {0}
ReplicaNamed c (Some service) = ServiceNamed c service

pub record ViewNamed (c : Config) (view : View) : Type 0 where
  pub own : HasNode c view.id
  pub rings : AllByRecursion (MemberNamed c) view.parts
  pub replica : ReplicaNamed c view.service

-- ---- a step

-- a step on its way
pub record ActNamed (c : Config) (a : StepSoFar) : Type 0 where
  pub own : HasNode c a.view.id
  pub rings : AllByRecursion (MemberNamed c) a.view.parts
  pub replica : ReplicaNamed c a.view.service
  pub frames : AreAddressed c a.frames
  pub replies : AreAddressed c a.replies

-- a frame that comes is a party's
abbrev pub EventNamed : Config → Event → Type 0
EventNamed c (Takes frame) = HasParty c frame.from
EventNamed c other = Unit {0}

-- ---- a world

abbrev pub HostNamed : Config → Host → Type 0
HostNamed c (Up view) = ViewNamed c view
HostNamed c (Down durable pending) = Unit {0}

pub record WorldNamed (c : Config) (w : World) : Type 0 where
  pub frames : AreAddressed c w.frames
  pub hosts : (n : ℕ) → HostNamed c (w.hosts n)
