-- Whatever carries values or waiting commands, by a property of entries and rings: each entry in it has the property.
use Rattle.std.specs.Prelude.{◌≡◌, ℕ, List, slice_index_or, Option, Some, None}
use Rattle.std.specs.List.{AllByRecursion}
use Rattle.mrp_types.specs.declared.id.NodeId.{NodeId}
use Rattle.mrp_types.specs.declared.id.ClientId.{ClientId}
use Rattle.mrp_types.specs.declared.id.Party.{Party}
use Rattle.mrp_types.specs.declared.id.Party.TheVariants.{Node, Client}
use Rattle.mrp_types.specs.declared.value.Entry.{Entry}
use Rattle.mrp_types.specs.declared.value.Value.{Value}
use Rattle.mrp_types.specs.declared.value.Value.TheVariants.{Skip, Batch}
use Rattle.mrp_types.specs.declared.voted.Voted.{Voted}
use Rattle.mrp_types.specs.declared.voted.Decided.{Decided}
use Rattle.hex.specs.Hex.{IsBytes}
use Rattle.mrp_config.specs.declared.tables.PartitionTable.{PartitionTable}
use Rattle.command_codec.specs.Spelling.{batch_bytes, IsBatch}
use Rattle.frames.specs.declared.body.Body.{Body}
use Rattle.frames.specs.declared.body.Body.TheVariants.{Submit, Promise, Accept, Decide, Chosen, Part as PartFrame}
use Rattle.frames.specs.declared.sent.Sent.{Sent}
use Rattle.vote_state.specs.declared.cast.Cast.{Cast}
use Rattle.vote_state.specs.declared.change.Change.{Change}
use Rattle.vote_state.specs.declared.change.Change.TheVariants.{Epoch, Vote}
use Rattle.vote_state.specs.State.{State, no_votes}
use Rattle.checkpoint.specs.Checkpoints.{Checkpoint}
use Rattle.state_laws.specs.States.{HasFewLogs, IsSound}
use Rattle.protocol.specs.Lines.{Line, Learn}
use Rattle.protocol.specs.Parts.{Pending, Campaign, Role, Idle, Active, Part, Effects}
use Rattle.protocol.specs.Node.{RingPart, Choice, Stage, Recovering, Ready, Service, View, Event, Takes, Work, Records, Stepped, StepSoFar}
use Rattle.bare_world.specs.Worlds.{Possible, Host, Up, Down, World}

-- ---- values

-- These bytes are the one spelling of a batch, and each of its entries is so.
pub record BatchCarries (Is : ℕ → Entry → Type 0) (ring : ℕ) (batch : List ℕ) : Type 0 where
  pub entries : List Entry
  pub spelled : batch ≡ batch_bytes entries
  pub valid : IsBatch entries
  pub each : AllByRecursion (Is ring) entries

abbrev pub ValueCarries : (ℕ → Entry → Type 0) → ℕ → Value → Type 0
ValueCarries Is ring Skip = Unit {0}
ValueCarries Is ring (Batch batch) = BatchCarries Is ring batch

abbrev pub VotesCarry : (ℕ → Entry → Type 0) → ℕ → List (ℕ × Cast) → Type 0
VotesCarry Is ring votes = AllByRecursion (λ (e : ℕ × Cast). ValueCarries Is ring e.1.value) votes

abbrev pub HeldCarry : (ℕ → Entry → Type 0) → ℕ → List (ℕ × Value) → Type 0
HeldCarry Is ring held = AllByRecursion (λ (e : ℕ × Value). ValueCarries Is ring e.1) held

abbrev pub VotedCarry : (ℕ → Entry → Type 0) → ℕ → List Voted → Type 0
VotedCarry Is ring votes = AllByRecursion (λ (v : Voted). ValueCarries Is ring v.value) votes

abbrev pub RangesCarry : (ℕ → Entry → Type 0) → ℕ → List Decided → Type 0
RangesCarry Is ring ranges = AllByRecursion (λ (d : Decided). ValueCarries Is ring d.value) ranges

-- ---- a node

-- what is reported and proposed, and what waits
pub record CampaignCarries (Is : ℕ → Entry → Type 0) (ring : ℕ) (campaign : Campaign) : Type 0 where
  pub reports : VotesCarry Is ring campaign.reports
  pub outstanding : RangesCarry Is ring campaign.outstanding
  pub pending : AllByRecursion (λ (p : Pending). Is ring p.entry) campaign.pending

abbrev pub RoleCarries : (ℕ → Entry → Type 0) → ℕ → Role → Type 0
RoleCarries Is ring Idle = Unit {0}
RoleCarries Is ring (Active campaign) = CampaignCarries Is ring campaign

-- votes, the coordinator, and what was learned
pub record PartCarries (Is : ℕ → Entry → Type 0) (ring : ℕ) (part : Part) : Type 0 where
  pub votes : VotesCarry Is ring part.kept.votes
  pub role : RoleCarries Is ring part.coordinator.role
  pub held : HeldCarry Is ring part.learner.held

abbrev pub RingPartCarries : (ℕ → Entry → Type 0) → RingPart → Type 0
RingPartCarries Is p = PartCarries Is p.ring.id.0 p.part

-- the votes that a disk keeps, ring by ring
abbrev pub StateCarries : (ℕ → Entry → Type 0) → State → Type 0
StateCarries Is s = (ring : ℕ) → VotesCarry Is ring (slice_index_or s.rings ring no_votes).votes

-- ---- a replica

-- what came so far of a chosen checkpoint
abbrev pub GatheredKeeps : Option Choice → Type 0
GatheredKeeps None = Unit {0}
GatheredKeeps (Some choice) = IsBytes choice.bytes

abbrev pub StageKeeps : PartitionTable → Stage → Type 0
StageKeeps p (Recovering attempt) = GatheredKeeps attempt.choice
StageKeeps p (Ready standing) = IsSound p standing.replica

-- the partition has few logs, and the replica, where it is ready, keeps a valid state of bytes
pub record ServiceKeeps (service : Service) : Type 0 where
  pub logs : HasFewLogs service.partition
  pub stage : StageKeeps service.partition service.stage

abbrev pub ReplicaKeeps : Option Service → Type 0
ReplicaKeeps None = Unit {0}
ReplicaKeeps (Some service) = ServiceKeeps service

abbrev pub NewestKeeps : Option Checkpoint → Type 0
NewestKeeps None = Unit {0}
NewestKeeps (Some newest) = IsBytes newest.state

-- What is kept of replicas is said where `Valid` holds, which stands for what is asked of the deployment.
pub record ViewCarries (Is : ℕ → Entry → Type 0) (Valid : Type 0) (view : View) : Type 0 where
  pub state : StateCarries Is view.journal.state
  pub parts : AllByRecursion (RingPartCarries Is) view.parts
  pub replica : Valid → ReplicaKeeps view.service
  pub newest : Valid → NewestKeeps view.checkpoints.newest

-- ---- what a node makes

-- a step records no epoch
abbrev pub ChangeCarries : (ℕ → Entry → Type 0) → Change → Type 0
ChangeCarries Is (Epoch epoch) = ⊥
ChangeCarries Is (Vote ring v) = ValueCarries Is ring.0 v.value
ChangeCarries Is other = Unit {0}

abbrev pub WorkCarries : (ℕ → Entry → Type 0) → Work → Type 0
WorkCarries Is (Records changes) = AllByRecursion (ChangeCarries Is) changes
WorkCarries Is other = Unit {0}

abbrev pub LineCarries : (ℕ → Entry → Type 0) → Line → Type 0
LineCarries Is (Learn node ring lo hi value) = ValueCarries Is ring.0 value
LineCarries Is other = Unit {0}

-- the kinds of frames that carry commands, values, or a part of a state
abbrev pub BodyCarries : (ℕ → Entry → Type 0) → Type 0 → Body → Type 0
BodyCarries Is Valid (Submit ring hops client seq command) = Is ring.0 (record { client = client; seq = seq; command = command })
BodyCarries Is Valid (Promise ring ballot lo hi trim votes) = VotedCarry Is ring.0 votes
BodyCarries Is Valid (Accept ring ballot lo hi mask value) = ValueCarries Is ring.0 value
BodyCarries Is Valid (Decide ring lo hi left value) = ValueCarries Is ring.0 value
BodyCarries Is Valid (Chosen ring ranges) = RangesCarry Is ring.0 ranges
BodyCarries Is Valid (PartFrame epoch attempt tuple offset total bytes) = Valid → IsBytes bytes
BodyCarries Is Valid other = Unit {0}

-- a client sends its own commands alone, and no other client's
abbrev pub ClientSends : (ℕ → Entry → Type 0) → ClientId → Body → Type 0
ClientSends Is id (Submit ring hops client seq command) = (hops ≡ 0) × (client ≡ id) × Is ring.0 (record { client = client; seq = seq; command = command })
ClientSends Is id other = ⊥

abbrev pub PartyCarries : (ℕ → Entry → Type 0) → Type 0 → Party → Body → Type 0
PartyCarries Is Valid (Node id) body = BodyCarries Is Valid body
PartyCarries Is Valid (Client id) body = ClientSends Is id body

abbrev pub SentCarries : (ℕ → Entry → Type 0) → Type 0 → Sent → Type 0
SentCarries Is Valid sent = PartyCarries Is Valid sent.frame.from sent.frame.body

-- a frame that comes
abbrev pub EventCarries : (ℕ → Entry → Type 0) → Type 0 → Event → Type 0
EventCarries Is Valid (Takes frame) = PartyCarries Is Valid frame.from frame.body
EventCarries Is Valid other = Unit {0}

-- a rule of a ring
pub record EffectsCarry (Is : ℕ → Entry → Type 0) (Valid : Type 0) (ring : ℕ) (effects : Effects) : Type 0 where
  pub part : PartCarries Is ring effects.part
  pub changes : AllByRecursion (ChangeCarries Is) effects.changes
  pub frames : AllByRecursion (SentCarries Is Valid) effects.frames
  pub lines : AllByRecursion (LineCarries Is) effects.lines
  pub learned : RangesCarry Is ring effects.learned

-- a step on its way
pub record ActCarries (Is : ℕ → Entry → Type 0) (Valid : Type 0) (a : StepSoFar) : Type 0 where
  pub view : ViewCarries Is Valid a.view
  pub changes : AllByRecursion (ChangeCarries Is) a.changes
  pub frames : AllByRecursion (SentCarries Is Valid) a.frames
  pub replies : AllByRecursion (SentCarries Is Valid) a.replies
  pub lines : AllByRecursion (LineCarries Is) a.lines

-- a step
pub record StepCarries (Is : ℕ → Entry → Type 0) (Valid : Type 0) (effects : Stepped) : Type 0 where
  pub view : ViewCarries Is Valid effects.view
  pub work : WorkCarries Is effects.work
  pub frames : AllByRecursion (SentCarries Is Valid) effects.frames
  pub lines : AllByRecursion (LineCarries Is) effects.lines

-- ---- a world

-- what a disk may stand for
pub record PossibleCarries (Is : ℕ → Entry → Type 0) (Valid : Type 0) (p : Possible) : Type 0 where
  pub state : StateCarries Is p.state
  pub newest : Valid → NewestKeeps p.newest

abbrev pub HostCarries : (ℕ → Entry → Type 0) → Type 0 → Host → Type 0
HostCarries Is Valid (Up view) = ViewCarries Is Valid view
HostCarries Is Valid (Down durable pending) = PossibleCarries Is Valid durable × PossibleCarries Is Valid pending

-- every node, every frame, every line, and what was ever recorded and read
pub record WorldCarries (Is : ℕ → Entry → Type 0) (Valid : Type 0) (w : World) : Type 0 where
  pub hosts : (k : ℕ) → HostCarries Is Valid (w.hosts k)
  pub frames : AllByRecursion (SentCarries Is Valid) w.frames
  pub lines : AllByRecursion (LineCarries Is) w.lines
  pub works : AllByRecursion (λ (x : NodeId × Work). WorkCarries Is x.1) w.works
  pub read : AllByRecursion (λ (x : NodeId × State). StateCarries Is x.1) w.read
