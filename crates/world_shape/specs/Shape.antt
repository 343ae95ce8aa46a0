-- The shape of a world without bytes, and the widths of all that is in it, as one definition.
use Rattle.std.specs.Prelude.{◌≡◌, ℕ, ◌-◌, ◌<◌, ◌≤◌, ◌^◌, false, List, map, filter, length, Option, Some, None}
use Rattle.std.specs.List.{AllByRecursion}
use Rattle.mrp_types.specs.declared.id.NodeId.{NodeId}
use Rattle.mrp_types.specs.declared.id.RingId.{RingId}
use Rattle.mrp_types.specs.declared.id.TheConstants.{END}
use Rattle.mrp_config.specs.Config.{Config, partition_of}
use Rattle.mrp_config.specs.declared.tables.PartitionTable.{PartitionTable}
use Rattle.range_map.specs.Entries.{IsIncreasingFrom}
use Rattle.vote_state.specs.State.{State, IsKept, IsState, ring_at}
use Rattle.vote_state.specs.Valid.{IsChange}
use Rattle.frames.specs.declared.body.Body.{Body}
use Rattle.frames.specs.declared.body.Body.TheVariants as body
use Rattle.frames.specs.declared.sent.Sent.{Sent}
use Rattle.frames.specs.Valid.{IsFrame, HasId}
use Rattle.ring_kept.specs.Kept.{kept_after}
use Rattle.protocol.specs.Parts.{Ring, Campaign, Role, Idle, Active}
use Rattle.protocol.specs.Rings.{ring_of, is_member, is_acceptor}
use Rattle.protocol.specs.Node.{View, RingPart, Service, Event, Work, Stepped, part_at}
use Rattle.protocol.specs.Step.{step}
use Rattle.beside_rings.specs.Beside.{changes_in}
use Rattle.bare_world.specs.Worlds.{Possible, Host, Up, Down, World, Happening, nothing}
use Rattle.bare_world.specs.Runs.{IsNode, MayCome, MayRun}
use Rattle.world_model.specs.Worlds.{World as DiskWorld}
use Rattle.disk_runs.specs.Runs.{WorldTies, world_after}
use Rattle.recovery_lines.specs.Ties.{rings_in}
use Rattle.line_runs.specs.Laws.{IsPossible}
use Rattle.step_shape.specs.Shaped.{IsOutside}

-- ---- a node's rings and its partition

-- the rings of which a node is a member, in the order of the deployment, as the node sees them
abbrev pub rings_of : Config → NodeId → List Ring
rings_of config id = filter is_member (map (ring_of config id) config.rings)

-- the partition of which a view is a replica
abbrev pub served : Option Service → Option PartitionTable
served None = None
served (Some service) = Some service.partition

-- ---- a part

-- A position for each acceptor, covered up to the end of all instances at most; what is reported stands in increasing order.
pub record CampaignShape (ring : Ring) (campaign : Campaign) : Type 0 where
  pub sized : length campaign.covered ≡ length ring.acceptors
  pub ended : AllByRecursion (λ c. c ≤ END) campaign.covered
  pub reports : IsIncreasingFrom 0 campaign.reports

abbrev pub RoleShape : Ring → Role → Type 0
RoleShape ring Idle = Unit {0}
RoleShape ring (Active campaign) = CampaignShape ring campaign

-- Of a ring of which the node is a member: what it keeps is what the journal's state has of the ring, with votes and learned values in
-- increasing order; where it is no acceptor it keeps nothing, is Idle and has no round.
pub record PartShape (state : State) (p : RingPart) : Type 0 where
  pub journal : p.part.kept ≡ ring_at state p.ring.id
  pub kept : IsKept p.part.kept
  pub role : RoleShape p.ring p.part.coordinator.role
  pub held : IsIncreasingFrom 0 p.part.learner.held
  pub outside : is_acceptor p.ring ≡ false → IsOutside p.part

-- ---- a node

-- A node that is up is one of the deployment, knows its number, has a part for each of its rings in their order, serves the partition
-- of which it is a replica, and its journal's state may stand in records.
pub record NodeShape (config : Config) (id : NodeId) (view : View) : Type 0 where
  pub there : IsNode config id
  pub named : view.id ≡ id
  pub rings : rings_in view.parts ≡ rings_of config id
  pub parts : AllByRecursion (PartShape view.journal.state) view.parts
  pub serves : served view.service ≡ partition_of config.partitions id
  pub state : IsState view.journal.state

abbrev pub HostShape : Config → NodeId → Host → Type 0
HostShape config id (Up view) = NodeShape config id view
HostShape config id (Down durable pending) = IsState durable.state × IsState pending.state

-- ---- a step

-- What a step records may stand in a record, and it makes of what each part kept what the part keeps then.
pub record StepShape (view : View) (made : Stepped) : Type 0 where
  pub changes : AllByRecursion IsChange (changes_in made.work)
  pub kept : (ring : RingId) (p q : RingPart) → part_at view ring ≡ Some p → part_at made.view ring ≡ Some q → q.part.kept ≡ kept_after ring (changes_in made.work) p.part.kept

-- ---- frames

-- The numbers of a frame are below 2 ^ 32 and 2 ^ 64, as those of the code are, but for the number of a round, which has no limit, and
-- that of an epoch, which has none in a world without bytes: there it is bounded by the epochs of nodes.
abbrev pub HasWidths : Body → Type 0
HasWidths (body.AskCheckpoint epoch attempt) = attempt < 2 ^ 32
HasWidths (body.HaveCheckpoint epoch attempt tuple) = attempt < 2 ^ 32
HasWidths (body.AskPart epoch attempt tuple offset) = (attempt < 2 ^ 32) × (offset < 2 ^ 64)
HasWidths (body.Part epoch attempt tuple offset total bytes) = (attempt < 2 ^ 32) × (offset < 2 ^ 64) × (total < 2 ^ 64)
HasWidths (body.Gone epoch attempt asked newer) = attempt < 2 ^ 32
HasWidths (body.Reply client seq partition reply) = seq < 2 ^ 64
HasWidths other = Unit {0}

-- a frame that has a spelling, with numbers that fit
pub record SentShape (sent : Sent) : Type 0 where
  pub frame : IsFrame sent.frame
  pub numbers : HasWidths sent.frame.body
  pub id : HasId sent.frame.from

-- the epoch of a frame that names one
abbrev pub EpochIs : (ℕ → Type 0) → Body → Type 0
EpochIs P (body.AskCheckpoint epoch attempt) = P epoch
EpochIs P (body.HaveCheckpoint epoch attempt tuple) = P epoch
EpochIs P (body.AskPart epoch attempt tuple offset) = P epoch
EpochIs P (body.Part epoch attempt tuple offset total bytes) = P epoch
EpochIs P (body.Gone epoch attempt asked newer) = P epoch
EpochIs P other = Unit {0}

abbrev pub EpochAtMost : ℕ → Sent → Type 0
EpochAtMost limit sent = EpochIs (λ epoch. epoch ≤ limit) sent.frame.body

-- the epoch of each state that some disk may stand for is at most this
abbrev pub AreAtMost : ℕ → World → Type 0
AreAtMost limit w = (n : ℕ) (s : Possible) → IsPossible (w.hosts n) s → s.state.epoch ≤ limit

-- ---- a world

-- Nodes that the deployment doesn't have were never opened; each other one has its shape, and so do its next step and every frame. A
-- client knows its number. What steps recorded that ended well may stand in records.
pub record WorldShape (config : Config) (w : World) : Type 0 where
  pub absent : (id : NodeId) → (IsNode config id → ⊥) → w.hosts id.0 ≡ nothing.hosts id.0
  pub nodes : (id : NodeId) → HostShape config id (w.hosts id.0)
  pub clients : (c : ℕ) → (w.clients c).id ≡ record { 0 = c }
  pub steps : (id : NodeId) (view : View) (event : Event) → w.hosts id.0 ≡ Up view → MayCome w id event → StepShape view (step config view event)
  pub works : AllByRecursion (λ (x : NodeId × Work). AllByRecursion IsChange (changes_in x.1)) w.works
  pub frames : AllByRecursion SentShape w.frames
  -- no frame names an epoch above those of all states that disks may stand for
  pub epochs : (limit : ℕ) → AreAtMost limit w → AllByRecursion (EpochAtMost limit) w.frames

-- ---- on disks

-- A world on disks is tied to one without bytes that a run has reached and that has its shape; and so each of its frames has it, and an
-- epoch below 2 ^ 32 where it names one.
pub record DiskShape (config : Config) (w : DiskWorld) : Type 0 where
  pub past : List Happening
  pub may : MayRun config nothing past
  pub ties : WorldTies config w (world_after config past)
  pub shape : WorldShape config (world_after config past)
  pub frames : AllByRecursion SentShape w.frames
  pub epochs : AllByRecursion (EpochAtMost (2 ^ 32 - 1)) w.frames
