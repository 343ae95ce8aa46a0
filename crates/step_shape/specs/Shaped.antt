-- What is kept of every frame, view and step so that each frame has a spelling and each part its shape, beside what `step_valid` and
-- `ask_laws` keep.
use Rattle.std.specs.Prelude.{◌≡◌, ℕ, ◌-◌, ◌<◌, ◌≤◌, ◌^◌, min, max, true, false, List, length, sum_by, Option, Some, None}
use Rattle.std.specs.List.{AllByRecursion}
use Rattle.mrp_types.specs.declared.id.NodeId.{NodeId}
use Rattle.mrp_types.specs.declared.id.Party.{Party}
use Rattle.mrp_types.specs.declared.id.Party.TheVariants.{Node, Client}
use Rattle.mrp_types.specs.declared.voted.Voted.{Voted}
use Rattle.mrp_types.specs.declared.voted.Decided.{Decided}
use Rattle.frames.specs.declared.body.Body.{Body}
use Rattle.frames.specs.declared.body.Body.TheVariants as body
use Rattle.frames.specs.declared.sent.Sent.{Sent}
use Rattle.frames.specs.Ranges.{nothing_before}
use Rattle.frames.specs.Spelling.{vote_size, decided_size}
use Rattle.frames.specs.Valid.{AreVotes, AreRanges}
use Rattle.vote_state.specs.State.{State, no_votes, ring_at}
use Rattle.vote_state.specs.Valid.{IsRing, IsBallot, IsInst}
use Rattle.mrp_config.specs.Config.{Config}
use Rattle.mrp_config.specs.Valid.{AreAtMost, numbers_of_rings}
use Rattle.mrp_config.specs.declared.tables.RingTable.{RingTable}
use Rattle.quorums.specs.Groups.{Has}
use Rattle.checkpoint.specs.Checkpoints.{Checkpoint}
use Rattle.protocol.specs.Parts.{Ring, Role, Idle, Active, Part, Effects}
use Rattle.protocol.specs.Rings.{ring_of, is_member, is_acceptor}
use Rattle.protocol.specs.Acceptor.{page_room}
use Rattle.protocol.specs.Node.{RingPart, Choice, Stage, Recovering, Ready, Service, View, Event, Takes, Stepped, StepSoFar}

-- ---- frames

-- votes in order, without overlap, and maximal, that fit a page
pub record IsVotesPage (votes : List Voted) : Type 0 where
  pub are : AreVotes nothing_before votes
  pub room : sum_by vote_size votes ≤ page_room

-- decided ranges likewise, one at least
pub record IsRangesPage (ranges : List Decided) : Type 0 where
  pub are : AreRanges nothing_before ranges
  pub room : sum_by decided_size ranges ≤ page_room
  pub some : 1 ≤ length ranges

-- What a frame of a node needs to have a spelling, beside what `BodyValid` says and that its tuples are tuples. An epoch has no limit in
-- a world without bytes: it is said of it what is said of the epochs of nodes. Nothing is said of the number of a round.
abbrev pub BodyFits : (ℕ → Type 0) → Body → Type 0
BodyFits fine (body.Submit r hops client seq command) = IsRing r × (hops ≤ 1)
BodyFits fine (body.Prepare r ballot lo) = IsRing r × IsInst lo
BodyFits fine (body.Promise r ballot lo hi trim votes) = IsRing r × (lo < hi) × IsVotesPage votes
BodyFits fine (body.Refuse r ballot promise) = IsRing r × IsBallot ballot × IsBallot promise
BodyFits fine (body.Accept r ballot lo hi mask value) = IsRing r × (lo < hi)
BodyFits fine (body.Decide r lo hi left value) = IsRing r × (lo < hi)
BodyFits fine (body.Fetch r lo) = IsRing r × IsInst lo
BodyFits fine (body.Chosen r ranges) = IsRing r × IsRangesPage ranges
BodyFits fine (body.Trimmed r trim) = IsRing r
BodyFits fine (body.AskSafe r round) = IsRing r
BodyFits fine (body.Safe r round inst) = IsRing r
BodyFits fine (body.TrimTo r trim) = IsRing r
BodyFits fine (body.AskCheckpoint epoch attempt) = (attempt < 2 ^ 32) × fine epoch
BodyFits fine (body.HaveCheckpoint epoch attempt tuple) = (attempt < 2 ^ 32) × fine epoch
BodyFits fine (body.AskPart epoch attempt tuple offset) = (attempt < 2 ^ 32) × (offset < 2 ^ 64) × fine epoch
BodyFits fine (body.Part epoch attempt tuple offset total bytes) =
    (attempt < 2 ^ 32) × (offset < 2 ^ 64) × (total < 2 ^ 64) × (1 ≤ length bytes) × (length bytes ≡ min 16384 (total - offset)) × fine epoch
BodyFits fine (body.Gone epoch attempt asked newer) = (attempt < 2 ^ 32) × fine epoch
BodyFits fine (body.Reply client seq partition reply) = (length reply ≤ 16384) × (seq < 2 ^ 64)
BodyFits fine body.Hello = Unit {0}

-- replies alone go to clients
abbrev pub MayGo : Party → Body → Type 0
MayGo (Node to) body = Unit {0}
MayGo (Client to) (body.Reply client seq partition reply) = Unit {0}
MayGo (Client to) other = ⊥

-- a frame of this node
pub record SentFits (fine : ℕ → Type 0) (id : NodeId) (sent : Sent) : Type 0 where
  pub from : sent.frame.from ≡ Node id
  pub to : MayGo sent.to sent.frame.body
  pub fits : BodyFits fine sent.frame.body

-- what comes from a node fits; what comes from a client is a command, of which `BodyValid` says enough
abbrev pub FrameFits : (ℕ → Type 0) → Party → Body → Type 0
FrameFits fine (Node from) body = BodyFits fine body
FrameFits fine (Client from) body = Unit {0}

-- ---- what a node keeps of a ring

-- some instance of a proposal isn't below the trim
abbrev pub IsOpen : ℕ → Decided → Type 0
IsOpen trim range = max range.lo trim < range.hi

abbrev pub OpenFits : ℕ → Role → Type 0
OpenFits trim Idle = Unit {0}
OpenFits trim (Active campaign) = AllByRecursion (IsOpen trim) campaign.outstanding

-- what is proposed next isn't below the trim
abbrev pub NextFits : ℕ → Role → Type 0
NextFits trim Idle = Unit {0}
NextFits trim (Active campaign) = trim ≤ campaign.next

-- a part of no acceptor has nothing kept, is Idle and has no round
pub record IsOutside (part : Part) : Type 0 where
  pub kept : part.kept ≡ no_votes
  pub idle : part.coordinator.role ≡ Idle
  pub round : part.rounds.current ≡ None

pub record PartFits (ring : Ring) (part : Part) : Type 0 where
  pub outstanding : OpenFits part.kept.trim part.coordinator.role
  pub next : NextFits part.kept.trim part.coordinator.role
  pub outside : is_acceptor ring ≡ false → IsOutside part

-- what a rule of a ring makes on its way, before it proposes
pub record EffectsNear (fine : ℕ → Type 0) (id : NodeId) (effects : Effects) : Type 0 where
  pub outstanding : OpenFits effects.part.kept.trim effects.part.coordinator.role
  pub frames : AllByRecursion (SentFits fine id) effects.frames

-- what a rule of a ring makes
pub record EffectsFit (ring : Ring) (fine : ℕ → Type 0) (id : NodeId) (effects : Effects) : Type 0 where
  pub part : PartFits ring effects.part
  pub frames : AllByRecursion (SentFits fine id) effects.frames

-- ---- a replica

-- the bytes that came of a choice have a length that fits
abbrev pub GatheredFits : Option Choice → Type 0
GatheredFits None = Unit {0}
GatheredFits (Some choice) = length choice.bytes < 2 ^ 64

abbrev pub StageFits : Stage → Type 0
StageFits (Recovering attempt) = (attempt.number < 2 ^ 32) × GatheredFits attempt.choice
StageFits (Ready standing) = Unit {0}

pub record ServiceFits (service : Service) : Type 0 where
  pub attempts : service.attempts < 2 ^ 32
  pub rings : AreAtMost 15 (numbers_of_rings service.partition.rings)
  pub stage : StageFits service.stage

abbrev pub ReplicaFits : Option Service → Type 0
ReplicaFits None = Unit {0}
ReplicaFits (Some service) = ServiceFits service

abbrev pub NewestFits : Option Checkpoint → Type 0
NewestFits None = Unit {0}
NewestFits (Some newest) = length newest.state < 2 ^ 64

-- ---- a node

abbrev pub MemberFits : RingPart → Type 0
MemberFits p = PartFits p.ring p.part

pub record ViewFits (view : View) : Type 0 where
  pub parts : AllByRecursion MemberFits view.parts
  pub replica : ReplicaFits view.service
  pub newest : NewestFits view.checkpoints.newest

abbrev pub EventFits : (ℕ → Type 0) → Event → Type 0
EventFits fine (Takes frame) = FrameFits fine frame.from frame.body
EventFits fine other = Unit {0}

-- a step on its way
pub record SoFarFits (fine : ℕ → Type 0) (id : NodeId) (a : StepSoFar) : Type 0 where
  pub view : ViewFits a.view
  pub frames : AllByRecursion (SentFits fine id) a.frames
  pub replies : AllByRecursion (SentFits fine id) a.replies
  pub epoch : fine a.view.journal.state.epoch

pub record StepFits (fine : ℕ → Type 0) (id : NodeId) (effects : Stepped) : Type 0 where
  pub view : ViewFits effects.view
  pub frames : AllByRecursion (SentFits fine id) effects.frames

-- what a disk keeps of a ring of which its node is a member and no acceptor: nothing
abbrev pub KeepsNothing : Config → NodeId → State → Type 0
KeepsNothing config id state = (table : RingTable) → Has config.rings table → is_member (ring_of config id table) ≡ true → is_acceptor (ring_of config id table) ≡ false → ring_at state table.id ≡ no_votes
