-- What is kept of every frame, view and step so that each record has a spelling and each learn line a shape.
use Rattle.std.specs.Prelude.{◌≡◌, ℕ, suc, ◌<◌, ◌≤◌, true, false, Option, Some, None}
use Rattle.std.specs.List.{AllByRecursion}
use Rattle.mrp_types.specs.declared.id.NodeId.{NodeId}
use Rattle.mrp_types.specs.declared.id.RingId.{RingId}
use Rattle.mrp_types.specs.declared.id.TheConstants.{END}
use Rattle.mrp_types.specs.declared.value.Value.{Value}
use Rattle.mrp_types.specs.declared.voted.Voted.{Voted}
use Rattle.mrp_types.specs.declared.voted.Decided.{Decided}
use Rattle.mrp_types.specs.Entries.{IsEntry}
use Rattle.mrp_types.specs.Values.{is_skip}
use Rattle.command_codec.specs.Parts.{IsSpelled}
use Rattle.range_map.specs.Entries.{IsIncreasingFrom}
use Rattle.mrp_config.specs.Config.{Config}
use Rattle.mrp_config.specs.declared.tables.RingTable.{RingTable}
use Rattle.quorums.specs.Groups.{Has}
use Rattle.vote_state.specs.declared.cast.Cast.{Cast}
use Rattle.vote_state.specs.State.{IsKept, IsState}
use Rattle.vote_state.specs.Valid.{IsRing, IsBallot, IsInst, IsVoted, IsChange}
use Rattle.frames.specs.declared.body.Body.{Body}
use Rattle.frames.specs.declared.body.Body.TheVariants as body
use Rattle.frames.specs.declared.sent.Sent.{Sent}
use Rattle.beside_rings.specs.Beside.{IsNoLearn, changes_in}
use Rattle.protocol.specs.Lines.{Line, Learn}
use Rattle.protocol.specs.Parts.{Ring, Pending, Campaign, Role, Idle, Active, Round, Part, Effects}
use Rattle.protocol.specs.Rings.{is_member, ring_of}
use Rattle.protocol.specs.Proposing.{vote_of}
use Rattle.protocol.specs.Node.{RingPart, View, Event, Takes, Stepped}

-- ---- ranges

-- a range that isn't empty may be voted for
abbrev pub MayVote : Voted → Type 0
MayVote vote = vote.lo < vote.hi → IsVoted vote

-- a range that may be decided: up to the end of all instances at most, with a value that has a spelling, and a batch alone
pub record IsDecided (range : Decided) : Type 0 where
  pub end : range.hi ≤ END
  pub alone : is_skip range.value ≡ false → range.hi ≡ suc range.lo
  pub value : IsSpelled range.value

abbrev pub MayLearn : Decided → Type 0
MayLearn range = range.lo < range.hi → IsDecided range

-- what a learner may hold at an instance
abbrev pub IsLearned : ℕ × Value → Type 0
IsLearned e = IsInst e.0 × IsSpelled e.1

-- ---- frames

abbrev pub BodyValid : Body → Type 0
BodyValid (body.Submit r hops client seq command) = IsEntry (record { client = client; seq = seq; command = command })
BodyValid (body.Prepare r ballot lo) = IsBallot ballot
BodyValid (body.Promise r ballot lo hi trim votes) = IsInst trim × (hi ≤ END) × AllByRecursion IsVoted votes × IsBallot ballot
BodyValid (body.Accept r ballot lo hi mask value) = IsBallot ballot × MayVote (record { lo = lo; hi = hi; ballot = ballot; value = value })
BodyValid (body.Decide r lo hi left value) = MayLearn (record { lo = lo; hi = hi; value = value })
BodyValid (body.Chosen r ranges) = AllByRecursion MayLearn ranges
BodyValid (body.Trimmed r trim) = IsInst trim
BodyValid (body.TrimTo r trim) = IsInst trim
BodyValid (body.Safe r round inst) = IsInst inst
BodyValid other = Unit {0}

abbrev pub SentValid : Sent → Type 0
SentValid sent = BodyValid sent.frame.body

-- ---- what a node keeps of a ring

pub record CampaignValid (campaign : Campaign) : Type 0 where
  pub ballot : IsBallot campaign.ballot
  pub reports : AllByRecursion (λ (e : ℕ × Cast). IsSpelled e.1.value) campaign.reports
  pub ordered : IsIncreasingFrom 0 campaign.reports
  pub pending : AllByRecursion (λ (p : Pending). IsEntry p.entry) campaign.pending
  pub outstanding : AllByRecursion (λ (range : Decided). MayVote (vote_of campaign.ballot range)) campaign.outstanding
  pub covered : AllByRecursion (λ c. c ≤ END) campaign.covered

abbrev pub RoleValid : Role → Type 0
RoleValid Idle = Unit {0}
RoleValid (Active campaign) = CampaignValid campaign

abbrev pub RoundValid : Option Round → Type 0
RoundValid None = Unit {0}
RoundValid (Some round) = AllByRecursion (λ (a : NodeId × ℕ). IsInst a.1) round.answers

pub record PartValid (part : Part) : Type 0 where
  pub kept : IsKept part.kept
  pub role : RoleValid part.coordinator.role
  pub round : RoundValid part.rounds.current
  pub held : AllByRecursion IsLearned part.learner.held
  pub ordered : IsIncreasingFrom 0 part.learner.held

-- what a rule of a ring makes
pub record EffectsValid (effects : Effects) : Type 0 where
  pub part : PartValid effects.part
  pub changes : AllByRecursion IsChange effects.changes
  pub frames : AllByRecursion SentValid effects.frames
  pub learned : AllByRecursion MayLearn effects.learned
  -- what is learned is printed later
  pub lines : AllByRecursion IsNoLearn effects.lines

-- ---- a node

-- a ring of the deployment of which this node is a member
pub record IsMemberOf (config : Config) (id : NodeId) (ring : Ring) : Type 0 where
  pub table : RingTable
  pub listed : Has config.rings table
  pub same : ring ≡ ring_of config id table
  pub member : is_member ring ≡ true

pub record MemberValid (config : Config) (id : NodeId) (p : RingPart) : Type 0 where
  pub of_ring : IsMemberOf config id p.ring
  pub part : PartValid p.part

pub record ViewValid (config : Config) (view : View) : Type 0 where
  pub state : IsState view.journal.state
  pub parts : AllByRecursion (MemberValid config view.id) view.parts

-- a node learns of a ring of which it is a member; the range isn't empty
pub record LearnValid (config : Config) (node : NodeId) (r : RingId) (range : Decided) : Type 0 where
  pub ring : Ring
  pub of_ring : IsMemberOf config node ring
  pub named : r ≡ ring.id
  pub some : range.lo < range.hi
  pub decided : IsDecided range

-- a learn line names its own node
abbrev pub LineValid : Config → NodeId → Line → Type 0
LineValid config id (Learn node r lo hi value) = (node ≡ id) × LearnValid config id r (record { lo = lo; hi = hi; value = value })
LineValid config id other = Unit {0}

-- ---- steps

-- rings are few enough to have numbers in records
abbrev pub AreNumbered : Config → Type 0
AreNumbered config = (table : RingTable) → Has config.rings table → IsRing table.id

abbrev pub EventValid : Event → Type 0
EventValid (Takes frame) = BodyValid frame.body
EventValid other = Unit {0}

pub record StepValid (config : Config) (id : NodeId) (effects : Stepped) : Type 0 where
  pub same_node : effects.view.id ≡ id
  pub view : ViewValid config effects.view
  pub changes : AllByRecursion IsChange (changes_in effects.work)
  pub frames : AllByRecursion SentValid effects.frames
  pub lines : AllByRecursion (LineValid config id) effects.lines
