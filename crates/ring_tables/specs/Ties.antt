-- How what a node keeps of a ring, and what nodes sent, stand for faces of the ring's machine. All of it speaks of one ring.
use Rattle.std.specs.Prelude.{◌≡◌, ◌⊎◌, ℕ, ◌<◌, ◌≤◌, true, List, length, max, slice_index, Some, None}
use Rattle.std.specs.List.{AllByRecursion}
use Rattle.mrp_types.specs.declared.id.NodeId.{NodeId}
use Rattle.mrp_types.specs.declared.id.RingId.{RingId}
use Rattle.mrp_types.specs.declared.id.Party.{Party}
use Rattle.mrp_types.specs.declared.id.Party.TheVariants.{Node, Client}
use Rattle.mrp_types.specs.declared.id.TheConstants.{END}
use Rattle.mrp_types.specs.declared.value.Value.{Value}
use Rattle.mrp_types.specs.declared.voted.Voted.{Voted}
use Rattle.mrp_types.specs.declared.voted.Decided.{Decided}
use Rattle.range_map.specs.Entries.{value_at, IsIncreasingFrom}
use Rattle.vote_state.specs.declared.cast.Cast.{Cast}
use Rattle.vote_state.specs.declared.change.Change.{Change}
use Rattle.vote_state.specs.declared.change.Change.TheVariants as change
use Rattle.vote_state.specs.Ranges.{cast_at, AreInOrderFrom}
use Rattle.frames.specs.declared.body.Body.{Body}
use Rattle.frames.specs.declared.body.Body.TheVariants as body
use Rattle.frames.specs.declared.sent.Sent.{Sent}
use Rattle.quorums.specs.Groups.{Has}
use Rattle.ring_reach.specs.Reach.{proposal}
use Rattle.protocol.specs.Parts.{Ring, Campaign, Role, Idle, Active, Learner, Part}
use Rattle.protocol.specs.Rings.{position_of, has_bit}
use Rattle.protocol.specs.Lines.{Line, Learn}
use Rattle.ring_safety.specs.Faces.{Proposal, Promise, Face, rank, owner}
use Rattle.ring_safety.specs.Deeds.{Serves}
use Rattle.ring_safety.specs.Worlds.{Chosen}
use Rattle.ring_kept.specs.Kept.{told_of, KeptTies}

-- ---- words

-- how many acceptors
abbrev pub acceptors : Ring → ℕ
acceptors ring = length ring.acceptors

-- the value is chosen at the instance, in some ballot
pub record IsChosen (n : ℕ) (now : ℕ → Face Value) (i : ℕ) (value : Value) : Type 0 where
  pub ballot : ℕ
  pub chosen : Chosen n now (proposal ballot i value)

abbrev pub IsRangeChosen : ℕ → (ℕ → Face Value) → Decided → Type 0
IsRangeChosen n now range = (i : ℕ) → range.lo ≤ i → i < range.hi → IsChosen n now i range.value

-- ---- an active coordinator

-- a member that is covered past an instance, and told this vote there
pub record IsReported (n : ℕ) (covered : List ℕ) (page : ℕ → ℕ → Promise Value) (i : ℕ) (cast : Cast) : Type 0 where
  pub member : ℕ
  pub below : member < n
  pub past : i < slice_index covered member
  pub tells : (page member i).told i ≡ Some (record { ballot = cast.ballot; value = cast.value })

-- Each position that is covered past an instance, from the trim on, has made one promise of the ballot by which it is: the one
-- of its page there. What these promises tell is reported: no vote above the report, and the report itself.
pub record Reports (n : ℕ) (now : ℕ → Face Value) (trim ballot : ℕ) (covered : List ℕ) (reports : List (ℕ × Cast)) : Type 0 where
  -- by position and instance
  pub page : ℕ → ℕ → Promise Value
  pub made : (k i : ℕ) → k < n → trim ≤ i → i < slice_index covered k → Has (now k).promises (page k i)
  pub serves : (k i : ℕ) → k < n → trim ≤ i → i < slice_index covered k → Serves (page k i) ballot i
  pub told : (k i : ℕ) → k < n → trim ≤ i → i < slice_index covered k → rank ((page k i).told i) ≤ rank (told_of (value_at i reports))
  pub reported : (i : ℕ) (cast : Cast) → trim ≤ i → value_at i reports ≡ Some cast → IsReported n covered page i cast

-- an outstanding proposal was proposed, and cast by the own node
pub record IsOutstanding (f : Face Value) (ballot trim : ℕ) (range : Decided) : Type 0 where
  pub proposed : (i : ℕ) → max range.lo trim ≤ i → i < range.hi → Has f.proposals (proposal ballot i range.value)
  pub cast : (i : ℕ) → max range.lo trim ≤ i → i < range.hi → Has f.casts (proposal ballot i range.value)
  pub ended : range.hi ≤ END

-- it leads its ballot, which is its promise, and has proposed nothing from its next instance on
pub record CampaignTies (n : ℕ) (now : ℕ → Face Value) (f : Face Value) (campaign : Campaign) : Type 0 where
  pub next : ℕ
  pub leads : f.leads ≡ Some (record { ballot = campaign.ballot; next = next })
  pub passed : next ≤ campaign.next
  pub promised : f.promise ≡ campaign.ballot
  pub reports : Reports n now f.trim campaign.ballot campaign.covered campaign.reports
  pub outstanding : AllByRecursion (IsOutstanding f campaign.ballot f.trim) campaign.outstanding
  -- each position is covered to the end of all instances at most, or to a trim
  pub sized : length campaign.covered ≡ n
  pub ended : (k : ℕ) → slice_index campaign.covered k ≤ max END f.trim
  pub ordered : IsIncreasingFrom 0 campaign.reports

-- nothing is said of one that is Idle: its face may still lead
abbrev pub RoleTies : ℕ → (ℕ → Face Value) → Face Value → Role → Type 0
RoleTies n now f Idle = Unit {0}
RoleTies n now f (Active campaign) = CampaignTies n now f campaign

-- ---- a learner

pub record LearnerTies (n : ℕ) (now : ℕ → Face Value) (learner : Learner) : Type 0 where
  pub ordered : IsIncreasingFrom 0 learner.held
  pub chosen : (i : ℕ) (value : Value) → value_at i learner.held ≡ Some value → IsChosen n now i value

-- ---- a part: f is the node's own face, among those that it sees

pub record PartTies (n : ℕ) (now : ℕ → Face Value) (f : Face Value) (part : Part) : Type 0 where
  pub kept : KeptTies f part.kept
  pub role : RoleTies n now f part.coordinator.role
  pub learner : LearnerTies n now part.learner

-- ---- what was sent

pub record PromiseSaid (f : Face Value) (ballot lo hi trim : ℕ) (votes : List Voted) : Type 0 where
  pub promise : Promise Value
  pub made : Has f.promises promise
  pub of_ballot : promise.ballot ≡ ballot
  pub low : promise.low ≡ lo
  pub high : promise.high ≡ hi
  pub trimmed : promise.trim ≡ trim
  -- its votes are told, and no others; they lie in its page
  pub told : (i : ℕ) → promise.told i ≡ told_of (cast_at i votes)
  pub paged : (i : ℕ) → hi ≤ i → cast_at i votes ≡ None
  pub ordered : AreInOrderFrom 0 votes
  pub ended : hi ≤ END

pub record AcceptSaid (n : ℕ) (now : ℕ → Face Value) (ballot lo hi mask : ℕ) (value : Value) : Type 0 where
  pub proposed : (i : ℕ) → lo ≤ i → i < hi → Has (now (owner n ballot)).proposals (proposal ballot i value)
  pub member : (k : ℕ) → has_bit mask k ≡ true → k < n
  pub cast : (k i : ℕ) → has_bit mask k ≡ true → lo ≤ i → i < hi → Has (now k).casts (proposal ballot i value)
  pub ended : hi ≤ END

abbrev pub BodySaid : Ring → (ℕ → Face Value) → NodeId → Body → Type 0
BodySaid ring now from (body.Promise r ballot lo hi trim votes) = r.0 ≡ ring.id.0 → (k : ℕ) → position_of ring from ≡ Some k → PromiseSaid (now k) ballot lo hi trim votes
BodySaid ring now from (body.Accept r ballot lo hi mask value) = r.0 ≡ ring.id.0 → AcceptSaid (acceptors ring) now ballot lo hi mask value
BodySaid ring now from (body.Decide r lo hi left value) = r.0 ≡ ring.id.0 → IsRangeChosen (acceptors ring) now (record { lo = lo; hi = hi; value = value })
BodySaid ring now from (body.Chosen r ranges) = r.0 ≡ ring.id.0 → AllByRecursion (IsRangeChosen (acceptors ring) now) ranges
BodySaid ring now from other = Unit {0}

-- a client's frame says nothing
abbrev pub SaidBy : Ring → (ℕ → Face Value) → Party → Body → Type 0
SaidBy ring now (Node from) b = BodySaid ring now from b
SaidBy ring now (Client from) b = Unit {0}

abbrev pub IsSaid : Ring → (ℕ → Face Value) → Sent → Type 0
IsSaid ring now sent = SaidBy ring now sent.frame.from sent.frame.body

-- ---- promises that were sent

-- a Promise frame of the node that tells what the promise tells
pub record IsToldIn (ring : Ring) (frames : List Sent) (p : Promise Value) : Type 0 where
  pub sent : Sent
  pub there : Has frames sent
  pub by : sent.frame.from ≡ Node ring.own
  pub votes : List Voted
  pub same : sent.frame.body ≡ body.Promise ring.id p.ballot p.low p.high p.trim votes
  pub tells : (i : ℕ) → p.told i ≡ told_of (cast_at i votes)

-- From the face `start` on, each promise with a page that isn't empty was sent in these frames, or is of a ballot of the node's own.
abbrev pub AreTold : Ring → ℕ → Face Value → Face Value → List Sent → Type 0
AreTold ring a start f frames =
    (p : Promise Value) → Has f.promises p → p.low < p.high → Has start.promises p ⊎ ((owner (acceptors ring) p.ballot ≡ a) ⊎ IsToldIn ring frames p)

-- ---- what was printed: a learn line tells what was chosen, and no other line says anything of the ring

abbrev pub IsTold : Ring → (ℕ → Face Value) → Line → Type 0
IsTold ring now (Learn node r lo hi value) = r.0 ≡ ring.id.0 → IsRangeChosen (acceptors ring) now (record { lo = lo; hi = hi; value = value })
IsTold ring now other = Unit {0}

-- ---- what was recorded: a promise and a trim are kept, and a vote was cast at each instance of its range

abbrev pub IsRecorded : RingId → Face Value → Change → Type 0
IsRecorded id f (change.Promise r ballot) = r.0 ≡ id.0 → ballot ≤ f.promise
IsRecorded id f (change.Vote r vote) = r.0 ≡ id.0 → (i : ℕ) → vote.lo ≤ i → i < vote.hi → Has f.casts (proposal vote.ballot i vote.value)
IsRecorded id f (change.Trim r inst) = r.0 ≡ id.0 → inst ≤ f.trim
IsRecorded id f other = Unit {0}

-- a vote that changes record
pub record IsVotedIn (id : RingId) (changes : List Change) (c : Proposal Value) : Type 0 where
  pub vote : Voted
  pub there : Has changes (change.Vote id vote)
  pub of_ballot : c.ballot ≡ vote.ballot
  pub from : vote.lo ≤ c.instance
  pub to : c.instance < vote.hi
  pub of_value : c.value ≡ vote.value

-- From the face `start` on, what was recorded stands in the face f, and each vote that was cast on the way was recorded.
pub record AreRecorded (id : RingId) (start f : Face Value) (changes : List Change) : Type 0 where
  pub stand : AllByRecursion (IsRecorded id f) changes
  pub voted : (c : Proposal Value) → Has f.casts c → Has start.casts c ⊎ IsVotedIn id changes c
