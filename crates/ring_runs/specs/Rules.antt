-- The rules of a ring, of one history or of an earlier and a later one.
use Rattle.std.specs.Prelude.{◌≡◌, ◌⊎◌, ℕ, ◌<◌, ◌≤◌, Bool, true, List, Some, None, Option}
use Rattle.mrp_types.specs.declared.id.NodeId.{NodeId}
use Rattle.mrp_types.specs.declared.value.Value.{Value}
use Rattle.mrp_types.specs.declared.voted.Voted.{Voted}
use Rattle.mrp_types.specs.declared.voted.Decided.{Decided}
use Rattle.mrp_config.specs.declared.tables.RingTable.{RingTable}
use Rattle.frames.specs.declared.body.Body.TheVariants as body
use Rattle.quorums.specs.Groups.{Has, IsMajority}
use Rattle.range_map.specs.Entries.{value_at}
use Rattle.vote_state.specs.declared.cast.Cast.{Cast}
use Rattle.vote_state.specs.declared.change.Change.TheVariants as change
use Rattle.vote_state.specs.Ranges.{cast_at}
use Rattle.vote_state.specs.State.{State, ring_at}
use Rattle.ring_safety.specs.Deeds.{IsDue}
use Rattle.ring_safety.specs.Faces.{Vote, owner, rank}
use Rattle.ring_kept.specs.Kept.{told_of}
use Rattle.protocol.specs.Learner.{value_in}
use Rattle.protocol.specs.Lines.{Learn}
use Rattle.protocol.specs.Node.{View, RingPart, Work, part_at}
use Rattle.protocol.specs.Rings.{has_bit}
use Rattle.bare_world.specs.Worlds.{Up}
use Rattle.beside_rings.specs.Beside.{changes_in}
use Rattle.ring_runs.specs.Histories.{History}
use Rattle.ring_runs.specs.Seats.{acceptors, acceptor_at}
use Rattle.ring_runs.specs.Votes.{MayKeep, HasSent, IsAcceptor, HasCast, IsInStopped, HasVoted, IsProposed, IsChosenIn, IsChosen}

-- ---- Promise

-- a vote of that ballot or a higher one is told at the instance
pub record IsToldUpTo (votes : List Voted) (i ballot : ℕ) : Type 0 where
  pub told : Cast
  pub there : cast_at i votes ≡ Some told
  pub below : ballot ≤ told.ballot

-- In every possible state the acceptor's promise is at least the ballot that it promised in a frame; and at each instance of the
-- page that isn't below the trim told it casts and holds no vote of a lower ballot above the one told, and none where none is told.
pub record KeepsPromise (table : RingTable) (late : History) (id : NodeId) (ballot lo hi trim : ℕ) (votes : List Voted) : Type 0 where
  pub promised : (state : State) → MayKeep (late.world.hosts id.0) state → ballot ≤ (ring_at state table.id).promise
  pub outdone : (lower i : ℕ) (value : Value) → lo ≤ i → i < hi → trim ≤ i → HasVoted table late id lower i value → lower < ballot → IsToldUpTo votes i lower

abbrev pub PromiseRule : RingTable → History → History → Type 0
PromiseRule table early late = (id : NodeId) (ballot lo hi trim : ℕ) (votes : List Voted) → IsAcceptor table id → HasSent early id (body.Promise table.id ballot lo hi trim votes)
    → KeepsPromise table late id ballot lo hi trim votes

-- ---- Vote

-- the held vote is as high, and of the same ballot for the same value
abbrev pub IsHeldUpTo : ℕ → Value → Option Cast → Type 0
IsHeldUpTo ballot value None = ⊥
IsHeldUpTo ballot value (Some held) = (ballot ≤ held.ballot) × (ballot ≡ held.ballot → value ≡ held.value)

-- the promise is at least the ballot, and the instance is below the trim or a vote as high is held there
pub record KeepsVote (table : RingTable) (ballot i : ℕ) (value : Value) (state : State) : Type 0 where
  pub promised : ballot ≤ (ring_at state table.id).promise
  pub kept : (i < (ring_at state table.id).trim) ⊎ IsHeldUpTo ballot value (value_at i (ring_at state table.id).votes)

-- each bit of a mask is of an acceptor that has cast votes on the whole range
abbrev pub AreCast : RingTable → History → (ballot lo hi mask : ℕ) → Value → Type 0
AreCast table h ballot lo hi mask value = (k : ℕ) → has_bit mask k ≡ true
    → (k < acceptors table) × ((i : ℕ) → lo ≤ i → i < hi → HasCast table h (acceptor_at table k) ballot i value)

pub record VoteRule (table : RingTable) (early late : History) : Type 0 where
  -- each vote cast or held was proposed
  pub proposed : (id : NodeId) (ballot i : ℕ) (value : Value) → HasVoted table late id ballot i value → IsProposed table late ballot i value
  -- each bit of an Accept frame stands for votes cast on its whole range
  pub masks : (id : NodeId) (ballot lo hi mask : ℕ) (value : Value) → HasSent late id (body.Accept table.id ballot lo hi mask value) → AreCast table late ballot lo hi mask value
  -- held votes are of ballots at most the promise, at instances not below the trim
  pub held : (id : NodeId) (state : State) → MayKeep (late.world.hosts id.0) state → (i : ℕ) (vote : Cast) → value_at i (ring_at state table.id).votes ≡ Some vote
      → (vote.ballot ≤ (ring_at state table.id).promise) × ((ring_at state table.id).trim ≤ i)
  -- a cast vote is kept in every possible state
  pub kept : (id : NodeId) (ballot i : ℕ) (value : Value) → HasCast table early id ballot i value → (state : State) → MayKeep (late.world.hosts id.0) state
      → KeepsVote table ballot i value state

-- ---- what counts as done

-- What a step recorded that ended well is done, and each vote that an opening read was cast; the promises and the trims among them
-- are kept.
pub record DoneRule (table : RingTable) (early late : History) : Type 0 where
  pub works : (id : NodeId) (work : Work) → Has early.world.works (id, work) → Has early.done (id, work)
  pub read : (id : NodeId) (state : State) → Has early.world.read (id, state) → (i : ℕ) (vote : Cast) → value_at i (ring_at state table.id).votes ≡ Some vote
      → HasCast table early id vote.ballot i vote.value
  pub promised : (id : NodeId) (work : Work) (ballot : ℕ) → Has early.done (id, work) → Has (changes_in work) (change.Promise table.id ballot)
      → (state : State) → MayKeep (late.world.hosts id.0) state → ballot ≤ (ring_at state table.id).promise
  pub trimmed : (id : NodeId) (work : Work) (inst : ℕ) → Has early.done (id, work) → Has (changes_in work) (change.Trim table.id inst)
      → (state : State) → MayKeep (late.world.hosts id.0) state → inst ≤ (ring_at state table.id).trim
  pub kept : (id : NodeId) (before : State) → Has early.world.read (id, before) → (state : State) → MayKeep (late.world.hosts id.0) state
      → ((ring_at before table.id).promise ≤ (ring_at state table.id).promise) × ((ring_at before table.id).trim ≤ (ring_at state table.id).trim)

-- ---- Start

-- From the earlier history on the acceptor casts no vote below the ballot: each that it has cast or holds later it had cast by then.
abbrev pub AddsNoneBelow : RingTable → History → History → NodeId → ℕ → Type 0
AddsNoneBelow table early late id ballot = (lower i : ℕ) (value : Value) → HasVoted table late id lower i value → lower < ballot → HasCast table early id lower i value

-- What a promise of a ballot is worth that a done work has recorded, as a start does, or that an opening has read.
pub record StartRule (table : RingTable) (early late : History) : Type 0 where
  pub recorded : (id : NodeId) (work : Work) (ballot : ℕ) → Has early.done (id, work) → Has (changes_in work) (change.Promise table.id ballot)
      → AddsNoneBelow table early late id ballot
  pub read : (id : NodeId) (state : State) → Has early.world.read (id, state) → AddsNoneBelow table early late id (ring_at state table.id).promise

-- ---- Propose

-- An acceptor has sent a promise of the ballot in a frame, whose page holds the instance and whose trim isn't above it, and which
-- reports this vote there, if any.
pub record HasPromised (table : RingTable) (h : History) (id : NodeId) (ballot i : ℕ) (report : Option (Vote Value)) : Type 0 where
  pub lo : ℕ
  pub hi : ℕ
  pub trim : ℕ
  pub votes : List Voted
  pub sent : HasSent h id (body.Promise table.id ballot lo hi trim votes)
  pub low : lo ≤ i
  pub high : i < hi
  pub untrimmed : trim ≤ i
  pub reports : report ≡ told_of (cast_at i votes)

-- A majority of acceptors stands behind a proposal: each has sent a promise of the ballot for the instance, or is the ballot's owner,
-- whose start is one. What they report there is a vote of a lower ballot that they have cast, and outdoes each vote of a lower
-- ballot that they ever cast or hold there. A start that was stopped may report a vote that its own step recorded. The value is
-- that of the highest report, where there is one.
pub record Backs (table : RingTable) (h : History) (ballot i : ℕ) (value : Value) : Type 0 where
  pub members : ℕ → Bool
  pub majority : IsMajority (acceptors table) members
  pub report : ℕ → Option (Vote Value)
  pub promised : (k : ℕ) → k < acceptors table → members k ≡ true → HasPromised table h (acceptor_at table k) ballot i (report k) ⊎ (k ≡ owner (acceptors table) ballot)
  pub cast : (k : ℕ) → k < acceptors table → members k ≡ true → (vote : Vote Value) → report k ≡ Some vote
      → HasCast table h (acceptor_at table k) vote.ballot i vote.value
      ⊎ ((k ≡ owner (acceptors table) ballot) × IsInStopped table h (acceptor_at table k) vote.ballot i vote.value)
  pub lower : (k : ℕ) → k < acceptors table → members k ≡ true → rank (report k) ≤ ballot
  pub outdone : (k : ℕ) → k < acceptors table → members k ≡ true → (below : ℕ) (other : Value) → HasVoted table h (acceptor_at table k) below i other → below < ballot
      → below < rank (report k)
  pub due : IsDue (acceptors table) members report value

pub record ProposeRule (table : RingTable) (h : History) : Type 0 where
  pub one : (ballot i : ℕ) (u v : Value) → IsProposed table h ballot i u → IsProposed table h ballot i v → u ≡ v
  pub backed : (ballot i : ℕ) (value : Value) → IsProposed table h ballot i value → Backs table h ballot i value

-- ---- Choose

-- where a value is chosen, each proposal there of that ballot or a higher one is for it, also later
abbrev pub ChooseRule : RingTable → History → History → Type 0
ChooseRule table early late = (ballot i : ℕ) (value : Value) → IsChosenIn table early ballot i value → (higher : ℕ) (other : Value) → ballot ≤ higher
    → IsProposed table late higher i other → other ≡ value

-- two values chosen at one instance are equal, also where one is chosen later
abbrev pub OneValueRule : RingTable → History → History → Type 0
OneValueRule table early late = (i : ℕ) (u v : Value) → IsChosen table early i u → IsChosen table late i v → u ≡ v

-- ---- Learn

-- each value of a Decide or a Chosen, in a learner, and of a learn line is chosen at each of its instances
pub record LearnRule (table : RingTable) (h : History) : Type 0 where
  pub decide : (id : NodeId) (lo hi left : ℕ) (value : Value) → HasSent h id (body.Decide table.id lo hi left value) → (i : ℕ) → lo ≤ i → i < hi → IsChosen table h i value
  pub chosen : (id : NodeId) (ranges : List Decided) → HasSent h id (body.Chosen table.id ranges) → (range : Decided) → Has ranges range → (i : ℕ) → range.lo ≤ i → i < range.hi
      → IsChosen table h i range.value
  pub learner : (id : NodeId) (view : View) → h.world.hosts id.0 ≡ Up view → (p : RingPart) → part_at view table.id ≡ Some p → (i : ℕ) (value : Value)
      → value_in p.part.learner i ≡ Some value → IsChosen table h i value
  pub line : (id : NodeId) (lo hi : ℕ) (value : Value) → Has h.world.lines (Learn id table.id lo hi value) → (i : ℕ) → lo ≤ i → i < hi → IsChosen table h i value
