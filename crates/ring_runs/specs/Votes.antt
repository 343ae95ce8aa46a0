-- Votes and proposals of a ring in a history, in the words of frames, of what nodes keep, and of what was recorded.
use Rattle.std.specs.Prelude.{◌≡◌, ◌⊎◌, ℕ, ◌<◌, ◌≤◌, Bool, true, Some}
use Rattle.mrp_types.specs.declared.id.NodeId.{NodeId}
use Rattle.mrp_types.specs.declared.id.Party.TheVariants.{Node}
use Rattle.mrp_types.specs.declared.value.Value.{Value}
use Rattle.mrp_types.specs.declared.voted.Voted.{Voted}
use Rattle.mrp_types.specs.Seats.{seat_of}
use Rattle.mrp_config.specs.declared.tables.RingTable.{RingTable}
use Rattle.frames.specs.declared.body.Body.{Body}
use Rattle.frames.specs.declared.body.Body.TheVariants as body
use Rattle.frames.specs.declared.sent.Sent.{Sent}
use Rattle.quorums.specs.Groups.{Has, IsMajority}
use Rattle.range_map.specs.Entries.{value_at}
use Rattle.vote_state.specs.declared.change.Change.TheVariants as change
use Rattle.vote_state.specs.State.{State, ring_at}
use Rattle.ring_safety.specs.Faces.{owner}
use Rattle.protocol.specs.Node.{Work}
use Rattle.beside_rings.specs.Beside.{changes_in}
use Rattle.bare_world.specs.Worlds.{Host, Up, Down}
use Rattle.ring_runs.specs.Histories.{History}
use Rattle.ring_runs.specs.Seats.{acceptors, acceptor_at}

-- ---- nodes and frames

-- A possible state: what the disk of a node stands for, or may stand for while it is down.
abbrev pub MayKeep : Host → State → Type 0
MayKeep (Up view) state = state ≡ view.journal.state
MayKeep (Down durable pending) state = (state ≡ durable.state) ⊎ (state ≡ pending.state)

-- the node has sent this frame
pub record HasSent (h : History) (id : NodeId) (b : Body) : Type 0 where
  pub sent : Sent
  pub there : Has h.world.frames sent
  pub by : sent.frame.from ≡ Node id
  pub same : sent.frame.body ≡ b

-- the node is an acceptor of the ring
pub record IsAcceptor (table : RingTable) (id : NodeId) : Type 0 where
  pub position : ℕ
  pub there : seat_of id table.acceptors ≡ Some position

-- ---- votes

-- The node has cast a vote: a step recorded it that ended well, or that was stopped and that a restart found on the disk, also where
-- the opening of that restart failed, or where that step itself overwrote the vote or let it go.
pub record HasCast (table : RingTable) (h : History) (id : NodeId) (ballot i : ℕ) (value : Value) : Type 0 where
  pub work : Work
  pub there : Has h.done (id, work)
  pub vote : Voted
  pub recorded : Has (changes_in work) (change.Vote table.id vote)
  pub from : vote.lo ≤ i
  pub to : i < vote.hi
  pub of_ballot : ballot ≡ vote.ballot
  pub of_value : value ≡ vote.value

-- The step of the node that was stopped recorded the vote; its next restart may find that record on the disk, or not.
pub record IsInStopped (table : RingTable) (h : History) (id : NodeId) (ballot i : ℕ) (value : Value) : Type 0 where
  pub vote : Voted
  pub recorded : Has (changes_in (h.stopped id.0)) (change.Vote table.id vote)
  pub from : vote.lo ≤ i
  pub to : i < vote.hi
  pub of_ballot : ballot ≡ vote.ballot
  pub of_value : value ≡ vote.value

-- a possible state of the node holds a vote
pub record MayHold (table : RingTable) (h : History) (id : NodeId) (ballot i : ℕ) (value : Value) : Type 0 where
  pub state : State
  pub keeps : MayKeep (h.world.hosts id.0) state
  pub held : value_at i (ring_at state table.id).votes ≡ Some (record { ballot = ballot; value = value })

abbrev pub HasVoted : RingTable → History → NodeId → (ballot i : ℕ) → Value → Type 0
HasVoted table h id ballot i value = HasCast table h id ballot i value ⊎ MayHold table h id ballot i value

-- ---- proposals

-- an Accept frame has asked for votes
pub record IsInAccept (table : RingTable) (h : History) (ballot i : ℕ) (value : Value) : Type 0 where
  pub from : NodeId
  pub lo : ℕ
  pub hi : ℕ
  pub mask : ℕ
  pub sent : HasSent h from (body.Accept table.id ballot lo hi mask value)
  pub low : lo ≤ i
  pub high : i < hi

-- a vote of the ballot's owner in its own ballot
pub record IsOwners (table : RingTable) (h : History) (ballot i : ℕ) (value : Value) : Type 0 where
  pub id : NodeId
  pub owns : seat_of id table.acceptors ≡ Some (owner (acceptors table) ballot)
  pub voted : HasVoted table h id ballot i value

-- The value is proposed at the instance in the ballot.
abbrev pub IsProposed : RingTable → History → (ballot i : ℕ) → Value → Type 0
IsProposed table h ballot i value = IsInAccept table h ballot i value ⊎ IsOwners table h ballot i value

-- ---- what is chosen

-- a majority of the ring's acceptors has cast the value at the instance in this ballot
pub record IsChosenIn (table : RingTable) (h : History) (ballot i : ℕ) (value : Value) : Type 0 where
  pub members : ℕ → Bool
  pub majority : IsMajority (acceptors table) members
  pub cast : (k : ℕ) → k < acceptors table → members k ≡ true → HasCast table h (acceptor_at table k) ballot i value

-- in some ballot
pub record IsChosen (table : RingTable) (h : History) (i : ℕ) (value : Value) : Type 0 where
  pub ballot : ℕ
  pub chosen : IsChosenIn table h ballot i value
