-- What a node knows and keeps of a ring of which it is a member.
use Rattle.std.specs.Prelude.{ℕ, List, Option, Bool}
use Rattle.mrp_types.specs.declared.id.NodeId.{NodeId}
use Rattle.mrp_types.specs.declared.id.RingId.{RingId}
use Rattle.mrp_types.specs.declared.value.Value.{Value}
use Rattle.mrp_types.specs.declared.value.Entry.{Entry}
use Rattle.mrp_types.specs.declared.voted.Decided.{Decided}
use Rattle.mrp_config.specs.declared.tables.PartitionTable.{PartitionTable}
use Rattle.vote_state.specs.declared.cast.Cast.{Cast}
use Rattle.vote_state.specs.declared.ring.RingState.{RingState}
use Rattle.vote_state.specs.declared.change.Change.{Change}
use Rattle.frames.specs.declared.sent.Sent.{Sent}
use Rattle.skip_leveller.specs.Levelling.{Levelling}
use Rattle.protocol.specs.Lines.{Line}

-- A ring as one of its members sees it. Nothing here changes.
pub record Ring : Type 0 where
  pub id : RingId
  pub own : NodeId
  -- the acceptors by their positions
  pub acceptors : List NodeId
  -- the acceptors as listed, then the subscribed replicas that aren't acceptors, by id
  pub members : List NodeId
  -- the partitions that subscribe, by id
  pub subscribers : List PartitionTable
  pub window : ℕ
  pub lambda : ℕ
  pub delta : ℕ

-- a command that waits to be learned, and whether the coordinator proposed it in its ballot
pub record Pending : Type 0 where
  pub entry : Entry
  pub proposed : Bool

-- a ballot that its coordinator started
pub record Campaign : Type 0 where
  pub ballot : ℕ
  -- the next instance to be proposed at
  pub next : ℕ
  -- for each position, up to where its acceptor's votes are reported
  pub covered : List ℕ
  -- the reported vote of the highest ballot at each instance, in increasing order of instance
  pub reports : List (ℕ × Cast)
  -- the proposals of which an instance is neither learned nor trimmed, in order
  pub outstanding : List Decided
  -- the oldest first
  pub pending : List Pending
  pub leveller : Levelling

pub data Role : Type 0 where
  Idle : Role
  Active : Campaign → Role

-- the greatest ballot seen in a Refuse, and what is going on
pub record Coordinator : Type 0 where
  pub top : ℕ
  pub role : Role

-- what was learned from the base on, in increasing order of instance
pub record Learner : Type 0 where
  pub base : ℕ
  pub held : List (ℕ × Value)

-- a round of trimming: the own trim when it was asked, and the first answer of each replica, in the order in which they came
pub record Round : Type 0 where
  pub number : ℕ
  pub last : ℕ
  pub answers : List (NodeId × ℕ)

-- how many rounds were asked since the node's opening, and the one that has no end yet
pub record Rounds : Type 0 where
  pub asked : ℕ
  pub current : Option Round

-- all that a node keeps of a ring; a node that is no acceptor of it keeps no votes and is Idle for ever
pub record Part : Type 0 where
  pub kept : RingState
  pub coordinator : Coordinator
  pub learner : Learner
  pub rounds : Rounds

-- What a rule makes: the part as it is then, and what is added. A range that the rule decides is to be learned: the node
-- does that after the rule, range by range.
pub record Effects : Type 0 where
  pub part : Part
  pub changes : List Change
  pub frames : List Sent
  pub lines : List Line
  pub learned : List Decided
