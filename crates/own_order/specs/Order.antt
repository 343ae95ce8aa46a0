-- A node's own order: what its replica does, deed by deed, and what it prints of it.
use Rattle.std.specs.Prelude.{◌≡◌, ◌⊎◌, ℕ, ◌<◌, ◌≤◌, Bool, true, false, List, [], ◌∷◌, ◌++◌, map, filter, Option, Some, None}
use Rattle.mrp_types.specs.declared.id.NodeId.{NodeId}
use Rattle.mrp_types.specs.declared.id.RingId.{RingId}
use Rattle.mrp_types.specs.declared.value.Value.{Value}
use Rattle.mrp_types.specs.declared.value.Value.TheVariants.{Skip, Batch}
use Rattle.mrp_types.specs.Moves.{first_tuple}
use Rattle.mrp_config.specs.Config.{Config}
use Rattle.mrp_config.specs.declared.tables.PartitionTable.{PartitionTable}
use Rattle.quorums.specs.Groups.{Has}
use Rattle.checkpoint.specs.Checkpoints.{Checkpoints}
use Rattle.vote_journal.specs.Journal.{Journal}
use Rattle.plain_model.specs.Replicas.{Replica, applies, empty_replica, entries_of_batch}
use Rattle.plain_model.specs.StateBytes.{state_of}
use Rattle.plain_model.specs.Tuples.{round_sizes, next_place, past, instances}
use Rattle.protocol.specs.Lines.{Line, Begin, Deliver, Learn, Reply, Restore}
use Rattle.protocol.specs.Merging.{reply_line}
use Rattle.protocol.specs.Node.{Event, Recovering, Ready, Service, Stage, View}
use Rattle.protocol.specs.Opening.{opened}
use Rattle.protocol.specs.Step.{step}

-- ---- a replica's deeds

-- where a ready replica stands, and what it keeps there
pub record Point : Type 0 where
  pub tuple : List (RingId × ℕ)
  pub replica : Replica

pub data Deed : Type 0 where
  -- an attempt of recovery begins
  Begins : (epoch attempt : ℕ) → (printed : List ℕ) → Deed
  -- the replica is restored at a tuple, with a state
  Restores : (tuple : List (RingId × ℕ)) → Replica → Deed
  -- it takes a value at its next place
  Takes : Value → Deed

abbrev pub place_at : Config → Point → RingId × ℕ
place_at c point = next_place (round_sizes c) point.tuple

abbrev pub moved : Config → Point → Replica → Point
moved c point replica = record { tuple = past (round_sizes c) point.tuple; replica = replica }

-- just past the place: a batch's entries are taken in their order, each by the fold's step
abbrev pub after_value : Config → PartitionTable → Point → Value → Point
after_value c p point Skip = moved c point point.replica
after_value c p point (Batch batch) = moved c point (applies p point.replica (entries_of_batch batch)).replica

-- a skip prints nothing; a batch its deliver line, and then the fold's reply to each entry that has one
abbrev pub value_lines : Config → NodeId → PartitionTable → Point → Value → List Line
value_lines c id p point Skip = []
value_lines c id p point (Batch batch) =
    Deliver id (place_at c point).0 (place_at c point).1 ∷ map (reply_line id (place_at c point)) (applies p point.replica (entries_of_batch batch)).replies

-- where it stands after a deed: nowhere while it recovers
abbrev pub next_point : Config → PartitionTable → Option Point → Deed → Option Point
next_point c p o (Begins epoch attempt printed) = None
next_point c p o (Restores tuple replica) = Some (record { tuple = tuple; replica = replica })
next_point c p None (Takes value) = None
next_point c p (Some point) (Takes value) = Some (after_value c p point value)

abbrev pub deed_lines : Config → NodeId → PartitionTable → Option Point → Deed → List Line
deed_lines c id p o (Begins epoch attempt printed) = Begin id epoch attempt printed ∷ []
deed_lines c id p o (Restores tuple replica) = Restore id (instances tuple) ∷ []
deed_lines c id p None (Takes value) = []
deed_lines c id p (Some point) (Takes value) = value_lines c id p point value

-- deed after deed
abbrev pub point_by : Config → PartitionTable → Option Point → List Deed → Option Point
point_by c p o [] = o
point_by c p o (deed ∷ deeds) = point_by c p (next_point c p o deed) deeds

abbrev pub lines_by : Config → NodeId → PartitionTable → Option Point → List Deed → List Line
lines_by c id p o [] = []
lines_by c id p o (deed ∷ deeds) = deed_lines c id p o deed ++ lines_by c id p (next_point c p o deed) deeds

-- ---- where values and states come from

-- the node has printed that it learned this value at the instance
pub record IsLearned (lines : List Line) (id : NodeId) (ring : RingId) (inst : ℕ) (value : Value) : Type 0 where
  pub lo : ℕ
  pub hi : ℕ
  pub there : Has lines (Learn id ring lo hi value)
  pub from : lo ≤ inst
  pub to : inst < hi

-- the empty state at the first tuple, or what some bytes are read as
abbrev pub IsRead : PartitionTable → List (RingId × ℕ) → Replica → Type 0
IsRead p tuple replica = ((tuple ≡ first_tuple p.rings) × (replica ≡ empty_replica p)) ⊎ ((bytes : List ℕ) × (state_of p bytes ≡ Some replica))

-- A replica takes values only once it is restored, and those that its node has learned.
abbrev pub IsOwn : Config → NodeId → PartitionTable → List Line → Option Point → Deed → Type 0
IsOwn c id p lines o (Begins epoch attempt printed) = Unit {0}
IsOwn c id p lines o (Restores tuple replica) = IsRead p tuple replica
IsOwn c id p lines None (Takes value) = ⊥
IsOwn c id p lines (Some point) (Takes value) = IsLearned lines id (place_at c point).0 (place_at c point).1 value

abbrev pub AreOwn : Config → NodeId → PartitionTable → List Line → Option Point → List Deed → Type 0
AreOwn c id p lines o [] = Unit {0}
AreOwn c id p lines o (deed ∷ deeds) = IsOwn c id p lines o deed × AreOwn c id p lines (next_point c p o deed) deeds

-- ---- a node's life

-- what a node knows, and what it has printed since its opening
pub record Lived : Type 0 where
  pub view : View
  pub lines : List Line

-- one step more, which ends well
abbrev pub after_event : Config → Lived → Event → Lived
after_event c l event = record { view = (step c l.view event).view; lines = l.lines ++ (step c l.view event).lines }

abbrev pub goes_on : Config → List Event → Lived → Lived
goes_on c [] l = l
goes_on c (event ∷ events) l = goes_on c events (after_event c l event)

-- a node that opened, and to which these events have happened, whatever frames are among them
abbrev pub life : Config → NodeId → Journal → Checkpoints → List Event → Lived
life c id journal checkpoints events = goes_on c events (record { view = (opened c id journal checkpoints).view; lines = (opened c id journal checkpoints).lines })

-- ---- the order

-- lines of attempts, restores, deliveries and replies
abbrev pub is_of_order : Line → Bool
is_of_order (Begin node epoch attempt printed) = true
is_of_order (Restore node printed) = true
is_of_order (Deliver node ring inst) = true
is_of_order (Reply node ring inst index client seq reply) = true
is_of_order other = false

abbrev pub point_of_stage : Stage → Option Point
point_of_stage (Recovering attempt) = None
point_of_stage (Ready standing) = Some (record { tuple = standing.tuple; replica = standing.replica })

abbrev pub point_of : Option Service → Option Point
point_of None = None
point_of (Some service) = point_of_stage service.stage

-- The lines of the order are those of some deeds, which leave the replica where it stands.
pub record KeepsOrder (c : Config) (id : NodeId) (p : PartitionTable) (l : Lived) : Type 0 where
  pub deeds : List Deed
  pub lines : filter is_of_order l.lines ≡ lines_by c id p None deeds
  pub point : point_of l.view.service ≡ point_by c p None deeds
  pub own : AreOwn c id p l.lines None deeds

-- ---- after a restore

-- neither a begin nor a restore line
abbrev pub IsBetween : Line → Type 0
IsBetween (Begin node epoch attempt printed) = ⊥
IsBetween (Restore node printed) = ⊥
IsBetween other = Unit {0}

-- nothing more, or a begin or a restore line first
abbrev pub IsEnd : List Line → Type 0
IsEnd [] = Unit {0}
IsEnd (Begin node epoch attempt printed ∷ after) = Unit {0}
IsEnd (Restore node printed ∷ after) = Unit {0}
IsEnd other = ⊥

abbrev pub taking : List Value → List Deed
taking values = map Takes values

-- where it stands at the end, if nothing came after
abbrev pub IsLeftAt : Config → PartitionTable → Point → List Value → Option Service → List Line → Type 0
IsLeftAt c p from values service [] = point_of service ≡ point_by c p (Some from) (taking values)
IsLeftAt c p from values service after = Unit {0}

-- From a tuple and a state on, the deliver and reply lines are those of values that the node has learned, taken one after the other
-- at the places from the tuple on.
pub record FollowsOrder (c : Config) (id : NodeId) (p : PartitionTable) (l : Lived) (printed : List ℕ) (since after : List Line) : Type 0 where
  pub from : Point
  pub at : printed ≡ instances from.tuple
  pub read : IsRead p from.tuple from.replica
  pub values : List Value
  pub lines : filter is_of_order since ≡ lines_by c id p (Some from) (taking values)
  pub own : AreOwn c id p l.lines (Some from) (taking values)
  pub left : IsLeftAt c p from values l.view.service after
