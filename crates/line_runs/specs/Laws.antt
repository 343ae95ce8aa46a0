-- The words in which the laws of every run are said. A run's lines stand in the order in which they were printed; "the lines
-- before" a line are turned round by `latest_first`, as the definitions of what is read of lines want them.
use Rattle.std.specs.Prelude.{◌≡◌, ℕ, ◌<◌, ◌≤◌, ◌⊎◌, true, List, [], ◌∷◌, ◌++◌, Option, Some, None, length, Bool, count_by}
use Rattle.mrp_types.specs.declared.id.NodeId.{NodeId}
use Rattle.mrp_types.specs.declared.id.RingId.{RingId}
use Rattle.mrp_types.specs.declared.id.Party.TheVariants.{Node}
use Rattle.mrp_types.specs.declared.value.Value.{Value}
use Rattle.mrp_config.specs.Config.{Config, has_node, has_ring, partition_of, subscribers_of}
use Rattle.mrp_config.specs.Valid.{IsValid}
use Rattle.mrp_config.specs.declared.tables.PartitionTable.{PartitionTable}
use Rattle.frames.specs.declared.body.Body.{Body}
use Rattle.frames.specs.declared.body.Body.TheVariants.{Promise, Trimmed, TrimTo, HaveCheckpoint, AskPart, Part as PartFrame, Gone, Safe}
use Rattle.frames.specs.declared.sent.Sent.{Sent}
use Rattle.quorums.specs.Groups.{Has}
use Rattle.plain_model.specs.Tuples.{round_sizes, is_tuple_of, instances}
use Rattle.protocol.specs.Lines.{Line, Begin, Learn, Restore, Trim}
use Rattle.protocol.specs.Recovery.{tuple_of_newest}
use Rattle.bare_world.specs.Worlds.{Possible, Host, Up, Down, Happening, nothing, possible_of}
use Rattle.bare_world.specs.Runs.{run, MayRun}
use Rattle.faithful.specs.Scanners.{before_begin, told, Reaches, entry_of}
use Rattle.faithful.specs.Rules.{AllKnown}
use Rattle.recovery_lines.specs.Ties.{ReachesCovered, newest_of}
use Rattle.line_runs.specs.Invariant.{latest_first}

-- one value of all learn lines of a ring: two of them that cover an instance have the same
abbrev pub HaveOneValue : List Line → Type 0
HaveOneValue lines =
    (m n : NodeId) (ring : RingId) (lo hi lo' hi' inst : ℕ) (value value' : Value) → Has lines (Learn m ring lo hi value) → Has lines (Learn n ring lo' hi' value')
    → lo ≤ inst → inst < hi → lo' ≤ inst → inst < hi' → value ≡ value'

-- a run of a valid deployment, from the world in which no node has opened yet
pub record IsRun (c : Config) (hs : List Happening) : Type 0 where
  pub valid : IsValid c
  pub may : MayRun c nothing hs

abbrev pub lines_of : Config → List Happening → List Line
lines_of c hs = (run c hs nothing).lines

-- a node's host in the world that a run leaves
abbrev pub host_of : Config → List Happening → ℕ → Host
host_of c hs n = (run c hs nothing).hosts n

-- what the disk of a node may stand for: one state of a node that is up, and two of one that is down
abbrev pub IsPossible : Host → Possible → Type 0
IsPossible (Up view) s = s ≡ possible_of view
IsPossible (Down durable pending) s = (s ≡ durable) ⊎ (s ≡ pending)

-- the trim that a frame tells
abbrev pub trim_told : Body → Option (RingId × ℕ)
trim_told (Promise ring ballot lo hi trim votes) = Some (ring, trim)
trim_told (Trimmed ring trim) = Some (ring, trim)
trim_told (TrimTo ring trim) = Some (ring, trim)
trim_told other = None

-- one node sent a frame to another
pub record NodeSent (sent : Sent) (from to : NodeId) (body : Body) : Type 0 where
  pub from_node : sent.frame.from ≡ Node from
  pub to_node : sent.to ≡ Node to
  pub same : sent.frame.body ≡ body

-- Of a replica's possible state: its newest tuple, or the zeros without one, is a valid one of the partition; every place below
-- it is in the book; and it reaches every tuple that the node told by a begin or saved line.
pub record KeepsTold (c : Config) (lines : List Line) (n : ℕ) (p : PartitionTable) (s : Possible) : Type 0 where
  pub valid : is_tuple_of (round_sizes c) p.rings (tuple_of_newest p s.newest) ≡ true
  pub known : AllKnown lines (tuple_of_newest p s.newest)
  pub reaches : (earlier : List ℕ) → Has (told n lines) earlier → Reaches (newest_of p s.newest) earlier

-- the checkpoints that a frame names or carries, each with the node that told it
abbrev pub checkpoints_of : NodeId → NodeId → Body → List (NodeId × List (RingId × ℕ))
checkpoints_of from to (HaveCheckpoint epoch attempt tuple) = (from, tuple) ∷ []
checkpoints_of from to (AskPart epoch attempt tuple offset) = (to, tuple) ∷ []
checkpoints_of from to (PartFrame epoch attempt tuple offset total bytes) = (from, tuple) ∷ []
checkpoints_of from to (Gone epoch attempt asked newer) = (from, asked) ∷ (from, newer) ∷ []
checkpoints_of from to other = []

-- Of a replica's possible state: its newest tuple, or the zeros without one, reaches every tuple that the node told by a begin or
-- saved line, every checkpoint of its own that a frame names or carries, and every entry that it told in a Safe frame.
pub record ReachesTold (c : Config) (hs : List Happening) (x : NodeId) (p : PartitionTable) (s : Possible) : Type 0 where
  pub by_lines : (earlier : List ℕ) → Has (told x.0 (latest_first (lines_of c hs))) earlier → Reaches (newest_of p s.newest) earlier
  pub by_frames : (sent : Sent) (from to : NodeId) (body : Body) (tuple : List (RingId × ℕ)) → Has (run c hs nothing).frames sent → NodeSent sent from to body → Has (checkpoints_of from to body) (x, tuple)
      → Reaches (newest_of p s.newest) (instances tuple)
  pub by_answers : (sent : Sent) (to : NodeId) (ring : RingId) (round inst : ℕ) → Has (run c hs nothing).frames sent → NodeSent sent x to (Safe ring round inst)
      → inst ≤ entry_of p.rings ring (newest_of p s.newest)

-- A recovery starts at or past every trim, of every ring of its partition, whose line stands before the begin line of its
-- attempt, and past all that is covered by then, whether a line tells of it or not: `earlier` are the lines before that line.
pub record StartsPast (c : Config) (before : List Line) (x : NodeId) (printed : List ℕ) : Type 0 where
  pub partition : PartitionTable
  pub replica : partition_of c.partitions x ≡ Some partition
  pub earlier : List Line
  pub begins : before_begin x.0 before ≡ Some earlier
  pub trims : (m : NodeId) (ring : RingId) (inst : ℕ) → Has earlier (Trim m ring inst) → has_ring partition.rings ring.0 ≡ true → inst ≤ entry_of partition.rings ring printed
  pub covered : ReachesCovered c earlier partition.rings printed

-- A replica of a partition is restored in the second part of a run by an attempt that began there: of the lines after those of the
-- first part one begins an attempt of the node, and the restore line stands after it.
pub record RestoresSince (c : Config) (first second : List Happening) (x : NodeId) (p : PartitionTable) (printed : List ℕ) : Type 0 where
  pub replica : partition_of c.partitions x ≡ Some p
  pub epoch : ℕ
  pub attempt : ℕ
  pub tuple : List ℕ
  pub between : List Line
  pub since : List Line
  pub after : List Line
  pub at : lines_of c (first ++ second) ≡ lines_of c first ++ (between ++ Begin x epoch attempt tuple ∷ (since ++ Restore x printed ∷ after))

-- A trim quorum of a partition's replicas hold an entry of a ring: those that pass a test are at least as many, and each of them
-- has, in every state that its disk may stand for, a newest checkpoint whose entry reaches it.
pub record HeldBy (c : Config) (hs : List Happening) (ring : RingId) (inst : ℕ) (p : PartitionTable) : Type 0 where
  pub test : NodeId → Bool
  pub enough : p.trim_quorum ≤ count_by test p.replicas
  pub held : (x : NodeId) → has_node p.replicas x.0 ≡ true → test x ≡ true → (s : Possible) → IsPossible (host_of c hs x.0) s → inst ≤ entry_of p.rings ring (newest_of p s.newest)

-- it is 0, or some partition subscribes and in each that does a trim quorum holds it
abbrev pub IsHeld : Config → List Happening → RingId → ℕ → Type 0
IsHeld c hs ring inst =
    (inst ≡ 0) ⊎ ((0 < length (subscribers_of c.partitions ring)) × ((p : PartitionTable) → Has (subscribers_of c.partitions ring) p → HeldBy c hs ring inst p))
