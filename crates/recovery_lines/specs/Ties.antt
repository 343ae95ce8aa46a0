-- What a node and its frames have to do with the lines so far, as far as tuples go: no state's bytes.
use Rattle.std.specs.Prelude.{◌≡◌, ℕ, ◌+◌, ◌<◌, ◌≤◌, ◌⊎◌, true, false, List, [], ◌∷◌, Option, Some, None, length, map}
use Rattle.std.specs.List.{AllByRecursion}
use Rattle.mrp_types.specs.declared.id.NodeId.{NodeId}
use Rattle.mrp_types.specs.declared.id.RingId.{RingId}
use Rattle.mrp_types.specs.declared.id.Party.{Party}
use Rattle.mrp_types.specs.declared.id.Party.TheVariants.{Node}
use Rattle.mrp_types.specs.declared.value.Value.{Value}
use Rattle.mrp_config.specs.Config.{Config, has_node, has_ring, partition_of, subscribers_of}
use Rattle.mrp_config.specs.declared.tables.PartitionTable.{PartitionTable}
use Rattle.frames.specs.declared.body.Body.{Body}
use Rattle.frames.specs.declared.body.Body.TheVariants.{Promise, Trimmed, TrimTo, AskCheckpoint, HaveCheckpoint, AskPart, Part as PartFrame, Gone, Safe}
use Rattle.frames.specs.declared.sent.Sent.{Sent}
use Rattle.range_map.specs.Entries.{IsIncreasingFrom}
use Rattle.vote_state.specs.State.{State, trim_at}
use Rattle.quorums.specs.Groups.{Has}
use Rattle.checkpoint.specs.Checkpoints.{Checkpoint}
use Rattle.plain_model.specs.Tuples.{round_sizes, is_tuple_of, instances}
use Rattle.protocol.specs.Lines.{Line, Chose}
use Rattle.protocol.specs.Parts.{Ring, Round}
use Rattle.protocol.specs.Learner.{value_in}
use Rattle.protocol.specs.Recovery.{tuple_of_newest}
use Rattle.protocol.specs.Node.{RingPart, Stage, Recovering, Ready, Choice, Service, StepSoFar, View, Stepped}
use Rattle.faithful.specs.Scanners.{Begun, Restored, past, touches, tuples_told, life, up_epoch, attempting, unchosen, chosen, before_begin, before_attempt, told, begun, entry_of, Reaches, some_reaches, position, book}
use Rattle.faithful.specs.Answers.{AreDifferent}
use Rattle.faithful.specs.Rules.{AllKnown, BySkips, Chooses, IsFaithfulLine, AreFaithful, AllHaveTold, HasNode, HasRing}

-- ---- the deployment

-- what is used of a deployment that was accepted
pub record IsFit (c : Config) : Type 0 where
  pub rounds : (ring : ℕ) → 0 < round_sizes c ring
  pub checkpoint : 0 < c.checkpoint
  pub meet : (p : PartitionTable) → Has c.partitions p → length p.replicas < p.trim_quorum + p.recovery_quorum
  pub some : (p : PartitionTable) → Has c.partitions p → 0 < length p.rings
  pub quorum : (p : PartitionTable) → Has c.partitions p → 0 < p.recovery_quorum
  -- a node is a replica of one partition at most
  pub alone : (p : PartitionTable) (node : NodeId) → Has c.partitions p → has_node p.replicas node.0 ≡ true → partition_of c.partitions node ≡ Some p

-- ---- trims

-- a trim is covered: it is 0, or some partition subscribes, and in each that does a trim quorum of replicas have told an entry
-- of the ring that reaches it
abbrev pub IsCovered : Config → List Line → RingId → ℕ → Type 0
IsCovered c lines ring inst = (inst ≡ 0) ⊎ AllHaveTold lines ring inst (subscribers_of c.partitions ring)

-- each trim of a state is
abbrev pub AreCovered : Config → List Line → State → Type 0
AreCovered c lines s = (ring : RingId) → IsCovered c lines ring (trim_at s ring)

-- a printed tuple reaches all that is covered, of each of its rings
abbrev pub ReachesCovered : Config → List Line → List RingId → List ℕ → Type 0
ReachesCovered c lines rings printed = (ring : RingId) (inst : ℕ) → has_ring rings ring.0 ≡ true → IsCovered c lines ring inst → inst ≤ entry_of rings ring printed

-- ---- lines

-- a line is right: it meets its rule, and a choice reaches all that was covered when its attempt began
abbrev pub IsRightLine : Config → List Line → Line → Type 0
IsRightLine c before (Chose node epoch attempt tuple from) = (rule : Chooses c before node epoch attempt tuple from) × ReachesCovered c rule.earlier rule.partition.rings tuple
IsRightLine c before other = IsFaithfulLine c before other

-- all of them
abbrev pub AreRight : Config → List Line → Type 0
AreRight c [] = Unit {0}
AreRight c (l ∷ before) = IsRightLine c before l × AreRight c before

-- ---- frames

-- r told a tuple, at or after all that it had told when attempt (e, n) of x began
pub record IsAnswer (lines : List Line) (x e n r : ℕ) (printed : List ℕ) : Type 0 where
  pub before : List Line
  pub begins : before_attempt x e n lines ≡ Some before
  pub tells : Has (told r lines) printed
  pub reaches : (earlier : List ℕ) → Has (told r before) earlier → Reaches printed earlier

-- where a node is a replica of a subscribed partition, it told an entry of the ring of at least this, or it is 0
abbrev pub IsSafe : Config → List Line → RingId → NodeId × ℕ → Type 0
IsSafe c lines ring answer =
    (p : PartitionTable) → Has (subscribers_of c.partitions ring) p → has_node p.replicas answer.0.0 ≡ true
    → (answer.1 ≡ 0) ⊎ (some_reaches p.rings ring answer.1 (told answer.0.0 lines) ≡ true)

-- and it is one of such a partition
pub record TellsSafe (c : Config) (lines : List Line) (ring : RingId) (answer : NodeId × ℕ) : Type 0 where
  pub partition : PartitionTable
  pub subscribes : Has (subscribers_of c.partitions ring) partition
  pub replica : has_node partition.replicas answer.0.0 ≡ true
  pub told : (answer.1 ≡ 0) ⊎ (some_reaches partition.rings ring answer.1 (told answer.0.0 lines) ≡ true)

-- a node told a valid tuple of its partition
pub record TellsTuple (c : Config) (lines : List Line) (x : NodeId) (tuple : List (RingId × ℕ)) : Type 0 where
  pub partition : PartitionTable
  pub replica : partition_of c.partitions x ≡ Some partition
  pub valid : is_tuple_of (round_sizes c) partition.rings tuple ≡ true
  pub told : Has (told x.0 lines) (instances tuple)

abbrev pub BodySaid : Config → List Line → NodeId → NodeId → Body → Type 0
BodySaid c lines from to (AskCheckpoint e n) = (before : List Line) × (before_attempt from.0 e n lines ≡ Some before)
BodySaid c lines from to (HaveCheckpoint e n tuple) = IsAnswer lines to.0 e n from.0 (instances tuple) × TellsTuple c lines from tuple
BodySaid c lines from to (AskPart e n tuple offset) = TellsTuple c lines to tuple
BodySaid c lines from to (PartFrame e n tuple offset total bytes) = TellsTuple c lines from tuple
BodySaid c lines from to (Gone e n asked newer) = (from.0 ≡ to.0 → ⊥) × (TellsTuple c lines from asked × TellsTuple c lines from newer)
BodySaid c lines from to (Safe ring round inst) = TellsSafe c lines ring (from, inst)
BodySaid c lines from to (Promise ring ballot lo hi trim votes) = IsCovered c lines ring trim
BodySaid c lines from to (Trimmed ring trim) = IsCovered c lines ring trim
BodySaid c lines from to (TrimTo ring trim) = IsCovered c lines ring trim
BodySaid c lines from to other = Unit {0}

abbrev pub PartySaid : Config → List Line → Party → Party → Body → Type 0
PartySaid c lines (Node from) (Node to) body = BodySaid c lines from to body
PartySaid c lines from to body = Unit {0}

abbrev pub IsSaid : Config → List Line → Sent → Type 0
IsSaid c lines sent = PartySaid c lines sent.frame.from sent.to sent.frame.body

-- ---- rounds and learners

pub record RoundLines (c : Config) (lines : List Line) (ring : RingId) (answers : List (NodeId × ℕ)) : Type 0 where
  pub different : AreDifferent answers
  pub safe : AllByRecursion (IsSafe c lines ring) answers

abbrev pub CurrentLines : Config → List Line → RingId → Option Round → Type 0
CurrentLines c lines ring None = Unit {0}
CurrentLines c lines ring (Some round) = RoundLines c lines ring round.answers

-- what a node holds of a ring: a learner's values are the book's
pub record PartLines (lines : List Line) (p : RingPart) : Type 0 where
  pub ordered : IsIncreasingFrom 0 p.part.learner.held
  pub booked : (inst : ℕ) (value : Value) → value_in p.part.learner inst ≡ Some value → book lines p.ring.id inst ≡ Some value

-- the answers of a round, and the own trim
pub record PartTold (c : Config) (lines : List Line) (p : RingPart) : Type 0 where
  pub round : CurrentLines c lines p.ring.id p.part.rounds.current
  pub trim : IsCovered c lines p.ring.id p.part.kept.trim

-- a ring as the deployment has it for a node
pub record IsPlaced (c : Config) (x : NodeId) (ring : Ring) : Type 0 where
  pub fits_node : HasNode c ring.own
  pub fits_ring : HasRing c ring.id
  pub own : ring.own ≡ x
  pub subscribers : ring.subscribers ≡ subscribers_of c.partitions ring.id

abbrev pub rings_in : List RingPart → List Ring
rings_in parts = map (λ (p : RingPart). p.ring) parts

-- ---- tuples that were told

-- what a line tells is known
abbrev pub TellsKnown : Config → List Line → Line → Type 0
TellsKnown c lines l =
    (r : NodeId) (p : PartitionTable) (k : List (RingId × ℕ)) → touches r.0 l ≡ true → partition_of c.partitions r ≡ Some p → is_tuple_of (round_sizes c) p.rings k ≡ true
    → Has (tuples_told l) (instances k) → AllKnown lines k

-- all below each tuple that was told is known
abbrev pub KnownLines : Config → List Line → Type 0
KnownLines c lines =
    (r : NodeId) (p : PartitionTable) (k : List (RingId × ℕ)) → partition_of c.partitions r ≡ Some p → is_tuple_of (round_sizes c) p.rings k ≡ true
    → Has (told r.0 lines) (instances k) → AllKnown lines k

-- ---- a replica

abbrev pub newest_of : PartitionTable → Option Checkpoint → List ℕ
newest_of p newest = instances (tuple_of_newest p newest)

-- what is so of a possible state of a replica, up or down: its newest tuple is a valid one, all below it is known, and it
-- reaches all that was told; its epoch is at least that of each begin line
pub record KeptLines (c : Config) (lines : List Line) (x : NodeId) (epoch : ℕ) (p : PartitionTable) (newest : Option Checkpoint) : Type 0 where
  pub older : (other : ℕ × ℕ) → Has (begun x.0 lines) other → other.0 ≤ epoch
  pub valid : is_tuple_of (round_sizes c) p.rings (tuple_of_newest p newest) ≡ true
  pub known : AllKnown lines (tuple_of_newest p newest)
  pub reaches : (earlier : List ℕ) → Has (told x.0 lines) earlier → Reaches (newest_of p newest) earlier

-- what is so of a replica that is up, whatever its stage, also before its first attempt
pub record OwnLines (c : Config) (lines : List Line) (x : NodeId) (epoch : ℕ) (newest : Option Checkpoint) (p : PartitionTable) (attempts : ℕ) : Type 0 where
  pub replica : partition_of c.partitions x ≡ Some p
  pub kept : KeptLines c lines x epoch p newest
  pub up : up_epoch x.0 lines ≡ Some (Some epoch)
  pub counted : (other : ℕ × ℕ) → Has (begun x.0 lines) other → (other.0 < epoch) ⊎ ((other.0 ≡ epoch) × (other.1 ≤ attempts))

-- an answer that an attempt has
pub record AnswerLines (c : Config) (lines : List Line) (x : NodeId) (epoch : ℕ) (newest : Option Checkpoint) (p : PartitionTable) (number : ℕ) (answer : NodeId × List (RingId × ℕ)) : Type 0 where
  pub replica : has_node p.replicas answer.0.0 ≡ true
  pub valid : is_tuple_of (round_sizes c) p.rings answer.1 ≡ true
  pub said : IsAnswer lines x.0 epoch number answer.0.0 (instances answer.1)
  pub own : answer.0.0 ≡ x.0 → answer.1 ≡ tuple_of_newest p newest

-- an attempt, but for its choice
pub record AttemptLines (c : Config) (lines : List Line) (x : NodeId) (epoch : ℕ) (newest : Option Checkpoint) (p : PartitionTable) (number : ℕ) (answers : List (NodeId × List (RingId × ℕ))) : Type 0 where
  pub current : attempting x.0 lines ≡ Some (Some (epoch, number))
  pub begun : life x.0 lines ≡ Some Begun
  pub earlier : List Line
  pub begins : before_begin x.0 lines ≡ Some earlier
  pub first : before_attempt x.0 epoch number lines ≡ Some earlier
  -- the lines before it are lines so far
  pub faithful : AreFaithful c earlier
  pub different : AreDifferent answers
  -- the own newest is among them
  pub heard : Has answers (x, tuple_of_newest p newest)
  pub answered : AllByRecursion (AnswerLines c lines x epoch newest p number) answers

-- a choice: of a tuple at or after all answers
pub record ChoiceLines (c : Config) (lines : List Line) (x : NodeId) (p : PartitionTable) (answers : List (NodeId × List (RingId × ℕ))) (tuple : List (RingId × ℕ)) (from : NodeId) : Type 0 where
  pub replica : has_node p.replicas from.0 ≡ true
  pub valid : is_tuple_of (round_sizes c) p.rings tuple ≡ true
  pub told : Has (told from.0 lines) (instances tuple)
  pub chosen : chosen x.0 lines ≡ Some (Some (instances tuple))
  pub enough : p.recovery_quorum ≤ length answers
  pub reaches : AllByRecursion (λ (answer : NodeId × List (RingId × ℕ)). Reaches (instances tuple) (instances answer.1)) answers

abbrev pub ChosenLines : Config → List Line → NodeId → ℕ → PartitionTable → ℕ → List (NodeId × List (RingId × ℕ)) → Option Choice → Type 0
ChosenLines c lines x epoch p number answers None = (unchosen x.0 lines ≡ Some (Some (epoch, number))) × (length answers < p.recovery_quorum)
ChosenLines c lines x epoch p number answers (Some choice) = ChoiceLines c lines x p answers choice.tuple choice.from

-- a ready replica
pub record ReadyLines (c : Config) (lines : List Line) (x : NodeId) (newest : Option Checkpoint) (p : PartitionTable) (tuple : List (RingId × ℕ)) (delivered : ℕ) : Type 0 where
  pub ready : life x.0 lines ≡ Some Restored
  pub valid : is_tuple_of (round_sizes c) p.rings tuple ≡ true
  pub known : AllKnown lines tuple
  pub reached : BySkips (round_sizes c) p.rings lines (position (round_sizes c) p.rings x.0 lines) tuple
  pub after : Reaches (instances tuple) (newest_of p newest)
  pub later : 0 < delivered → Reaches (newest_of p newest) (instances tuple) → ⊥

abbrev pub StageLines : Config → List Line → NodeId → ℕ → Option Checkpoint → PartitionTable → Stage → Type 0
StageLines c lines x epoch newest p (Recovering attempt) =
    AttemptLines c lines x epoch newest p attempt.number attempt.answers × ChosenLines c lines x epoch p attempt.number attempt.answers attempt.choice
StageLines c lines x epoch newest p (Ready standing) = ReadyLines c lines x newest p standing.tuple standing.delivered

pub record ServiceLines (c : Config) (lines : List Line) (x : NodeId) (epoch : ℕ) (newest : Option Checkpoint) (service : Service) : Type 0 where
  pub own : OwnLines c lines x epoch newest service.partition service.attempts
  pub told : Has (told x.0 lines) (newest_of service.partition newest)
  pub stage : StageLines c lines x epoch newest service.partition service.stage

abbrev pub ReplicaLines : Config → List Line → NodeId → ℕ → Option Checkpoint → Option Service → Type 0
ReplicaLines c lines x epoch newest None = partition_of c.partitions x ≡ None
ReplicaLines c lines x epoch newest (Some service) = ServiceLines c lines x epoch newest service

-- ---- a step on its way

-- a line that no other node's life has
abbrev pub IsOf : NodeId → Line → Type 0
IsOf x l = (other : ℕ) → (x.0 ≡ other → ⊥) → touches other l ≡ false

-- all but the replica
pub record DoneLines (c : Config) (before lines : List Line) (a : StepSoFar) : Type 0 where
  pub printed : past before a.lines ≡ lines
  pub own : AllByRecursion (IsOf a.view.id) a.lines
  pub right : AreRight c lines
  pub known : KnownLines c lines
  pub frames : AllByRecursion (IsSaid c lines) a.frames
  pub replies : AllByRecursion (IsSaid c lines) a.replies
  pub parts : AllByRecursion (PartLines lines) a.view.parts

pub record ActLines (c : Config) (before lines : List Line) (a : StepSoFar) : Type 0 where
  pub done : DoneLines c before lines a
  pub replica : ReplicaLines c lines a.view.id a.view.journal.state.epoch a.view.checkpoints.newest a.view.service

-- after some lines more
pub record AfterLines (c : Config) (before : List Line) (a : StepSoFar) : Type 0 where
  pub lines : List Line
  pub ties : ActLines c before lines a

-- ---- a step's end

-- what a step leaves, once its work is done: `lines` are those so far with its own
pub record StepLines (c : Config) (before lines : List Line) (x : NodeId) (effects : Stepped) : Type 0 where
  pub printed : past before effects.lines ≡ lines
  pub own : AllByRecursion (IsOf x) effects.lines
  pub right : AreRight c lines
  pub known : KnownLines c lines
  pub frames : AllByRecursion (IsSaid c lines) effects.frames
  pub parts : AllByRecursion (PartLines lines) effects.view.parts
  pub replica : ReplicaLines c lines x effects.view.journal.state.epoch effects.view.checkpoints.newest effects.view.service

-- between two steps
pub record ViewLines (c : Config) (lines : List Line) (view : View) : Type 0 where
  pub right : AreRight c lines
  pub known : KnownLines c lines
  pub parts : AllByRecursion (PartLines lines) view.parts
  pub replica : ReplicaLines c lines view.id view.journal.state.epoch view.checkpoints.newest view.service
