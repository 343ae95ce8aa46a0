-- A node: what it keeps, what may happen to it, and what it does in one step.
use Rattle.std.specs.Prelude.{ℕ, List, [], ◌∷◌, ◌++◌, Option, Some, None, Bool, false, if◌then◌else◌, ◌==◌, nat_lt}
use Rattle.mrp_types.specs.declared.id.NodeId.{NodeId}
use Rattle.mrp_types.specs.declared.id.RingId.{RingId}
use Rattle.frames.specs.declared.frame.Frame.{Frame}
use Rattle.frames.specs.declared.sent.Sent.{Sent}
use Rattle.vote_state.specs.declared.change.Change.{Change}
use Rattle.disk_model.specs.Calls.{Told}
use Rattle.disk_model.specs.Running.{Op}
use Rattle.gate_log.specs.Records.{end_of}
use Rattle.vote_journal.specs.Journal.{Journal, recorded, recorded_end, compact_record}
use Rattle.vote_journal.specs.Operations.{record_ops, compaction_ops}
use Rattle.ring_link.specs.Silence.{Link}
use Rattle.mrp_config.specs.declared.tables.PartitionTable.{PartitionTable}
use Rattle.checkpoint.specs.Checkpoints.{Checkpoints, save_ops}
use Rattle.plain_model.specs.Replicas.{Replica}
use Rattle.plain_model.specs.StateBytes.{state_bytes}
use Rattle.plain_model.specs.Tuples.{instances}
use Rattle.protocol.specs.Lines.{Line, ShownState}
use Rattle.protocol.specs.Parts.{Ring, Part}

-- ---- what a node keeps

-- a ring of which the node is a member, and what it keeps of it
pub record RingPart : Type 0 where
  pub ring : Ring
  pub part : Part

-- The checkpoint that an attempt has chosen, of which node, and the bytes of its state that came so far.
pub record Choice : Type 0 where
  pub tuple : List (RingId × ℕ)
  pub from : NodeId
  pub bytes : List ℕ

-- An attempt of recovery: its number, its ticks so far, and the first answer of each replica, the own first.
pub record Attempt : Type 0 where
  pub number : ℕ
  pub ticks : ℕ
  pub answers : List (NodeId × List (RingId × ℕ))
  pub choice : Option Choice

-- A ready replica: where its merge stands, its state, and how many deliver lines it printed since its last restore or saved line.
pub record Standing : Type 0 where
  pub tuple : List (RingId × ℕ)
  pub replica : Replica
  pub delivered : ℕ

pub data Stage : Type 0 where
  Recovering : Attempt → Stage
  Ready : Standing → Stage

-- a replica of a partition: how many attempts were begun since the opening, and where it is in its life
pub record Service : Type 0 where
  pub partition : PartitionTable
  pub attempts : ℕ
  pub stage : Stage

-- All that a node knows. What its parts keep for good is the state that its journal stands for. `beat` counts the ticks
-- that neither saved nor compacted.
pub record View : Type 0 where
  pub id : NodeId
  pub journal : Journal
  pub checkpoints : Checkpoints
  pub link : Link
  pub beat : ℕ
  -- the rings of which the node is a member, by id
  pub parts : List RingPart
  -- what makes it a replica
  pub service : Option Service

-- ---- what happens to it

pub data Event : Type 0 where
  Ticks : Event
  Takes : Frame → Event
  -- an order to lead a ring
  Leads : RingId → Event

-- ---- what it does

-- The one durable change of a step: one record of the journal, which has a change at least, one checkpoint, or one
-- compaction.
pub data Work : Type 0 where
  Nothing : Work
  Records : List Change → Work
  Saves : (tuple : List (RingId × ℕ)) → (state : List ℕ) → Work
  Compacts : Work

-- The view as it is once the work is done, what is sent then, and what is printed. Where the work fails the node is spent,
-- and nothing is sent or printed.
pub record Stepped : Type 0 where
  pub view : View
  pub work : Work
  pub frames : List Sent
  pub lines : List Line

-- the operations of a step's work, with their bytes, by the view before the step
abbrev pub ops_of : View → Work → Told → List Op
ops_of view Nothing told = []
ops_of view (Records changes) told = record_ops view.journal changes
ops_of view (Saves tuple state) told = save_ops view.checkpoints tuple state told
ops_of view Compacts told = compaction_ops view.journal told

-- whether the journal's area would be longer than its limit: then no call is made
abbrev pub is_full : View → Work → Bool
is_full view Nothing = false
is_full view (Records changes) = nat_lt view.journal.log.limit (recorded_end view.journal changes)
is_full view (Saves tuple state) = false
is_full view Compacts = nat_lt view.journal.log.limit (end_of (compact_record view.journal ∷ []))

-- ---- a step on its way

-- The view as the rules so far left it, the changes that are to be recorded, and what is to be sent and printed. Replies to
-- clients are sent last.
pub record StepSoFar : Type 0 where
  pub view : View
  pub changes : List Change
  pub frames : List Sent
  pub replies : List Sent
  pub lines : List Line

-- nothing was done yet
abbrev pub begun_with : View → StepSoFar
begun_with view = record { view = view; changes = []; frames = []; replies = []; lines = [] }

abbrev pub prints : List Line → StepSoFar → StepSoFar
prints lines a = record a { lines = a.lines ++ lines }

abbrev pub sends_all : List Sent → StepSoFar → StepSoFar
sends_all frames a = record a { frames = a.frames ++ frames }

-- the changes of a step as one record
abbrev pub work_of : List Change → Work
work_of [] = Nothing
work_of (change ∷ changes) = Records (change ∷ changes)

-- the step is over: its changes are one record, and replies stand last
abbrev pub finished : StepSoFar → Stepped
finished a = record {
  view = record a.view { journal = recorded a.view.journal a.changes };
  work = work_of a.changes;
  frames = a.frames ++ a.replies;
  lines = a.lines;
}

-- ---- the parts of a view

abbrev pub part_in : List RingPart → RingId → Option RingPart
part_in [] ring = None
part_in (p ∷ parts) ring = if p.ring.id.0 == ring.0 then Some p else part_in parts ring

-- the part of a ring, where the node is a member of it
abbrev pub part_at : View → RingId → Option RingPart
part_at view ring = part_in view.parts ring

abbrev pub with_part_in : RingId → Part → List RingPart → List RingPart
with_part_in ring part [] = []
with_part_in ring part (p ∷ parts) = if p.ring.id.0 == ring.0 then record p { part = part } ∷ parts else p ∷ with_part_in ring part parts

abbrev pub with_part : Ring → Part → StepSoFar → StepSoFar
with_part ring part a = record a { view = record a.view { parts = with_part_in ring.id part a.view.parts } }

abbrev pub with_stage : Service → Stage → StepSoFar → StepSoFar
with_stage service stage a = record a { view = record a.view { service = Some (record service { stage = stage }) } }

-- ---- what is shown of a node

abbrev pub shown_of_stage : Stage → Option ShownState
shown_of_stage (Recovering attempt) = None
shown_of_stage (Ready standing) = Some (record { tuple = instances standing.tuple; bytes = state_bytes standing.replica })

abbrev pub shown_of : Option Service → Option ShownState
shown_of None = None
shown_of (Some service) = shown_of_stage service.stage

-- the tuple and the state's bytes of a ready replica
abbrev pub state_shown : View → Option ShownState
state_shown view = shown_of view.service
