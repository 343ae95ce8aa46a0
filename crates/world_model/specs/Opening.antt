-- The opening of a node on its areas: the device calls in order, and what they find.
use Rattle.std.specs.Prelude.{ℕ, ◌+◌, nat_lt, if◌then◌else◌, List, [], ◌∷◌, ◌++◌, Option, Some, None, Result, Ok, Err}
use Rattle.mrp_types.specs.declared.id.NodeId.{NodeId}
use Rattle.disk_model.specs.declared.area.Area.{Area}
use Rattle.disk_model.specs.declared.area.Area.TheVariants.{Journal0}
use Rattle.disk_model.specs.declared.areas.Areas.{Areas}
use Rattle.disk_model.specs.declared.call.Call.TheVariants.{Sync}
use Rattle.disk_model.specs.Areas.{bytes_of}
use Rattle.disk_model.specs.Calls.{begun}
use Rattle.gate_area.specs.declared.pair.Pair.TheVariants.{Journal as JournalPair, Check as CheckPair}
use Rattle.disk_model.specs.Running.{Op, Does}
use Rattle.gate_area.specs.Operations.{readings, survey_ops}
use Rattle.gate_area.specs.Standing.{stands}
use Rattle.gate_log.specs.Records.{walk_of}
use Rattle.gate_log.specs.Journal.{Log, log_of, appended}
use Rattle.gate_log.specs.Operations.{append_ops, standing_ops}
use Rattle.vote_state.specs.State.{State}
use Rattle.vote_journal.specs.declared.fault.OpenFault.{OpenFault}
use Rattle.vote_journal.specs.Journal.{Journal, state_of, opened_state, epoch_record}
use Rattle.command_codec.specs.declared.fault.CodecFault.{CodecFault}
use Rattle.mrp_config.specs.Config.{Config, partition_of}
use Rattle.mrp_config.specs.declared.tables.PartitionTable.{PartitionTable}
use Rattle.plain_model.specs.Replicas.{Replica}
use Rattle.plain_model.specs.StateBytes.{whole_state, fault_position}
use Rattle.plain_model.specs.Tuples.{round_sizes, is_tuple_of}
use Rattle.checkpoint.specs.Checkpoints.{Checkpoints, Checkpoint, checkpoints_of, place}
use Rattle.protocol.specs.Lines.{Cause, Disk, Full}

-- the device calls of an opening in order, and what they find, or why the node stops where all of them passed
pub record Opening (T : Type 0) : Type 0 where
  pub work : List Op
  pub result : Result T Cause

-- ---- what is read

-- the area that stands is read, where one does
abbrev pub checks_read : Areas → Result (Option (Area × ℕ)) (Area × ℕ) → List Op
checks_read areas (Err spot) = []
checks_read areas (Ok None) = []
checks_read areas (Ok (Some (area, generation))) = readings (bytes_of area areas)

-- ---- the journal

-- the journal as it was found: its log and its records
pub record Found : Type 0 where
  pub log : Log
  pub records : List (List ℕ)

abbrev pub found_in : Area → ℕ → ℕ → Result (List (List ℕ)) ℕ → Result Found Cause
found_in area generation limit (Ok records) = Ok (record { log = log_of area generation limit records; records = records })
found_in area generation limit (Err at) = Err Disk

-- A fresh pair gets a journal without records, which isn't read. A byte that can't be there is a fault of the disk: none of
-- what the calls of a journal write, and no image of it, has one.
abbrev pub found_by : ℕ → Areas → Result (Option (Area × ℕ)) (Area × ℕ) → Result Found Cause
found_by limit areas (Err spot) = Err Disk
found_by limit areas (Ok None) = Ok (record { log = log_of Journal0 1 limit []; records = [] })
found_by limit areas (Ok (Some (area, generation))) = found_in area generation limit (walk_of (bytes_of area areas))

-- one sync, the survey, and then a new journal or what is read of the one that stands
abbrev pub finding_by : Areas → Result (Option (Area × ℕ)) (Area × ℕ) → List Op
finding_by areas standing = Does Sync ∷ (survey_ops ++ standing_ops standing (begun areas))

-- the opening of a journal found: its calls after those that found it
abbrev pub with_epoch : NodeId → Log → State → List ℕ → Opening Journal
with_epoch id log s r = record {
  work = append_ops log r;
  result = if nat_lt log.limit (appended log r).end then Err Full else Ok (record { id = id; log = appended log r; state = s });
}

-- an epoch more, unless it is the last one
abbrev pub next_journal : NodeId → Found → State → Result State OpenFault → Opening Journal
next_journal id found s (Ok next) = with_epoch id found.log next (epoch_record id found.records s)
next_journal id found s (Err fault) = record { work = []; result = Err Full }

-- records that aren't this node's are a fault of the disk too
abbrev pub judged_journal : NodeId → Found → Result State OpenFault → Opening Journal
judged_journal id found (Ok s) = next_journal id found s (opened_state s)
judged_journal id found (Err fault) = record { work = []; result = Err Disk }

abbrev pub opened_journal : NodeId → Result Found Cause → Opening Journal
opened_journal id (Ok found) = judged_journal id found (state_of id found.records)
opened_journal id (Err cause) = record { work = []; result = Err cause }

-- ---- the checkpoint

-- a state that is at fault, by where it begins
abbrev pub judged_state : Area × ℕ × ℕ → Checkpoints → Result Replica CodecFault → Result Checkpoints (Area × ℕ)
judged_state place checkpoints (Ok replica) = Ok checkpoints
judged_state place checkpoints (Err fault) = Err (place.0, place.2 + fault_position fault)

abbrev pub judged_newest : Config → PartitionTable → Checkpoints → Option Checkpoint → Option (Area × ℕ × ℕ) → Result Checkpoints (Area × ℕ)
judged_newest config p checkpoints None place = Ok checkpoints
judged_newest config p checkpoints (Some newest) None = Ok checkpoints
judged_newest config p checkpoints (Some newest) (Some place) =
    if is_tuple_of (round_sizes config) p.rings newest.tuple then judged_state place checkpoints (whole_state p newest.state) else Err (place.0, place.1)

-- A replica's checkpoint is one of its partition: its tuple is a valid one there, and its bytes are a state. A node that is no
-- replica asks neither.
abbrev pub judged_for : Config → Option PartitionTable → Checkpoints → Result Checkpoints (Area × ℕ)
judged_for config None checkpoints = Ok checkpoints
judged_for config (Some p) checkpoints = judged_newest config p checkpoints checkpoints.newest (place checkpoints)

abbrev pub judged_checkpoints : Config → NodeId → Result Checkpoints (Area × ℕ) → Result Checkpoints (Area × ℕ)
judged_checkpoints config id (Err spot) = Err spot
judged_checkpoints config id (Ok checkpoints) = judged_for config (partition_of config.partitions id) checkpoints

abbrev pub found_checkpoints : Result Checkpoints (Area × ℕ) → Result Checkpoints Cause
found_checkpoints (Ok checkpoints) = Ok checkpoints
found_checkpoints (Err spot) = Err Disk

-- the survey, and what is read of the area that stands
abbrev pub opened_checks : Config → NodeId → Areas → Result (Option (Area × ℕ)) (Area × ℕ) → Opening Checkpoints
opened_checks config id areas standing = record {
  work = survey_ops ++ checks_read areas standing;
  result = found_checkpoints (judged_checkpoints config id (checkpoints_of areas standing));
}

-- ---- both

-- the journal and the checkpoints of a node that has opened
pub record Kept : Type 0 where
  pub journal : Journal
  pub checkpoints : Checkpoints

abbrev pub kept_of : Journal → Result Checkpoints Cause → Result Kept Cause
kept_of journal (Ok checkpoints) = Ok (record { journal = journal; checkpoints = checkpoints })
kept_of journal (Err cause) = Err cause

abbrev pub with_checkpoints_of : List Op → Journal → Opening Checkpoints → Opening Kept
with_checkpoints_of before journal checkpoints = record { work = before ++ checkpoints.work; result = kept_of journal checkpoints.result }

-- the checkpoints are looked at where the journal has opened
abbrev pub then_checks : Config → NodeId → List Op → Areas → List Op → Result Journal Cause → Opening Kept
then_checks config id before areas work (Ok journal) = with_checkpoints_of (before ++ work) journal (opened_checks config id areas (stands CheckPair areas))
then_checks config id before areas work (Err cause) = record { work = before ++ work; result = Err cause }

abbrev pub then_opens : Config → NodeId → Areas → List Op → Opening Journal → Opening Kept
then_opens config id areas before journal = then_checks config id before areas journal.work journal.result

abbrev pub opening_by : Config → NodeId → Areas → Result (Option (Area × ℕ)) (Area × ℕ) → Opening Kept
opening_by config id areas standing = then_opens config id areas (finding_by areas standing) (opened_journal id (found_by config.journal areas standing))

-- The opening of a node on a disk that reads so. First the journal, with the record of its new epoch, and then the
-- checkpoints.
unfoldable pub opening : Config → NodeId → Areas → Opening Kept
opening config id areas = opening_by config id areas (stands JournalPair areas)
