-- The operations of a disk that each call on a journal makes, in their order.
use Rattle.std.specs.Prelude.{ℕ, List, [], ◌∷◌, ◌++◌, Option, Result, Ok, Err}
use Rattle.mrp_types.specs.declared.id.NodeId.{NodeId}
use Rattle.disk_model.specs.declared.area.Area.{Area}
use Rattle.disk_model.specs.Calls.{Told, reads}
use Rattle.disk_model.specs.Running.{Op, Ending, Passed, Stopped, Wanted}
use Rattle.gate_area.specs.declared.pair.Pair.TheVariants.{Journal as JournalPair}
use Rattle.gate_area.specs.Standing.{stands}
use Rattle.gate_log.specs.Journal.{Log, log_at, records_in}
use Rattle.gate_log.specs.Operations.{append_ops, compact_ops, open_ops}
use Rattle.vote_state.specs.declared.change.Change.{Change}
use Rattle.vote_state.specs.State.{State}
use Rattle.vote_journal.specs.declared.fault.JournalFault.{JournalFault}
use Rattle.vote_journal.specs.declared.fault.JournalFault.TheVariants as journals
use Rattle.vote_journal.specs.declared.fault.OpenFault.{OpenFault}
use Rattle.vote_journal.specs.declared.fault.OpenFault.TheVariants as opens
use Rattle.vote_journal.specs.Journal.{Journal, state_of, opened_state, epoch_record, compact_record}
use Rattle.vote_journal.specs.Spelling.{record_bytes}

-- how the operations of an opening have ended: it refuses what it has read where all have passed
abbrev pub unopened_ending : OpenFault → Ending
unopened_ending opens.Disk = Stopped
unopened_ending opens.Memory = Wanted
unopened_ending other = Passed

abbrev pub open_ending : {T : Type 0} → Result T OpenFault → Ending
open_ending (Ok _) = Passed
open_ending (Err fault) = unopened_ending fault

-- the same of a record and of a compaction
abbrev pub unwritten_ending : JournalFault → Ending
unwritten_ending journals.Disk = Stopped
unwritten_ending (journals.Full len) = Passed
unwritten_ending journals.Memory = Wanted

abbrev pub journal_ending : {T : Type 0} → Result T JournalFault → Ending
journal_ending (Ok _) = Passed
journal_ending (Err fault) = unwritten_ending fault

-- a list without changes makes none
abbrev pub record_ops : Journal → List Change → List Op
record_ops j [] = []
record_ops j (c ∷ cs) = append_ops j.log (record_bytes (c ∷ cs))

abbrev pub compaction_ops : Journal → Told → List Op
compaction_ops j t = compact_ops j.log (compact_record j) t

-- those of the record of an epoch more, where there is one
abbrev pub epoch_ops : Log → List ℕ → Result State OpenFault → List Op
epoch_ops log r (Ok next) = append_ops log r
epoch_ops log r (Err fault) = []

-- where the records were judged
abbrev pub state_ops : NodeId → Log → List (List ℕ) → Result State OpenFault → List Op
state_ops id log records (Ok s) = epoch_ops log (epoch_record id records s) (opened_state s)
state_ops id log records (Err fault) = []

-- where they were found
abbrev pub judged_ops : NodeId → ℕ → Result (Option (Area × ℕ)) (Area × ℕ) → Result (List (List ℕ)) (Area × ℕ) → List Op
judged_ops id limit (Ok standing) (Ok records) = state_ops id (log_at limit records standing) records (state_of id records)
judged_ops id limit (Ok standing) (Err spot) = []
judged_ops id limit (Err spot) found = []

-- an opening: those of its log, and those of the record of the epoch
abbrev pub opening_ops : NodeId → ℕ → Told → List Op
opening_ops id limit t = open_ops t ++ judged_ops id limit (stands JournalPair (reads t)) (records_in (reads t))
