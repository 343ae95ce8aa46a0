-- A journal on a disk: the state that its records stand for, and the calls of each operation.
use Rattle.std.specs.Prelude.{◌≡◌, ◌⊎◌, ℕ, ◌+◌, ◌-◌, ◌<◌, ◌≤◌, ◌^◌, ◌==◌, ◌||◌, not, if◌then◌else◌, Bool, List, [], ◌∷◌, length, Option, Result, Ok, Err}
use Rattle.mrp_types.specs.Reading.{◌>>=◌}
use Rattle.mrp_types.specs.declared.id.NodeId.{NodeId}
use Rattle.disk_model.specs.declared.area.Area.{Area}
use Rattle.disk_model.specs.declared.areas.Areas.{Areas}
use Rattle.gate_area.specs.declared.pair.Pair.TheVariants.{Journal as JournalPair}
use Rattle.gate_area.specs.Standing.{stands}
use Rattle.gate_log.specs.Records.{end_of}
use Rattle.gate_log.specs.Journal.{Log, Holds, records_in, log_at, appended, compacted}
use Rattle.gate_log.specs.Moments.{ChecksStay}
use Rattle.command_codec.specs.declared.fault.CodecFault.{CodecFault}
use Rattle.vote_state.specs.declared.change.Change.{Change}
use Rattle.vote_state.specs.declared.change.Change.TheVariants.{Epoch}
use Rattle.vote_state.specs.State.{State, nothing_kept, taken, state_changes}
use Rattle.vote_journal.specs.declared.record.First.{First}
use Rattle.vote_journal.specs.declared.fault.OpenFault.{OpenFault}
use Rattle.vote_journal.specs.declared.fault.OpenFault.TheVariants.{BadRecord, WrongNode, EpochLimit, Disk, Damaged, Full, Memory}
use Rattle.vote_journal.specs.Epochs.{epochs_rise}
use Rattle.vote_journal.specs.Spelling.{record_bytes, first_bytes}
use Rattle.vote_journal.specs.Grammar.{is_newer, changes_of, first_of}

-- ---- what records stand for

-- the state once these changes of a record at a place were made
abbrev pub with_changes : ℕ → State → Result (List Change) CodecFault → Result State OpenFault
with_changes at s (Err fault) = Err (BadRecord at)
with_changes at s (Ok changes) = if epochs_rise s.epoch changes then Ok (taken changes s) else Err (BadRecord at)

-- the same of a record behind one of format 2, or behind one of format 1: none of format 1 stands behind one of format 2
abbrev pub with_record : ℕ → Bool → State → List ℕ → Result State OpenFault
with_record at newer s r = if is_newer r || not newer then with_changes at s (changes_of r) else Err (BadRecord at)

-- and once the records from a place on were taken
abbrev pub with_records : ℕ → Bool → State → List (List ℕ) → Result State OpenFault
with_records at newer s [] = Ok s
with_records at newer s (r ∷ rs) = do
  next ← with_record at newer s r
  with_records (at + (5 + length r)) (is_newer r) next rs

-- the state that a first record of a node's journal makes
abbrev pub first_state : NodeId → Result First CodecFault → Result State OpenFault
first_state id (Err fault) = Err (BadRecord 16)
first_state id (Ok first) = do
  s ← with_changes 16 nothing_kept (Ok first.changes)
  if first.node.0 == id.0 then Ok s else Err (WrongNode first.node)

-- the state that the records of a node's journal stand for; nothing is kept where there is none
abbrev pub state_of : NodeId → List (List ℕ) → Result State OpenFault
state_of id [] = Ok nothing_kept
state_of id (r ∷ rs) = do
  s ← first_state id (first_of r)
  with_records (16 + (5 + length r)) (is_newer r) s rs

-- the change that an opening makes of a state
abbrev pub next_epoch : State → List Change
next_epoch s = Epoch (s.epoch + 1) ∷ []

-- the record of an opening: the first one where there is none
abbrev pub record_of : NodeId → List (List ℕ) → List Change → List ℕ
record_of id [] changes = first_bytes id changes
record_of id (r ∷ rs) changes = record_bytes changes

abbrev pub epoch_record : NodeId → List (List ℕ) → State → List ℕ
epoch_record id records s = record_of id records (next_epoch s)

-- the state once it was opened, which has an epoch more
abbrev pub opened_state : State → Result State OpenFault
opened_state s = if s.epoch == 2 ^ 32 - 1 then Err EpochLimit else Ok (taken (next_epoch s) s)

-- ---- journals

-- a journal as its callers see it: whose it is, its log, and the state that its records stand for
pub record Journal : Type 0 where
  pub id : NodeId
  pub log : Log
  pub state : State

-- the areas stand for a node's state
abbrev pub state_in : NodeId → Areas → State → Type 0
state_in id areas s = (records : List (List ℕ)) × (records_in areas ≡ Ok records) × (state_of id records ≡ Ok s)

-- the areas hold the journal
pub record Stands (j : Journal) (areas : Areas) : Type 0 where
  pub records : List (List ℕ)
  pub some : 0 < length records
  pub holds : Holds j.log records areas
  pub state : state_of j.id records ≡ Ok j.state

-- the areas of the checkpoints are as they were, and those of the journal stand for the old state or for the new one
pub record BeforeOrAfter (id : NodeId) (old new : State) (before image : Areas) : Type 0 where
  pub checks : ChecksStay before image
  pub state : state_in id image old ⊎ state_in id image new

-- ---- records

-- the journal with these changes more
abbrev pub recorded : Journal → List Change → Journal
recorded j [] = j
recorded j (c ∷ cs) = record j { log = appended j.log (record_bytes (c ∷ cs)); state = taken (c ∷ cs) j.state }

-- how long the area is with a record of these changes; a list without changes has none
abbrev pub recorded_end : Journal → List Change → ℕ
recorded_end j [] = j.log.end
recorded_end j (c ∷ cs) = j.log.end + (5 + length (record_bytes (c ∷ cs)))

-- the record of a compaction
abbrev pub compact_record : Journal → List ℕ
compact_record j = first_bytes j.id (state_changes j.state)

-- ---- openings

-- What an opening leaves: the records that there were, or one more, by which the state has an epoch more.
pub record OpenLeaves (id : NodeId) (before image : Areas) : Type 0 where
  pub checks : ChecksStay before image
  pub state : (records_in image ≡ records_in before) ⊎ ((old : State) × state_in id before old × state_in id image (taken (next_epoch old) old))

-- the state after an opening, by the records that were found
abbrev pub opening_of : NodeId → List (List ℕ) → Result State OpenFault
opening_of id records = do
  s ← state_of id records
  opened_state s

-- how long the area is after an opening
abbrev pub opened_end : NodeId → List (List ℕ) → State → ℕ
opened_end id records s = end_of records + (5 + length (epoch_record id records s))

-- the disk or memory was wanting
abbrev pub IsWant : OpenFault → Type 0
IsWant fault = (fault ≡ Disk) ⊎ (fault ≡ Memory)

-- The journal has this state and this limit, and the record of its epoch is within it; or there was no room for that record.
abbrev pub OpensAs : NodeId → ℕ → List (List ℕ) → Result State OpenFault → Result Journal OpenFault → Type 0
OpensAs id limit records (Err fault) (Ok j) = ⊥
OpensAs id limit records (Err fault) (Err f) = (f ≡ fault) ⊎ IsWant f
OpensAs id limit records (Ok s) (Ok j) = (j.id ≡ id) × (j.state ≡ s) × (j.log.limit ≡ limit) × ((old : State) → state_of id records ≡ Ok old → (j.log.end ≡ opened_end id records old) × (opened_end id records old ≤ limit))
OpensAs id limit records (Ok s) (Err f) = ((old : State) × (state_of id records ≡ Ok old) × (f ≡ Full (opened_end id records old)) × (limit < opened_end id records old)) ⊎ IsWant f

-- an opening finds the damaged place, or judges the records that stand there
abbrev pub OpensBy : NodeId → ℕ → Result (List (List ℕ)) (Area × ℕ) → Result Journal OpenFault → Type 0
OpensBy id limit (Err (area, at)) (Ok j) = ⊥
OpensBy id limit (Err (area, at)) (Err f) = (f ≡ Damaged area at) ⊎ IsWant f
OpensBy id limit (Ok records) result = OpensAs id limit records (opening_of id records) result

-- the log of an opened journal: that of the area that stood, or of the one that was begun, with the record of the epoch
pub record IsOpened (id : NodeId) (limit : ℕ) (areas : Areas) (opened : Log) : Type 0 where
  pub standing : Option (Area × ℕ)
  pub records : List (List ℕ)
  pub old : State
  pub stood : stands JournalPair areas ≡ Ok standing
  pub found : records_in areas ≡ Ok records
  pub state : state_of id records ≡ Ok old
  pub log : opened ≡ appended (log_at limit records standing) (epoch_record id records old)

-- the journal with that record as the only one, in the other area
abbrev pub compacted_journal : Journal → Journal
compacted_journal j = record j { log = compacted j.log (compact_record j) }

-- an opening of areas whose records stand for a state
abbrev pub OpensAgain : NodeId → ℕ → List (List ℕ) → State → Result Journal OpenFault → Type 0
OpensAgain id limit records s (Ok j) = (j.id ≡ id) × (opened_state s ≡ Ok j.state) × (j.log.limit ≡ limit) × (j.log.end ≡ opened_end id records s) × (opened_end id records s ≤ limit)
OpensAgain id limit records s (Err f) = ((f ≡ EpochLimit) × (s.epoch ≡ 2 ^ 32 - 1)) ⊎ (((f ≡ Full (opened_end id records s)) × (limit < opened_end id records s)) ⊎ IsWant f)
