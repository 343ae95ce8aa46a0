-- How each call on a journal goes by its operations.
use Rattle.std.proofs.Common.{◌≡◌, ◌⊎◌, ℕ, ◌<◌, inl, inr, List, [], ◌∷◌, ◌++◌, length, Option, Some, Result, Ok, Err, IsErrAnd, refl, ap, sym, ◌∙◌, subst, arith}
use Rattle.mrp_types.specs.declared.id.NodeId.{NodeId}
use Rattle.disk_model.specs.declared.area.Area.{Area}
use Rattle.disk_model.specs.declared.disk.Disk.{Ghosts}
use Rattle.disk_model.specs.Calls.{Told, Tells, reads}
use Rattle.disk_model.specs.Running.{Op, Ending, Passed, Wanted}
use Rattle.disk_model.specs.Sim.{Sim}
use Rattle.disk_model.specs.Went.{WentBy}
use Rattle.disk_model.proofs.Went.{went_none, went_on, went_part, went_wanting, went_as, went_ends}
use Rattle.gate_area.specs.declared.pair.Pair.TheVariants.{Journal as JournalPair}
use Rattle.gate_area.specs.Standing.{stands}
use Rattle.gate_log.specs.declared.fault.LogFault.{LogFault}
use Rattle.gate_log.specs.declared.fault.LogFault.TheVariants as logs
use Rattle.gate_log.specs.Journal.{Log, IsFound, records_in}
use Rattle.gate_log.specs.Moments.{Finds}
use Rattle.gate_log.specs.Operations.{fault_ending, append_ops, compact_ops, open_ops}
use Rattle.vote_state.specs.declared.change.Change.{Change}
use Rattle.vote_state.specs.State.{State, state_changes}
use Rattle.vote_journal.specs.declared.fault.JournalFault.{JournalFault}
use Rattle.vote_journal.specs.declared.fault.JournalFault.TheVariants as journals
use Rattle.vote_journal.specs.declared.fault.OpenFault.{OpenFault}
use Rattle.vote_journal.specs.declared.fault.OpenFault.TheVariants as opens
use Rattle.vote_journal.specs.Faults.{opened_as, refused_as}
use Rattle.vote_journal.specs.Journal.{Journal, state_of, opened_state, epoch_record}
use Rattle.vote_journal.specs.Operations.{unopened_ending, open_ending, unwritten_ending, journal_ending, record_ops, compaction_ops, epoch_ops, state_ops, judged_ops, opening_ops}
use Rattle.vote_journal.specs.Spelling.{record_bytes, first_bytes}

-- ---- records and compactions

-- memory was wanting
pub wanted_writing : {D T : Type 0} {disk : Ghosts D} {ops : Told → List Op} {old now : D} (r : Result T JournalFault) → IsErrAnd r (λ e. e ≡ journals.Memory) → WentBy disk ops old now Wanted → WentBy disk ops old now (journal_ending r)
wanted_writing (Ok x) is went = absurd is
wanted_writing (Err e) is went = went_ends (sym (ap unwritten_ending is)) went

refused_fault : (fault : LogFault) → ((area : Area) (at : ℕ) → fault ≡ logs.Damaged area at → ⊥) → fault_ending fault ≡ unwritten_ending (refused_as fault)
refused_fault logs.Disk never = refl
refused_fault (logs.Damaged area at) never = absurd (never area at refl)
refused_fault (logs.Full len) never = refl
refused_fault logs.Memory never = refl

-- the log has refused it
pub refused_writing : {D T : Type 0} {disk : Ghosts D} {ops : Told → List Op} {old now : D} (fault : LogFault) (r : Result T JournalFault) → ((area : Area) (at : ℕ) → fault ≡ logs.Damaged area at → ⊥)
    → IsErrAnd r (λ e. e ≡ refused_as fault) → WentBy disk ops old now (fault_ending fault) → WentBy disk ops old now (journal_ending r)
refused_writing fault (Ok x) never is went = absurd is
refused_writing fault (Err e) never is went = went_ends (refused_fault fault never ∙ sym (ap unwritten_ending is)) went

record_is : (j : Journal) (cs : List Change) → 0 < length cs → record_ops j cs ≡ append_ops j.log (record_bytes cs)
record_is j [] some = absurd (omega (arith, some))
record_is j (c ∷ cs) some = refl

-- no change is to be recorded
pub none_recorded : {D : Type 0} (disk : Ghosts D) (old : D) (j : Journal) (cs : List Change) → cs ≡ [] → WentBy disk (λ t. record_ops j cs) old old Passed
none_recorded disk old j cs none = subst (λ xs. WentBy disk (λ t. record_ops j xs) old old Passed) (sym none) (went_none disk old)

pub record_went : {D : Type 0} {disk : Ghosts D} {old now : D} {e : Ending} (j inside : Journal) (cs : List Change) (bytes : List ℕ) → inside ≡ j → bytes ≡ record_bytes cs → 0 < length cs
    → WentBy disk (λ t. append_ops inside.log bytes) old now e → WentBy disk (λ t. record_ops j cs) old now e
record_went {disk = disk} {old = old} {now = now} {e = e} j inside cs bytes view spelled some went =
    subst (λ ops. WentBy disk (λ t. ops) old now e) (ap (λ (x : Journal). append_ops x.log bytes) view ∙ ap (append_ops j.log) spelled ∙ sym (record_is j cs some)) went

pub compaction_went : {D : Type 0} {disk : Ghosts D} {old now : D} {e : Ending} (j inside : Journal) (cs : List Change) (bytes : List ℕ) → inside ≡ j → bytes ≡ first_bytes inside.id cs → cs ≡ state_changes inside.state
    → WentBy disk (compact_ops inside.log bytes) old now e → WentBy disk (compaction_ops j) old now e
compaction_went {disk = disk} {old = old} {now = now} {e = e} j inside cs bytes view spelled are went =
    subst (λ (x : Journal). WentBy disk (compaction_ops x) old now e) view
    (subst (λ b. WentBy disk (compact_ops inside.log b) old now e) (spelled ∙ ap (first_bytes inside.id) are) went)

-- ---- openings

-- what follows the operations of the log
abbrev pub rest_ops : NodeId → ℕ → Told → List Op
rest_ops id limit t = judged_ops id limit (stands JournalPair (reads t)) (records_in (reads t))

opening_as : {D : Type 0} {disk : Ghosts D} {old now : D} {e : Ending} (id : NodeId) (limit : ℕ) (rest : List Op) → ((d : D) (s : Sim) → disk.memory d ≡ Some s → Tells (disk.told d) (disk.honest d) s.told)
    → ((t : Told) → Tells (disk.told old) (disk.honest old) t → rest_ops id limit t ≡ rest) → WentBy disk (λ t. open_ops t ++ rest) old now e → WentBy disk (opening_ops id limit) old now e
opening_as id limit rest tells are went = went_as (opening_ops id limit) tells (λ t told. ap (λ ops. open_ops t ++ ops) (sym (are t told))) went

-- nothing follows the operations of the log
pub opening_ends : {D : Type 0} {disk : Ghosts D} {old now : D} (id : NodeId) (limit : ℕ) → ((d : D) (s : Sim) → disk.memory d ≡ Some s → Tells (disk.told d) (disk.honest d) s.told)
    → ((t : Told) → Tells (disk.told old) (disk.honest old) t → rest_ops id limit t ≡ []) → WentBy disk open_ops old now Passed → WentBy disk (opening_ops id limit) old now Passed
opening_ends {disk = disk} {now = now} id limit tells none went = opening_as id limit [] tells none (went_on went (went_none disk now))

judged_none : (id : NodeId) (limit : ℕ) (standing : Result (Option (Area × ℕ)) (Area × ℕ)) (spot : Area × ℕ) → judged_ops id limit standing (Err spot) ≡ []
judged_none id limit (Ok x) spot = refl
judged_none id limit (Err x) spot = refl

damaged_none : {T : Type 0} (listed : T → List (List ℕ)) (id : NodeId) (limit : ℕ) (standing : Result (Option (Area × ℕ)) (Area × ℕ)) (found : Result (List (List ℕ)) (Area × ℕ)) (area : Area) (at : ℕ) → Finds listed found (Err (logs.Damaged area at))
    → judged_ops id limit standing found ≡ []
damaged_none listed id limit standing (Ok records) area at (inl disk) = absurd (let e : logs.Damaged area at ≡ logs.Disk = disk in cc)
damaged_none listed id limit standing (Ok records) area at (inr memory) = absurd (let e : logs.Damaged area at ≡ logs.Memory = memory in cc)
damaged_none listed id limit standing (Err (b, k)) area at finds = judged_none id limit standing (b, k)

-- the log wasn't opened
pub log_unopened : {D S T : Type 0} {disk : Ghosts D} {old now : D} (listed : S → List (List ℕ)) (id : NodeId) (limit : ℕ) (fault : LogFault) (r : Result T OpenFault) → ((d : D) (s : Sim) → disk.memory d ≡ Some s → Tells (disk.told d) (disk.honest d) s.told)
    → ((t : Told) → Tells (disk.told old) (disk.honest old) t → Finds listed (records_in (reads t)) (Err fault)) → ((len : ℕ) → fault ≡ logs.Full len → ⊥) → IsErrAnd r (λ e. e ≡ opened_as fault)
    → WentBy disk open_ops old now (fault_ending fault) → WentBy disk (opening_ops id limit) old now (open_ending r)
log_unopened listed id limit fault (Ok x) tells finds never is went = absurd is
log_unopened listed id limit logs.Disk (Err e) tells finds never is went = went_ends (sym (ap unopened_ending is)) (went_part (rest_ops id limit) (λ no. absurd cc) went)
log_unopened listed id limit (logs.Damaged area at) (Err e) tells finds never is went =
    went_ends (sym (ap unopened_ending is))
    (opening_ends id limit tells (λ t told. damaged_none listed id limit (stands JournalPair (reads t)) (records_in (reads t)) area at (finds t told)) went)
log_unopened listed id limit (logs.Full len) (Err e) tells finds never is went = absurd (never len refl)
log_unopened listed id limit logs.Memory (Err e) tells finds never is went = went_ends (sym (ap unopened_ending is)) (went_part (rest_ops id limit) (λ no. absurd cc) went)

-- what was found, by what stands
pub found_ops : (id : NodeId) (limit : ℕ) (standing : Result (Option (Area × ℕ)) (Area × ℕ)) (found : Result (List (List ℕ)) (Area × ℕ)) (records : List (List ℕ)) (log : Log) → IsFound limit records standing log → found ≡ Ok records
    → judged_ops id limit standing found ≡ state_ops id log records (state_of id records)
found_ops id limit (Ok standing) found records log is found_is =
    ap (judged_ops id limit (Ok standing)) found_is ∙ ap (λ (l : Log). state_ops id l records (state_of id records)) (sym is)
found_ops id limit (Err spot) found records log is found_is = absurd is

passes_by : (f : OpenFault) → (f ≡ opens.Disk → ⊥) → (f ≡ opens.Memory) ⊎ (unopened_ending f ≡ Passed)
passes_by opens.Disk never = absurd (never refl)
passes_by (opens.Damaged area at) never = inr refl
passes_by (opens.WrongNode id) never = inr refl
passes_by (opens.BadRecord at) never = inr refl
passes_by opens.EpochLimit never = inr refl
passes_by (opens.Full len) never = inr refl
passes_by opens.Memory never = inl refl

-- what was found is refused
pub found_refused : {D T : Type 0} {disk : Ghosts D} {old now : D} (id : NodeId) (limit : ℕ) (fault : OpenFault) (r : Result T OpenFault) → ((d : D) (s : Sim) → disk.memory d ≡ Some s → Tells (disk.told d) (disk.honest d) s.told)
    → (fault ≡ opens.Disk → ⊥) → IsErrAnd r (λ e. e ≡ fault) → (fault ≡ opens.Memory) ⊎ ((t : Told) → Tells (disk.told old) (disk.honest old) t → rest_ops id limit t ≡ [])
    → WentBy disk open_ops old now Passed → WentBy disk (opening_ops id limit) old now (open_ending r)
found_refused id limit fault (Ok x) tells never is none went = absurd is
found_refused id limit fault (Err e) tells never is (inl memory) went = went_ends (sym (ap unopened_ending (is ∙ memory))) (went_wanting (rest_ops id limit) went)
found_refused {disk = disk} {old = old} {now = now} id limit fault (Err e) tells never is (inr none) went = by (passes_by fault never)
  where
    by : (fault ≡ opens.Memory) ⊎ (unopened_ending fault ≡ Passed) → WentBy disk (opening_ops id limit) old now (unopened_ending e)
    by (inl memory) = went_ends (sym (ap unopened_ending (is ∙ memory))) (went_wanting (rest_ops id limit) went)
    by (inr passed) = went_ends (sym (ap unopened_ending is ∙ passed)) (opening_ends id limit tells none went)

opened_fault : (fault : LogFault) → fault_ending fault ≡ unopened_ending (opened_as fault)
opened_fault logs.Disk = refl
opened_fault (logs.Damaged area at) = refl
opened_fault (logs.Full len) = refl
opened_fault logs.Memory = refl

-- the record of the epoch was refused
pub epoch_refused : {D T : Type 0} {disk : Ghosts D} {ops : Told → List Op} {old now : D} (fault : LogFault) (r : Result T OpenFault) → IsErrAnd r (λ e. e ≡ opened_as fault)
    → WentBy disk ops old now (fault_ending fault) → WentBy disk ops old now (open_ending r)
epoch_refused fault (Ok x) is went = absurd is
epoch_refused fault (Err e) is went = went_ends (opened_fault fault ∙ sym (ap unopened_ending is)) went

-- the record of the epoch follows
pub epoch_went : {D : Type 0} {disk : Ghosts D} {old mid now : D} {e : Ending} (id : NodeId) (limit : ℕ) (records : List (List ℕ)) (s next : State) (log : Log) (bytes : List ℕ) → ((d : D) (s : Sim) → disk.memory d ≡ Some s → Tells (disk.told d) (disk.honest d) s.told)
    → state_of id records ≡ Ok s → opened_state s ≡ Ok next → bytes ≡ epoch_record id records s
    → ((t : Told) → Tells (disk.told old) (disk.honest old) t → rest_ops id limit t ≡ state_ops id log records (state_of id records))
    → WentBy disk open_ops old mid Passed → WentBy disk (λ t. append_ops log bytes) mid now e → WentBy disk (opening_ops id limit) old now e
epoch_went id limit records s next log bytes tells so_far more spelled are first second =
    opening_as id limit (append_ops log bytes) tells
    (λ t told. are t told ∙ ap (state_ops id log records) so_far ∙ ap (epoch_ops log (epoch_record id records s)) more ∙ ap (append_ops log) (sym spelled))
    (went_on first second)
