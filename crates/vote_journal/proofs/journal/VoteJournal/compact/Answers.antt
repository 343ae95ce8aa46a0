use Rattle.std.proofs.Common.{◌≡◌, ◌∙◌, ℕ, ◌+◌, ◌<◌, ◌^◌, List, ◌∷◌, [], length, Option, Ok, sym, subst, ap, Err, Result}
use Rattle.std.specs.List.{AllByRecursion}
use Rattle.disk_model.specs.Calls.{Told, LeavesOnly, reads}
use Rattle.disk_model.specs.declared.areas.Areas.{Areas}
use Rattle.disk_model.proofs.Went.{went_before, went_none, went_wanting}
use Rattle.gate_log.specs.Journal.{Log, IsLogOf, Holds}
use Rattle.gate_log.specs.Moments.{OldOrNew}
use Rattle.vote_state.specs.State.{taken, nothing_kept, state_changes}
use Rattle.vote_state.specs.Valid.{IsChange}
use Rattle.vote_state.specs.declared.change.Change.{Change}
use Rattle.vote_journal.specs.Spelling.{first_bytes}
use Rattle.vote_journal.specs.Journal.{Journal, Stands, BeforeOrAfter, state_of}
use Rattle.vote_journal.proofs.Recording.{still, log_stands}
use Rattle.vote_journal.proofs.Replacing.{kept_epoch, one_record_state, compacting, compacted_stands}
use Rattle.gate_log.specs.declared.fault.LogFault.{LogFault}
use Rattle.vote_journal.specs.Operations.{compaction_ops}
use Rattle.vote_journal.proofs.Going.{compaction_went, refused_writing, wanted_writing}
use Rattle.vote_journal.proofs.journal.VoteJournal.compact.Goals as goal

pub returns-in_err-changes-clause-moments : goal.returns-in_err-changes-clause-moments
returns-in_err-changes-clause-moments g c t tells =
    still t (g.D.Disk.told c.args.disk.now) c.args.self c.args.self.state tells.told (c.requires.settled t tells) (c.requires.stands t tells)

pub returns-in_err-bytes-clause-moments : goal.returns-in_err-bytes-clause-moments
returns-in_err-bytes-clause-moments g c t tells =
    still t (g.D.Disk.told c.args.disk.now) c.args.self c.args.self.state tells.told (c.requires.settled t tells) (c.requires.stands t tells)

pub replace_records-requires-clause-log : goal.replace_records-requires-clause-log
replace_records-requires-clause-log g c t tells =
    subst (λ (j : Journal). IsLogOf j.log (reads t)) (sym c.self.view_is) (log_stands c.args.self (reads t) (c.requires.stands t tells))

-- the bytes that are written stand for the state of the journal that was given
stands_again : (areas : Areas) (j inside : Journal) (cs : List Change) (bytes : List ℕ) → inside ≡ j → bytes ≡ first_bytes inside.id cs → cs ≡ state_changes inside.state → AllByRecursion IsChange cs → taken cs nothing_kept ≡ inside.state → length cs + 1 < 2 ^ 32 →
    Stands j areas → state_of inside.id (bytes ∷ []) ≡ Ok inside.state
stands_again areas j inside cs bytes view spelled are each made fits stands =
    let state : state_of inside.id stands.records ≡ Ok inside.state = subst (λ (x : Journal). state_of x.id stands.records ≡ Ok x.state) (sym view) stands.state in
    subst (λ (b : List ℕ). state_of inside.id (b ∷ []) ≡ Ok inside.state) (sym spelled)
    (one_record_state inside.id inside.state cs are each made (kept_epoch inside.id stands.records inside.state stands.some state) fits)

-- what it leaves, of the journal that was given
left_by : (t : Told) (now : Option Told) (j inside : Journal) (bytes : List ℕ) → inside ≡ j → Stands j (reads t) → state_of inside.id (bytes ∷ []) ≡ Ok inside.state →
    ((records : List (List ℕ)) → Holds inside.log records (reads t) → LeavesOnly t now (OldOrNew records (bytes ∷ []) (reads t))) → LeavesOnly t now (BeforeOrAfter j.id j.state j.state (reads t))
left_by t now j inside bytes view stands again leaves =
    compacting t now j bytes stands (subst (λ (x : Journal). state_of x.id (bytes ∷ []) ≡ Ok x.state) view again)
    (leaves stands.records (subst (λ (x : Journal). Holds x.log stands.records (reads t)) (sym view) stands.holds))

pub returns-in_err-log-clause-moments : goal.returns-in_err-log-clause-moments
returns-in_err-log-clause-moments g c t tells =
    let stands = c.requires.stands t tells in
    left_by t (g.D.Disk.told c.replace_records.new.disk) c.args.self _ c.bytes-2.result.now c.self.view_is stands
    (stands_again (reads t) c.args.self _ c.in_ok-changes.changes c.bytes-2.result.now c.self.view_is (c.bytes-2.ensures ∙ c.in_ok-bytes.ensures.bytes) c.in_ok-changes.ensures.changes c.in_ok-changes.ensures.valid c.in_ok-changes.ensures.again c.in_ok-bytes.ensures.count stands)
    (λ records holds. c.replace_records.ensures.moments t records tells holds)

pub returns-clause-moments : goal.returns-clause-moments
returns-clause-moments g c t tells =
    let stands = c.requires.stands t tells in
    left_by t (g.D.Disk.told c.replace_records.new.disk) c.args.self _ c.bytes-2.result.now c.self.view_is stands
    (stands_again (reads t) c.args.self _ c.in_ok-changes.changes c.bytes-2.result.now c.self.view_is (c.bytes-2.ensures ∙ c.in_ok-bytes.ensures.bytes) c.in_ok-changes.ensures.changes c.in_ok-changes.ensures.valid c.in_ok-changes.ensures.again c.in_ok-bytes.ensures.count stands)
    (λ records holds. c.replace_records.ensures.moments t records tells holds)

-- what was made of the journal that was given
stood_by : (t : Told) (areas : Areas) (j inside : Journal) (next : Log) (bytes : List ℕ) → inside ≡ j → Stands j (reads t) → state_of inside.id (bytes ∷ []) ≡ Ok inside.state →
    ((records : List (List ℕ)) → Holds inside.log records (reads t) → Holds next (bytes ∷ []) areas) → Stands (record { id = inside.id; log = next; state = inside.state }) areas
stood_by t areas j inside next bytes view stands again holds =
    compacted_stands inside.id next inside.state bytes areas again
    (holds stands.records (subst (λ (x : Journal). Holds x.log stands.records (reads t)) (sym view) stands.holds))

pub returns-clause-stands : goal.returns-clause-stands
returns-clause-stands g c u now_tells =
    let before = went_before u c.replace_records.ensures.went now_tells in
    let stands = c.requires.stands before.0 before.1 in
    stood_by before.0 (reads u) c.args.self _ c.in_ok-log.log c.bytes-2.result.now c.self.view_is stands
    (stands_again (reads before.0) c.args.self _ c.in_ok-changes.changes c.bytes-2.result.now c.self.view_is (c.bytes-2.ensures ∙ c.in_ok-bytes.ensures.bytes) c.in_ok-changes.ensures.changes c.in_ok-changes.ensures.valid c.in_ok-changes.ensures.again c.in_ok-bytes.ensures.count stands)
    (λ records holds. c.in_ok-log.ensures.holds before.0 u records before.1 now_tells holds)

pub returns-in_err-changes-clause-went : goal.returns-in_err-changes-clause-went
returns-in_err-changes-clause-went g c = wanted_writing c.from_residual.result c.from_residual.ensures.1 (went_wanting (compaction_ops c.args.self) (went_none g.D.Disk c.args.disk.now))

pub returns-in_err-bytes-clause-went : goal.returns-in_err-bytes-clause-went
returns-in_err-bytes-clause-went g c =
    wanted_writing c.from_residual-in_err-bytes.result c.from_residual-in_err-bytes.ensures.1 (went_wanting (compaction_ops c.args.self) (went_none g.D.Disk c.args.disk.now))

abbrev failed_log : LogFault → Result Log LogFault
failed_log e = Err e

pub returns-in_err-log-clause-went : goal.returns-in_err-log-clause-went
returns-in_err-log-clause-went g c =
    refused_writing c.in_err-log.field-0.0 c.from_residual-in_err-log.result
    (λ area at is. c.in_err-log.ensures.undamaged area at (ap failed_log is)) c.from_residual-in_err-log.ensures.1
    (compaction_went c.args.self _ c.in_ok-changes.changes c.bytes-2.result.now c.self.view_is
    (c.bytes-2.ensures ∙ c.in_ok-bytes.ensures.bytes) c.in_ok-changes.ensures.changes c.in_err-log.ensures.went)

pub returns-clause-went : goal.returns-clause-went
returns-clause-went g c =
    compaction_went c.args.self _ c.in_ok-changes.changes c.bytes-2.result.now c.self.view_is
    (c.bytes-2.ensures ∙ c.in_ok-bytes.ensures.bytes) c.in_ok-changes.ensures.changes c.in_ok-log.ensures.went
