use Rattle.std.proofs.Common.{◌≡◌, ◌∙◌, ℕ, List, ◌∷◌, [], ◌++◌, Option, Ok, IsTrue, sym, subst, arith, Err, Result, ap}
use Rattle.std.proofs.Common.{arith}
use Rattle.std.proofs.lemmas.Grind.{common_steps}
use Rattle.std.specs.List.{AllByRecursion}
use Rattle.disk_model.specs.Calls.{Told, LeavesOnly, reads}
use Rattle.disk_model.specs.declared.areas.Areas.{Areas}
use Rattle.disk_model.proofs.Went.{went_before, went_none, went_wanting}
use Rattle.gate_log.specs.Journal.{Log, IsLogOf, Holds}
use Rattle.gate_log.specs.Moments.{OldOrNew}
use Rattle.vote_state.specs.State.{State, taken}
use Rattle.vote_journal.specs.Spelling.{record_bytes}
use Rattle.vote_journal.specs.Journal.{Journal, Stands, BeforeOrAfter, state_of}
use Rattle.vote_journal.specs.Epochs.{epochs_rise}
use Rattle.vote_state.specs.Valid.{IsChange}
use Rattle.vote_state.specs.declared.change.Change.{Change}
use Rattle.vote_journal.proofs.Recording.{IsCounted, still, recording, log_stands, recorded_stands}
use Rattle.gate_log.specs.declared.fault.LogFault.{LogFault}
use Rattle.vote_journal.specs.Operations.{record_ops}
use Rattle.vote_journal.proofs.Going.{none_recorded, record_went, refused_writing, wanted_writing}
use Rattle.vote_journal.proofs.journal.VoteJournal.record.Goals as goal

pub returns-then-is_empty-clause-moments : goal.returns-then-is_empty-clause-moments
returns-then-is_empty-clause-moments g c t tells =
    still t (g.D.Disk.told c.args.disk.now) c.args.self (taken c.args.changes.now c.args.self.state) tells.told (c.requires.settled t tells) (c.requires.stands t tells)

pub returns-in_err-bytes-clause-moments : goal.returns-in_err-bytes-clause-moments
returns-in_err-bytes-clause-moments g c t tells =
    still t (g.D.Disk.told c.args.disk.now) c.args.self (taken c.args.changes.now c.args.self.state) tells.told (c.requires.settled t tells) (c.requires.stands t tells)

pub returns-in_err-take-clause-moments : goal.returns-in_err-take-clause-moments
returns-in_err-take-clause-moments g c t tells =
    still t (g.D.Disk.told c.args.disk.now) c.args.self (taken c.args.changes.now c.args.self.state) tells.told (c.requires.settled t tells) (c.requires.stands t tells)

pub write_record-requires-clause-log : goal.write_record-requires-clause-log
write_record-requires-clause-log g c t tells =
    subst (λ (j : Journal). IsLogOf j.log (reads t)) (sym c.self.view_is) (log_stands c.args.self (reads t) (c.requires.stands t tells))

-- the bytes that are written are those of the changes, of the journal that was given
left_by : (t : Told) (now : Option Told) (j inside : Journal) (cs : List Change) (bytes : List ℕ) → inside ≡ j → bytes ≡ record_bytes cs → IsCounted cs → AllByRecursion IsChange cs → IsTrue (epochs_rise j.state.epoch cs) → Stands j (reads t) →
    ((records : List (List ℕ)) → Holds inside.log records (reads t) → LeavesOnly t now (OldOrNew records (records ++ bytes ∷ []) (reads t))) → LeavesOnly t now (BeforeOrAfter j.id j.state (taken cs j.state) (reads t))
left_by t now j inside cs bytes view spelled counted each rise stands leaves =
    recording t now j cs counted each rise stands
    (subst (λ (b : List ℕ). LeavesOnly t now (OldOrNew stands.records (stands.records ++ b ∷ []) (reads t))) spelled
    (leaves stands.records (subst (λ (x : Journal). Holds x.log stands.records (reads t)) (sym view) stands.holds)))

pub returns-in_err-log-clause-moments : goal.returns-in_err-log-clause-moments
returns-in_err-log-clause-moments g c t tells =
    left_by t (g.D.Disk.told c.write_record.new.disk) c.args.self _ c.args.changes.now c.bytes-2.result.now c.self.view_is (c.bytes-2.ensures ∙ c.in_ok-bytes.ensures.bytes) (record { some = grind (arith, common_steps, c.if-is_empty.false, c.is_empty.ensures, c.items.ensures); fits = c.in_ok-bytes.ensures.count }) c.requires.changes c.requires.epochs (c.requires.stands t tells)
    (λ records holds. c.write_record.ensures.moments t records tells holds)

pub returns-clause-moments : goal.returns-clause-moments
returns-clause-moments g c t tells =
    left_by t (g.D.Disk.told c.write_record.new.disk) c.args.self _ c.args.changes.now c.bytes-2.result.now c.self.view_is (c.bytes-2.ensures ∙ c.in_ok-bytes.ensures.bytes) (record { some = grind (arith, common_steps, c.if-is_empty.false, c.is_empty.ensures, c.items.ensures); fits = c.in_ok-bytes.ensures.count }) c.requires.changes c.requires.epochs (c.requires.stands t tells)
    (λ records holds. c.write_record.ensures.moments t records tells holds)

-- what was made of the journal that was given
stood_by : (t : Told) (areas : Areas) (j inside : Journal) (next : Log) (s : State) (cs : List Change) (bytes : List ℕ) → inside ≡ j → bytes ≡ record_bytes cs → s ≡ taken cs inside.state → IsCounted cs → AllByRecursion IsChange cs → IsTrue (epochs_rise j.state.epoch cs) → Stands j (reads t) →
    ((records : List (List ℕ)) → Holds inside.log records (reads t) → Holds next (records ++ bytes ∷ []) areas) → Stands (record { id = inside.id; log = next; state = s }) areas
stood_by t areas j inside next s cs bytes view spelled made counted each rise stands holds =
    let here = holds stands.records (subst (λ (x : Journal). Holds x.log stands.records (reads t)) (sym view) stands.holds) in
    let state : state_of inside.id stands.records ≡ Ok inside.state = subst (λ (x : Journal). state_of x.id stands.records ≡ Ok x.state) (sym view) stands.state in
    let rises = subst (λ (x : Journal). IsTrue (epochs_rise x.state.epoch cs)) (sym view) rise in
    subst (λ (x : State). Stands (record { id = inside.id; log = next; state = x }) areas) (sym made)
    (recorded_stands inside.id inside.log next inside.state stands.records cs areas stands.some state counted each rises
    (subst (λ (b : List ℕ). Holds next (stands.records ++ b ∷ []) areas) spelled here))

pub returns-clause-stands : goal.returns-clause-stands
returns-clause-stands g c u now_tells =
    let before = went_before u c.write_record.ensures.went now_tells in
    stood_by before.0 (reads u) c.args.self _ c.in_ok-log.log c.take.new.self c.args.changes.now c.bytes-2.result.now c.self.view_is (c.bytes-2.ensures ∙ c.in_ok-bytes.ensures.bytes) c.in_ok-take.ensures (record { some = grind (arith, common_steps, c.if-is_empty.false, c.is_empty.ensures, c.items.ensures); fits = c.in_ok-bytes.ensures.count }) c.requires.changes c.requires.epochs (c.requires.stands before.0 before.1)
    (λ records holds. c.in_ok-log.ensures.holds before.0 u records before.1 now_tells holds)

pub returns-then-is_empty-clause-went : goal.returns-then-is_empty-clause-went
returns-then-is_empty-clause-went g c = none_recorded g.D.Disk c.args.disk.now c.args.self c.args.changes.now (grind (arith, common_steps, c.if-is_empty.true, c.is_empty.ensures, c.items.ensures))

pub returns-in_err-bytes-clause-went : goal.returns-in_err-bytes-clause-went
returns-in_err-bytes-clause-went g c =
    wanted_writing c.from_residual.result c.from_residual.ensures.1 (went_wanting (λ t. record_ops c.args.self c.args.changes.now) (went_none g.D.Disk c.args.disk.now))

pub returns-in_err-take-clause-went : goal.returns-in_err-take-clause-went
returns-in_err-take-clause-went g c =
    wanted_writing c.from_residual-in_err-take.result c.from_residual-in_err-take.ensures.1 (went_wanting (λ t. record_ops c.args.self c.args.changes.now) (went_none g.D.Disk c.args.disk.now))

abbrev failed_log : LogFault → Result Log LogFault
failed_log e = Err e

pub returns-in_err-log-clause-went : goal.returns-in_err-log-clause-went
returns-in_err-log-clause-went g c =
    refused_writing c.in_err-log.field-0.0 c.from_residual-in_err-log.result
    (λ area at is. c.in_err-log.ensures.undamaged area at (ap failed_log is)) c.from_residual-in_err-log.ensures.1
    (record_went c.args.self _ c.args.changes.now c.bytes-2.result.now c.self.view_is (c.bytes-2.ensures ∙ c.in_ok-bytes.ensures.bytes)
    (grind (arith, common_steps, c.if-is_empty.false, c.is_empty.ensures, c.items.ensures)) c.in_err-log.ensures.went)

pub returns-clause-went : goal.returns-clause-went
returns-clause-went g c =
    record_went c.args.self _ c.args.changes.now c.bytes-2.result.now c.self.view_is (c.bytes-2.ensures ∙ c.in_ok-bytes.ensures.bytes)
    (grind (arith, common_steps, c.if-is_empty.false, c.is_empty.ensures, c.items.ensures)) c.in_ok-log.ensures.went
