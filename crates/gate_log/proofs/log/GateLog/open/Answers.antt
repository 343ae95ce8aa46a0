use Rattle.std.proofs.Common.{◌≡◌, subst, inr, [], ◌∷◌, IfOk}
use Rattle.disk_model.specs.declared.areas.Areas.{Areas}
use Rattle.disk_model.specs.declared.call.Call.TheVariants.{Sync}
use Rattle.disk_model.specs.Calls.{LeavesOnly, and_then, reads}
use Rattle.disk_model.proofs.Reading.{reads_synced}
use Rattle.gate_area.specs.declared.pair.Pair.TheVariants.{Journal}
use Rattle.gate_area.specs.Standing.{stands}
use Rattle.gate_log.specs.Journal.{Holds, IsFound, IsLogOf, records_in}
use Rattle.gate_log.specs.Moments.{Finds, SameRecords, refused_as}
use Rattle.gate_log.proofs.Answering.{errs, finds_refused, if_ok}
use Rattle.gate_log.proofs.Opens.{sync_settles}
use Rattle.gate_area.proofs.Phases.{synced_tells}
use Rattle.disk_model.proofs.Went.{went_before, went_call, went_part, never_passes}
use Rattle.gate_log.proofs.Going.{refused_went, synced_went}
use Rattle.gate_log.specs.Operations.{find_ops}
use Rattle.gate_log.proofs.log.GateLog.open.Goals as goal

pub returns-in_err-sync-clause-finds : goal.returns-in_err-sync-clause-finds
returns-in_err-sync-clause-finds g c t tells =
    finds_refused (λ opened. opened.1.items) (records_in (reads t)) c.in_err-sync.field-0.0 c.from_residual.result
    (errs c.from_residual.result _ (λ e. e ≡ refused_as c.in_err-sync.field-0.0) c.from_residual.ensures.1 (λ e same. same))

pub find-requires-clause-settled : goal.find-requires-clause-settled
find-requires-clause-settled g c t tells =
    sync_settles (g.D.Disk.told c.args.disk.now) (g.D.Disk.told c.sync.new.self) t c.in_ok-sync.ensures.told tells.told

pub returns-clause-finds : goal.returns-clause-finds
returns-clause-finds g c t tells =
    let mid = synced_tells (g.D.Disk.told c.args.disk.now) (g.D.Disk.told c.sync.new.self) (g.D.Disk.honest c.args.disk.now) (g.D.Disk.honest c.sync.new.self) t c.in_ok-sync.ensures.told c.sync.ensures.did.honest tells in
    subst (λ (areas : Areas). Finds (λ opened. opened.1.items) (records_in areas) c.find.result) (reads_synced t) (c.find.ensures.finds (and_then t (Sync ∷ [])) mid)

pub returns-clause-log : goal.returns-clause-log
returns-clause-log g c t tells =
    let mid = synced_tells (g.D.Disk.told c.args.disk.now) (g.D.Disk.told c.sync.new.self) (g.D.Disk.honest c.args.disk.now) (g.D.Disk.honest c.sync.new.self) t c.in_ok-sync.ensures.told c.sync.ensures.did.honest tells in
    subst (λ (areas : Areas). IfOk c.find.result (λ opened. IsFound c.args.limit opened.1.items (stands Journal areas) opened.0)) (reads_synced t) (c.find.ensures.log (and_then t (Sync ∷ [])) mid)

pub returns-clause-moments : goal.returns-clause-moments
returns-clause-moments g c t tells =
    let mid = synced_tells (g.D.Disk.told c.args.disk.now) (g.D.Disk.told c.sync.new.self) (g.D.Disk.honest c.args.disk.now) (g.D.Disk.honest c.sync.new.self) t c.in_ok-sync.ensures.told c.sync.ensures.did.honest tells in
    inr (subst (λ (areas : Areas). LeavesOnly (and_then t (Sync ∷ [])) (g.D.Disk.told c.find.new.disk) (SameRecords areas)) (reads_synced t) (c.find.ensures.moments (and_then t (Sync ∷ [])) mid))

pub returns-clause-holds : goal.returns-clause-holds
returns-clause-holds g c u tells =
    let before = went_before u c.find.ensures.went tells in
    c.find.ensures.holds before.0 u before.1 tells

pub returns-clause-stands : goal.returns-clause-stands
returns-clause-stands g c u tells =
    let before = went_before u c.find.ensures.went tells in
    if_ok c.find.result (λ o. Holds o.0 o.1.items (reads u)) (λ o. IsLogOf o.0 (reads u)) (c.find.ensures.holds before.0 u before.1 tells) (λ o here. (o.1.items, here))

pub returns-in_err-sync-clause-went : goal.returns-in_err-sync-clause-went
returns-in_err-sync-clause-went g c =
    refused_went c.in_err-sync.field-0.0 c.from_residual.result c.from_residual.ensures.1
    (went_part find_ops (never_passes c.in_err-sync.field-0.0) (went_call c.in_err-sync.ensures.did tt c.in_err-sync.ensures.untold))

pub returns-clause-went : goal.returns-clause-went
returns-clause-went g c = synced_went g.met.D.Disk.tells (went_call c.in_ok-sync.ensures.did c.in_ok-sync.ensures.told tt) c.find.ensures.went
