use Rattle.std.proofs.Common.{[], ◌∷◌, refl, map}
use Rattle.disk_model.specs.declared.call.Call.TheVariants.{Write, Sync}
use Rattle.disk_model.specs.Running.{Does}
use Rattle.disk_model.proofs.Went.{went_call, went_asked, went_on, went_part, went_refused, never_passes}
use Rattle.gate_area.specs.Gate.{retire_calls}
use Rattle.gate_area.proofs.Placing.{closes}
use Rattle.gate_area.proofs.steps.cut_and_close.Goals as goal

pub returns-in_err-len-clause-went : goal.returns-in_err-len-clause-went
returns-in_err-len-clause-went g c =
    went_refused c.in_err-len.field-0.0 c.from_residual.result c.from_residual.ensures.1
    (went_part (λ t. map Does (retire_calls c.args.area t)) (never_passes c.in_err-len.field-0.0) (went_asked c.in_err-len.ensures.did refl c.in_err-len.ensures.told))

pub returns-in_err-cut-clause-went : goal.returns-in_err-cut-clause-went
returns-in_err-cut-clause-went g c =
    let refused = c.in_err-cut.field-0.0 in
    let len = went_asked c.in_ok-len.ensures.did refl c.in_ok-len.ensures.told in
    went_refused refused c.from_residual-in_err-cut.result c.from_residual-in_err-cut.ensures.1
    (closes c.args.area c.in_ok-len.len c.min.result g.met.D.Disk.tells c.min.ensures c.in_ok-len.ensures.length
    (went_on len
    (went_part (λ t. Does Sync ∷ Does (Write c.args.area 0 (0 ∷ [])) ∷ Does Sync ∷ []) (never_passes refused) (went_call c.in_err-cut.ensures.did tt c.in_err-cut.ensures.untold))))

pub returns-in_err-sync-clause-went : goal.returns-in_err-sync-clause-went
returns-in_err-sync-clause-went g c =
    let refused = c.in_err-sync.field-0.0 in
    let len = went_asked c.in_ok-len.ensures.did refl c.in_ok-len.ensures.told in
    let cut = went_call c.in_ok-cut.ensures.did c.in_ok-cut.ensures.told tt in
    went_refused refused c.from_residual-in_err-sync.result c.from_residual-in_err-sync.ensures.1
    (closes c.args.area c.in_ok-len.len c.min.result g.met.D.Disk.tells c.min.ensures c.in_ok-len.ensures.length
    (went_on len (went_on cut
    (went_part (λ t. Does (Write c.args.area 0 (0 ∷ [])) ∷ Does Sync ∷ []) (never_passes refused) (went_call c.in_err-sync.ensures.did tt c.in_err-sync.ensures.untold)))))

pub returns-in_err-write_at-clause-went : goal.returns-in_err-write_at-clause-went
returns-in_err-write_at-clause-went g c =
    let refused = c.in_err-write_at.field-0.0 in
    let len = went_asked c.in_ok-len.ensures.did refl c.in_ok-len.ensures.told in
    let cut = went_call c.in_ok-cut.ensures.did c.in_ok-cut.ensures.told tt in
    let short = went_call c.in_ok-sync.ensures.did c.in_ok-sync.ensures.told tt in
    went_refused refused c.from_residual-in_err-write_at.result c.from_residual-in_err-write_at.ensures.1
    (closes c.args.area c.in_ok-len.len c.min.result g.met.D.Disk.tells c.min.ensures c.in_ok-len.ensures.length
    (went_on len (went_on cut (went_on short
    (went_part (λ t. Does Sync ∷ []) (never_passes refused) (went_call c.in_err-write_at.ensures.did tt c.in_err-write_at.ensures.untold))))))

pub returns-in_err-sync-2-clause-went : goal.returns-in_err-sync-2-clause-went
returns-in_err-sync-2-clause-went g c =
    let refused = c.in_err-sync-2.field-0.0 in
    let len = went_asked c.in_ok-len.ensures.did refl c.in_ok-len.ensures.told in
    let cut = went_call c.in_ok-cut.ensures.did c.in_ok-cut.ensures.told tt in
    let short = went_call c.in_ok-sync.ensures.did c.in_ok-sync.ensures.told tt in
    let close = went_call c.in_ok-write_at.ensures.did c.in_ok-write_at.ensures.told tt in
    went_refused refused c.from_residual-in_err-sync-2.result c.from_residual-in_err-sync-2.ensures.1
    (closes c.args.area c.in_ok-len.len c.min.result g.met.D.Disk.tells c.min.ensures c.in_ok-len.ensures.length
    (went_on len (went_on cut (went_on short (went_on close (went_call c.in_err-sync-2.ensures.did tt c.in_err-sync-2.ensures.untold))))))

pub returns-clause-went : goal.returns-clause-went
returns-clause-went g c =
    let len = went_asked c.in_ok-len.ensures.did refl c.in_ok-len.ensures.told in
    let cut = went_call c.in_ok-cut.ensures.did c.in_ok-cut.ensures.told tt in
    let short = went_call c.in_ok-sync.ensures.did c.in_ok-sync.ensures.told tt in
    let close = went_call c.in_ok-write_at.ensures.did c.in_ok-write_at.ensures.told tt in
    closes c.args.area c.in_ok-len.len c.min.result g.met.D.Disk.tells c.min.ensures c.in_ok-len.ensures.length
    (went_on len (went_on cut (went_on short (went_on close (went_call c.in_ok-sync-2.ensures.did c.in_ok-sync-2.ensures.told tt)))))
