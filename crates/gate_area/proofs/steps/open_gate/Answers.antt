use Rattle.std.proofs.Common.{◌+◌, [], ◌∷◌, ◌∙◌}
use Rattle.disk_model.specs.declared.call.Call.TheVariants.{Write, Sync}
use Rattle.disk_model.specs.Running.{Does}
use Rattle.disk_model.proofs.Telling.{goes_on}
use Rattle.disk_model.proofs.Went.{went_call, went_on, went_part, went_refused, never_passes}
use Rattle.gate_area.proofs.Placing.{still_within}
use Rattle.gate_area.proofs.steps.open_gate.Goals as goal

pub write_at-requires-2 : goal.write_at-requires-2
write_at-requires-2 g c u tells =
    let old = g.D.Disk.told c.args.disk.now in
    let two = goes_on old (g.D.Disk.told c.write_at.new.self) (g.D.Disk.told c.sync.new.self) (Write c.args.area (c.args.gate + 1) c.args.body.now ∷ []) (Sync ∷ []) c.in_ok-write_at.ensures.told c.in_ok-sync.ensures.told in
    still_within old (g.D.Disk.told c.sync.new.self) (g.D.Disk.honest c.args.disk.now) (g.D.Disk.honest c.sync.new.self) c.args.area c.args.gate c.args.body.now u c.requires.place (c.in_ok-sync.ensures.did.honest ∙ c.in_ok-write_at.ensures.did.honest) two tells

pub returns-in_err-write_at-clause-went : goal.returns-in_err-write_at-clause-went
returns-in_err-write_at-clause-went g c =
    let refused = c.in_err-write_at.field-0.0 in
    went_refused refused c.from_residual.result c.from_residual.ensures.1
    (went_part (λ t. Does Sync ∷ Does (Write c.args.area c.args.gate (1 ∷ [])) ∷ Does Sync ∷ []) (never_passes refused) (went_call c.in_err-write_at.ensures.did tt c.in_err-write_at.ensures.untold))

pub returns-in_err-sync-clause-went : goal.returns-in_err-sync-clause-went
returns-in_err-sync-clause-went g c =
    let refused = c.in_err-sync.field-0.0 in
    let body = went_call c.in_ok-write_at.ensures.did c.in_ok-write_at.ensures.told tt in
    went_refused refused c.from_residual-in_err-sync.result c.from_residual-in_err-sync.ensures.1
    (went_on body
    (went_part (λ t. Does (Write c.args.area c.args.gate (1 ∷ [])) ∷ Does Sync ∷ []) (never_passes refused) (went_call c.in_err-sync.ensures.did tt c.in_err-sync.ensures.untold)))

pub returns-in_err-write_at-2-clause-went : goal.returns-in_err-write_at-2-clause-went
returns-in_err-write_at-2-clause-went g c =
    let refused = c.in_err-write_at-2.field-0.0 in
    let body = went_call c.in_ok-write_at.ensures.did c.in_ok-write_at.ensures.told tt in
    let stands = went_call c.in_ok-sync.ensures.did c.in_ok-sync.ensures.told tt in
    went_refused refused c.from_residual-in_err-write_at-2.result c.from_residual-in_err-write_at-2.ensures.1
    (went_on body (went_on stands
    (went_part (λ t. Does Sync ∷ []) (never_passes refused) (went_call c.in_err-write_at-2.ensures.did tt c.in_err-write_at-2.ensures.untold))))

pub returns-in_err-sync-2-clause-went : goal.returns-in_err-sync-2-clause-went
returns-in_err-sync-2-clause-went g c =
    let refused = c.in_err-sync-2.field-0.0 in
    let body = went_call c.in_ok-write_at.ensures.did c.in_ok-write_at.ensures.told tt in
    let stands = went_call c.in_ok-sync.ensures.did c.in_ok-sync.ensures.told tt in
    let gate = went_call c.in_ok-write_at-2.ensures.did c.in_ok-write_at-2.ensures.told tt in
    went_refused refused c.from_residual-in_err-sync-2.result c.from_residual-in_err-sync-2.ensures.1
    (went_on body (went_on stands (went_on gate (went_call c.in_err-sync-2.ensures.did tt c.in_err-sync-2.ensures.untold))))

pub returns-clause-went : goal.returns-clause-went
returns-clause-went g c =
    let body = went_call c.in_ok-write_at.ensures.did c.in_ok-write_at.ensures.told tt in
    let stands = went_call c.in_ok-sync.ensures.did c.in_ok-sync.ensures.told tt in
    let gate = went_call c.in_ok-write_at-2.ensures.did c.in_ok-write_at-2.ensures.told tt in
    went_on body (went_on stands (went_on gate (went_call c.in_ok-sync-2.ensures.did c.in_ok-sync-2.ensures.told tt)))
