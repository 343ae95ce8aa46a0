use Rattle.std.proofs.Common.{refl, ap, ◌∙◌}
use Rattle.disk_model.specs.Calls.{and_then, reads, made_by}
use Rattle.disk_model.specs.Went.{changes}
use Rattle.disk_model.proofs.Went.{went_on, went_part, went_refused, never_passes}
use Rattle.gate_area.specs.Gate.{retire_calls, gate_calls, RetireLeaves, FoundLeaves, RenewLeaves}
use Rattle.gate_area.specs.Operations.{retire_ops, gate_ops}
use Rattle.gate_area.proofs.Phases.{leaves_as, leaves_on}
use Rattle.gate_area.proofs.Renewals.{retire_renews, found_renews}
use Rattle.gate_area.proofs.renewing.renew.Goals as goal

pub returns-in_err-retire-clause-moments : goal.returns-in_err-retire-clause-moments
returns-in_err-retire-clause-moments g c t tells =
    let after = reads (and_then t (retire_calls c.args.area t)) in
    leaves_as t (g.D.Disk.told c.retire.new.disk) (RetireLeaves c.args.area (reads t) after) (RenewLeaves c.args.area c.args.body.now (reads t))
    (c.retire.ensures.moments t tells) (λ image. retire_renews c.args.area c.args.body.now (reads t) after image)

pub returns-clause-moments : goal.returns-clause-moments
returns-clause-moments g c t tells =
    let area = c.args.area in
    let body = c.args.body.now in
    let u = and_then t (retire_calls area t) in
    let after = reads u in
    let whole = reads (and_then u (gate_calls area 0 body)) in
    let is = c.in_ok-retire.ensures.went.all refl tells.honest ∙ ap (made_by (changes (retire_ops area))) tells.told in
    leaves_on t u (g.D.Disk.told c.retire.new.disk) (g.D.Disk.told c.found.new.disk) (RetireLeaves area (reads t) after) (FoundLeaves area body after whole) (RenewLeaves area body (reads t))
    (c.retire.ensures.moments t tells) is
    (c.found.ensures.moments u (record { honest = c.retire.ensures.went.honest ∙ tells.honest; told = is }))
    (λ image. retire_renews area body (reads t) after image)
    (λ image. found_renews t area body whole image c.requires.body (c.requires.settled t tells))

pub returns-in_err-retire-clause-went : goal.returns-in_err-retire-clause-went
returns-in_err-retire-clause-went g c =
    went_refused c.in_err-retire.field-0.0 c.from_residual.result c.from_residual.ensures.1
    (went_part (λ t. gate_ops c.args.area 0 c.args.body.now) (never_passes c.in_err-retire.field-0.0) c.in_err-retire.ensures.went)

pub returns-clause-went : goal.returns-clause-went
returns-clause-went g c = went_on c.in_ok-retire.ensures.went c.found.ensures.went
