use Rattle.std.proofs.Common.{[], List, ℕ, length, refl, ap, ◌∙◌, subst, arith}
use Rattle.disk_model.specs.declared.area.Area.TheVariants.{Journal0}
use Rattle.disk_model.specs.Calls.{reads}
use Rattle.gate_log.specs.Moments.{SameRecords}
use Rattle.gate_area.specs.Gate.{RenewLeaves}
use Rattle.gate_area.proofs.Phases.{leaves_as, stays_leaves}
use Rattle.gate_log.proofs.Renewals.{length-body, fresh_same}
use Rattle.disk_model.proofs.Went.{went_none, went_wanting}
use Rattle.gate_log.proofs.Going.{begin_went, refused_went, wanted_went}
use Rattle.gate_area.specs.Operations.{renew_ops}
use Rattle.gate_log.specs.Records.{area_body}
use Rattle.gate_log.proofs.log.begin.Goals as goal

pub returns-in_err-bytes-clause-moments : goal.returns-in_err-bytes-clause-moments
returns-in_err-bytes-clause-moments g c t tells =
    stays_leaves t (g.D.Disk.told c.args.disk.now) (SameRecords (reads t)) tells.told (c.requires.settled t tells) (record { checks = record { check2 = refl; check3 = refl }; records = refl })

pub renew-requires-clause-body : goal.renew-requires-clause-body
renew-requires-clause-body g c = omega (arith, ap length (c.deref.ensures.value ∙ c.in_ok-bytes.ensures), length-body 1 [])

pub returns-in_err-renew-clause-moments : goal.returns-in_err-renew-clause-moments
returns-in_err-renew-clause-moments g c t tells =
    leaves_as t (g.D.Disk.told c.renew.new.disk) (RenewLeaves Journal0 c.deref.result.now (reads t)) (SameRecords (reads t)) (c.renew.ensures.moments t tells)
    (λ image leaves. fresh_same (reads t) image (c.requires.fresh t tells) (subst (λ (b : List ℕ). RenewLeaves Journal0 b (reads t) image) (c.deref.ensures.value ∙ c.in_ok-bytes.ensures) leaves))

pub returns-clause-moments : goal.returns-clause-moments
returns-clause-moments g c t tells =
    leaves_as t (g.D.Disk.told c.renew.new.disk) (RenewLeaves Journal0 c.deref.result.now (reads t)) (SameRecords (reads t)) (c.renew.ensures.moments t tells)
    (λ image leaves. fresh_same (reads t) image (c.requires.fresh t tells) (subst (λ (b : List ℕ). RenewLeaves Journal0 b (reads t) image) (c.deref.ensures.value ∙ c.in_ok-bytes.ensures) leaves))

pub returns-in_err-bytes-clause-went : goal.returns-in_err-bytes-clause-went
returns-in_err-bytes-clause-went g c = wanted_went c.from_residual.result c.from_residual.ensures.1 (went_wanting (renew_ops Journal0 (area_body 1 [])) (went_none g.D.Disk c.args.disk.now))

pub returns-in_err-renew-clause-went : goal.returns-in_err-renew-clause-went
returns-in_err-renew-clause-went g c =
    refused_went c.in_err-renew.field-0.0 c.from_residual-in_err-renew.result c.from_residual-in_err-renew.ensures.1
    (begin_went c.deref.result.now (c.deref.ensures.value ∙ c.in_ok-bytes.ensures) c.in_err-renew.ensures.went)

pub returns-clause-went : goal.returns-clause-went
returns-clause-went g c = begin_went c.deref.result.now (c.deref.ensures.value ∙ c.in_ok-bytes.ensures) c.in_ok-renew.ensures.went
