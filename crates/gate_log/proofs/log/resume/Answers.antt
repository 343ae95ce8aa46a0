use Rattle.std.proofs.Common.{◌≡◌, ◌∙◌, subst, List, ℕ}
use Rattle.disk_model.specs.Calls.{area_bytes}
use Rattle.gate_log.specs.Journal.{in_area}
use Rattle.gate_log.specs.Moments.{refused_as}
use Rattle.gate_log.specs.Records.{StandsFor, walk_of}
use Rattle.gate_log.proofs.Answering.{errs, finds_refused}
use Rattle.gate_log.proofs.Going.{refused_went, walk_went}
use Rattle.gate_log.proofs.log.resume.Goals as goal

pub returns-in_err-bytes-clause-finds : goal.returns-in_err-bytes-clause-finds
returns-in_err-bytes-clause-finds g c t tells =
    finds_refused (λ opened. opened.1.items) (in_area c.args.area (walk_of (area_bytes c.args.area t))) c.in_err-bytes.field-0.0 c.from_residual.result
    (errs c.from_residual.result _ (λ e. e ≡ refused_as c.in_err-bytes.field-0.0) c.from_residual.ensures.1 (λ e same. same))

pub returns-in_err-bytes-clause-went : goal.returns-in_err-bytes-clause-went
returns-in_err-bytes-clause-went g c = refused_went c.in_err-bytes.field-0.0 c.from_residual.result c.from_residual.ensures.1 c.in_err-bytes.ensures.went

pub returns-in_err-records-clause-went : goal.returns-in_err-records-clause-went
returns-in_err-records-clause-went g c =
    walk_went c.args.area (walk_of c.deref.result.now) c.in_err-records.field-0.0 c.from_residual-in_err-records.result c.in_err-records.ensures.walks
    c.from_residual-in_err-records.ensures.1 c.in_ok-bytes.ensures.went

pub returns-clause-content : goal.returns-clause-content
returns-clause-content g c t tells =
    subst (λ (f : List ℕ). StandsFor c.in_ok-records.records.items f) (c.deref.ensures.value ∙ c.in_ok-bytes.ensures.bytes t tells) c.in_ok-records.ensures.stands
