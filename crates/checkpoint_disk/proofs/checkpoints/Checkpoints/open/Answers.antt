use Rattle.std.proofs.Common.{ap, ◌∙◌, Ok, None, Some}
use Rattle.disk_model.specs.Calls.{Tells, reads}
use Rattle.disk_model.proofs.Went.{went_none}
use Rattle.checkpoint_disk.proofs.Opening.{finds_fault, fresh_stands, area_stands, finds_fresh, finds_standing}
use Rattle.checkpoint_disk.proofs.Going.{found_went, survey_went}
use Rattle.checkpoint_disk.proofs.checkpoints.Checkpoints.open.Goals as goal

pub returns-in_err-survey-clause-finds : goal.returns-in_err-survey-clause-finds
returns-in_err-survey-clause-finds g c t tells =
    finds_fault (reads t) c.in_err-survey.field-0.0 c.from_residual.result (c.in_err-survey.ensures.answer t tells) c.from_residual.ensures.1

pub returns-in_err-survey-clause-went : goal.returns-in_err-survey-clause-went
returns-in_err-survey-clause-went g c =
    survey_went c.in_err-survey.field-0.0 c.from_residual.result g.met.D.Disk.tells c.in_err-survey.ensures.answer c.from_residual.ensures.1 c.in_err-survey.ensures.went

pub returns-in-None-clause-finds : goal.returns-in-None-clause-finds
returns-in-None-clause-finds g c t tells = finds_fresh (reads t) (fresh_stands (reads t) (c.in_ok-survey.ensures.answer t tells ∙ ap Ok c.in-None.is))

pub returns-in-None-clause-went : goal.returns-in-None-clause-went
returns-in-None-clause-went g c =
    found_went (Ok None) g.met.D.Disk.tells (λ t tells. fresh_stands (reads t) (c.in_ok-survey.ensures.answer t tells ∙ ap Ok c.in-None.is)) c.in_ok-survey.ensures.went
    (went_none g.D.Disk c.survey.new.disk)

pub returns-in-At-clause-finds : goal.returns-in-At-clause-finds
returns-in-At-clause-finds g c t tells =
    let mid : Tells (g.D.Disk.told c.survey.new.disk) (g.D.Disk.honest c.survey.new.disk) t = record { honest = c.survey.ensures.went.honest ∙ tells.honest; told = c.survey.ensures.told ∙ tells.told } in
    finds_standing t c.in-At.area c.in-At.generation c.resume.result
    (area_stands (reads t) c.in-At.area c.in-At.generation c.in-At.len (c.in_ok-survey.ensures.answer t tells ∙ ap Ok c.in-At.is)) (c.resume.ensures.finds t mid)

pub returns-in-At-clause-went : goal.returns-in-At-clause-went
returns-in-At-clause-went g c =
    found_went (Ok (Some (c.in-At.area, c.in-At.generation))) g.met.D.Disk.tells
    (λ t tells. area_stands (reads t) c.in-At.area c.in-At.generation c.in-At.len (c.in_ok-survey.ensures.answer t tells ∙ ap Ok c.in-At.is)) c.in_ok-survey.ensures.went c.resume.ensures.went
