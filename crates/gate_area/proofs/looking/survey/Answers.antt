use Rattle.std.proofs.Common.{◌∙◌, [], ◌∷◌}
use Rattle.gate_area.proofs.Surveys.{surveyed, survey_refused, judged_went}
use Rattle.disk_model.specs.Running.{Asks, Reads}
use Rattle.disk_model.proofs.Went.{went_on, went_part, never_passes}
use Rattle.gate_area.proofs.looking.survey.Goals as goal

pub returns-clause-answer : goal.returns-clause-answer
returns-clause-answer g c t tells =
    surveyed c.args.pair t c.first.result c.second.result c.in_ok-first.first c.in_ok-second.second c.judge.result
    c.first.ensures c.second.ensures
    (c.in_ok-first.ensures.look t tells)
    (c.in_ok-second.ensures.look t (record { honest = c.in_ok-first.ensures.went.honest ∙ tells.honest; told = c.in_ok-first.ensures.told ∙ tells.told }))
    c.judge.ensures

pub returns-in_err-first-clause-went : goal.returns-in_err-first-clause-went
returns-in_err-first-clause-went g c =
    survey_refused c.in_err-first.field-0.0 c.from_residual.result c.from_residual.ensures.1
    (went_part (λ t. Asks ∷ Reads ∷ []) (never_passes c.in_err-first.field-0.0) c.in_err-first.ensures.went)

pub returns-in_err-second-clause-went : goal.returns-in_err-second-clause-went
returns-in_err-second-clause-went g c =
    survey_refused c.in_err-second.field-0.0 c.from_residual-in_err-second.result c.from_residual-in_err-second.ensures.1 (went_on c.in_ok-first.ensures.went c.in_err-second.ensures.went)

pub returns-clause-went : goal.returns-clause-went
returns-clause-went g c = judged_went c.args.pair _ _ _ c.judge.result c.judge.ensures (went_on c.in_ok-first.ensures.went c.in_ok-second.ensures.went)
