use Rattle.std.proofs.Common.{◌∙◌, [], ◌∷◌, refl}
use Rattle.disk_model.specs.Calls.{area_bytes}
use Rattle.gate_area.proofs.Surveys.{seen}
use Rattle.disk_model.specs.Running.{Reads}
use Rattle.disk_model.proofs.Went.{went_asked, went_on, went_part, went_refused, never_passes}
use Rattle.gate_area.proofs.looking.look_at.Goals as goal

pub returns-then-count-eq17-clause-look : goal.returns-then-count-eq17-clause-look
returns-then-count-eq17-clause-look g c t tells =
    seen c.args.pair (area_bytes c.args.area t) c.read.new.into c.in_ok-count.count c.in_ok-len.len c.head_of-head.result
    (c.in_ok-count.ensures.bytes t (record { honest = c.in_ok-len.ensures.did.honest ∙ tells.honest; told = c.in_ok-len.ensures.told ∙ tells.told }))
    c.if-count-eq17.true
    (c.in_ok-len.ensures.length t tells)
    c.head_of-head.ensures

pub returns-in_err-len-clause-went : goal.returns-in_err-len-clause-went
returns-in_err-len-clause-went g c =
    went_refused c.in_err-len.field-0.0 c.from_residual.result c.from_residual.ensures.1
    (went_part (λ t. Reads ∷ []) (never_passes c.in_err-len.field-0.0) (went_asked c.in_err-len.ensures.did refl c.in_err-len.ensures.told))

pub returns-in_err-count-clause-went : goal.returns-in_err-count-clause-went
returns-in_err-count-clause-went g c =
    went_refused c.in_err-count.field-0.0 c.from_residual-in_err-count.result c.from_residual-in_err-count.ensures.1
    (went_on (went_asked c.in_ok-len.ensures.did refl c.in_ok-len.ensures.told) (went_asked c.in_err-count.ensures.did refl c.in_err-count.ensures.told))

pub returns-then-count-eq17-clause-went : goal.returns-then-count-eq17-clause-went
returns-then-count-eq17-clause-went g c =
    went_on (went_asked c.in_ok-len.ensures.did refl c.in_ok-len.ensures.told) (went_asked c.in_ok-count.ensures.did refl c.in_ok-count.ensures.told)

pub returns-else-count-eq17-clause-went : goal.returns-else-count-eq17-clause-went
returns-else-count-eq17-clause-went g c =
    went_on (went_asked c.in_ok-len.ensures.did refl c.in_ok-len.ensures.told) (went_asked c.in_ok-count.ensures.did refl c.in_ok-count.ensures.told)
