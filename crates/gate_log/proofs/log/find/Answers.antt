use Rattle.std.proofs.Common.{◌≡◌, ◌∙◌, sym, ap, refl, subst, [], List, ℕ, Ok, Some, None}
use Rattle.disk_model.specs.declared.area.Area.TheVariants.{Journal0}
use Rattle.disk_model.specs.Areas.{bytes_of}
use Rattle.disk_model.specs.Calls.{Told, area_bytes, reads}
use Rattle.disk_model.proofs.Reading.{reads-bytes}
use Rattle.gate_area.specs.declared.pair.Pair.TheVariants.{Journal}
use Rattle.gate_area.specs.Standing.{stands}
use Rattle.gate_log.specs.Journal.{in_area, log_of, records_in, records_of}
use Rattle.gate_log.specs.Moments.{Finds, IsWant, SameRecords, surveyed_as}
use Rattle.gate_log.specs.Records.{StandsFor, walk_of}
use Rattle.gate_log.proofs.Answering.{Found, errs, finds_fault, fresh_stands, area_stands, finds_fresh, both, if_ok, log_passed, holds_fresh, holds_standing, found_fresh, found_standing}
use Rattle.gate_log.proofs.Opens.{tells_as, fresh_log}
use Rattle.gate_area.proofs.Phases.{stays_leaves, told_is}
use Rattle.disk_model.proofs.Went.{went_ends}
use Rattle.gate_log.proofs.Going.{found_went, survey_went}
use Rattle.gate_log.proofs.log.find.Goals as goal

pub returns-in_err-survey-clause-finds : goal.returns-in_err-survey-clause-finds
returns-in_err-survey-clause-finds g c t tells =
    finds_fault (λ opened. opened.1.items) (reads t) c.in_err-survey.field-0.0 c.from_residual.result (c.in_err-survey.ensures.answer t tells)
    (errs c.from_residual.result _ (λ e. e ≡ surveyed_as c.in_err-survey.field-0.0) c.from_residual.ensures.1 (λ e same. same))

pub returns-in_err-survey-clause-moments : goal.returns-in_err-survey-clause-moments
returns-in_err-survey-clause-moments g c t tells =
    stays_leaves t (g.D.Disk.told c.survey.new.disk) (SameRecords (reads t)) (c.survey.ensures.told ∙ tells.told) (c.requires.settled t tells) (record { checks = record { check2 = refl; check3 = refl }; records = refl })

pub begin-requires-clause-fresh : goal.begin-requires-clause-fresh
begin-requires-clause-fresh g c t tells =
    let before = tells_as (g.D.Disk.told c.survey.new.disk) (g.D.Disk.told c.args.disk.now) (g.D.Disk.honest c.survey.new.disk) (g.D.Disk.honest c.args.disk.now) t (sym c.survey.ensures.told) (sym c.survey.ensures.went.honest) tells in
    fresh_stands (reads t) (c.in_ok-survey.ensures.answer t before ∙ ap Ok c.in-None.is)

pub returns-in-None-clause-finds : goal.returns-in-None-clause-finds
returns-in-None-clause-finds g c t tells =
    finds_fresh (λ opened. opened.1.items) (reads t) c.begin.result (fresh_stands (reads t) (c.in_ok-survey.ensures.answer t tells ∙ ap Ok c.in-None.is))
    (both c.begin.result (λ opened. opened.1.items ≡ []) IsWant c.begin.ensures.records c.begin.ensures.want)

pub returns-in-None-clause-holds : goal.returns-in-None-clause-holds
returns-in-None-clause-holds g c t u tells now_tells =
    let mid = tells_as (g.D.Disk.told c.args.disk.now) (g.D.Disk.told c.survey.new.disk) (g.D.Disk.honest c.args.disk.now) (g.D.Disk.honest c.survey.new.disk) t c.survey.ensures.told c.survey.ensures.went.honest tells in
    holds_fresh c.begin.result (log_of Journal0 1 c.args.limit []) (reads u) c.begin.ensures.log c.begin.ensures.records (log_passed c.begin.result)
    (λ passed. fresh_log t u c.args.limit (c.requires.settled t tells)
    (fresh_stands (reads t) (c.in_ok-survey.ensures.answer t tells ∙ ap Ok c.in-None.is)) mid now_tells.told (went_ends passed c.begin.ensures.went))

pub returns-in-At-clause-finds : goal.returns-in-At-clause-finds
returns-in-At-clause-finds g c t tells =
    let mid = tells_as (g.D.Disk.told c.args.disk.now) (g.D.Disk.told c.survey.new.disk) (g.D.Disk.honest c.args.disk.now) (g.D.Disk.honest c.survey.new.disk) t c.survey.ensures.told c.survey.ensures.went.honest tells in
    let standing = area_stands (reads t) c.in-At.area c.in-At.generation c.in-At.len (c.in_ok-survey.ensures.answer t tells ∙ ap Ok c.in-At.is) in
    let expected : records_in (reads t) ≡ in_area c.in-At.area (walk_of (area_bytes c.in-At.area t)) =
    ap (records_of (reads t)) standing ∙ ap (λ (f : List ℕ). in_area c.in-At.area (walk_of f)) (reads-bytes t c.in-At.area) in
    subst (λ (x : Found). Finds (λ opened. opened.1.items) x c.resume.result) (sym expected) (c.resume.ensures.finds t mid)

pub returns-in-At-clause-moments : goal.returns-in-At-clause-moments
returns-in-At-clause-moments g c t tells =
    stays_leaves t (g.D.Disk.told c.resume.new.disk) (SameRecords (reads t)) (c.resume.ensures.told ∙ c.survey.ensures.told ∙ tells.told) (c.requires.settled t tells) (record { checks = record { check2 = refl; check3 = refl }; records = refl })

pub returns-in-At-clause-holds : goal.returns-in-At-clause-holds
returns-in-At-clause-holds g c t u tells now_tells =
    let area = c.in-At.area in
    let mid = tells_as (g.D.Disk.told c.args.disk.now) (g.D.Disk.told c.survey.new.disk) (g.D.Disk.honest c.args.disk.now) (g.D.Disk.honest c.survey.new.disk) t c.survey.ensures.told c.survey.ensures.went.honest tells in
    let same : u ≡ t = told_is t u (g.D.Disk.told c.resume.new.disk) (c.resume.ensures.told ∙ c.survey.ensures.told ∙ tells.told) now_tells.told in
    let standing = area_stands (reads t) area c.in-At.generation c.in-At.len (c.in_ok-survey.ensures.answer t tells ∙ ap Ok c.in-At.is) in
    holds_standing c.resume.result area c.in-At.generation c.args.limit (reads u) c.resume.ensures.log
    (if_ok c.resume.result (λ o. StandsFor o.1.items (area_bytes area t)) (λ o. StandsFor o.1.items (bytes_of area (reads u))) (c.resume.ensures.content t mid)
    (λ o here. subst (λ (f : List ℕ). StandsFor o.1.items f) (sym (reads-bytes t area) ∙ ap (λ (x : Told). bytes_of area (reads x)) (sym same)) here))
    (ap (λ (x : Told). stands Journal (reads x)) same ∙ standing)

pub returns-in-None-clause-log : goal.returns-in-None-clause-log
returns-in-None-clause-log g c t tells =
    found_fresh c.begin.result c.args.limit (reads t) c.begin.ensures.log c.begin.ensures.records
    (fresh_stands (reads t) (c.in_ok-survey.ensures.answer t tells ∙ ap Ok c.in-None.is))

pub returns-in-At-clause-log : goal.returns-in-At-clause-log
returns-in-At-clause-log g c t tells =
    found_standing c.resume.result c.in-At.area c.in-At.generation c.args.limit (reads t) c.resume.ensures.log
    (area_stands (reads t) c.in-At.area c.in-At.generation c.in-At.len (c.in_ok-survey.ensures.answer t tells ∙ ap Ok c.in-At.is))

pub returns-in_err-survey-clause-went : goal.returns-in_err-survey-clause-went
returns-in_err-survey-clause-went g c =
    survey_went c.in_err-survey.field-0.0 c.from_residual.result g.met.D.Disk.tells c.in_err-survey.ensures.answer c.from_residual.ensures.1 c.in_err-survey.ensures.went

pub returns-in-None-clause-went : goal.returns-in-None-clause-went
returns-in-None-clause-went g c =
    found_went (Ok None) g.met.D.Disk.tells (λ t tells. fresh_stands (reads t) (c.in_ok-survey.ensures.answer t tells ∙ ap Ok c.in-None.is)) c.in_ok-survey.ensures.went c.begin.ensures.went

pub returns-in-At-clause-went : goal.returns-in-At-clause-went
returns-in-At-clause-went g c =
    found_went (Ok (Some (c.in-At.area, c.in-At.generation))) g.met.D.Disk.tells
    (λ t tells. area_stands (reads t) c.in-At.area c.in-At.generation c.in-At.len (c.in_ok-survey.ensures.answer t tells ∙ ap Ok c.in-At.is)) c.in_ok-survey.ensures.went c.resume.ensures.went
