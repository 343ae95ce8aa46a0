-- How an opening goes by its operations.
use Rattle.std.proofs.Common.{◌≡◌, ℕ, inl, inr, List, [], ◌++◌, None, Some, Result, Ok, Err, IsErrAnd, IsErrOf, length, refl, ap, sym, ◌∙◌}
use Rattle.disk_model.specs.declared.area.Area.{Area}
use Rattle.disk_model.specs.declared.disk.Disk.{Ghosts}
use Rattle.disk_model.specs.Calls.{Told, Tells, and_then, reads}
use Rattle.disk_model.specs.Running.{Op, Ending, Passed}
use Rattle.disk_model.specs.Sim.{Sim}
use Rattle.disk_model.specs.Went.{WentBy}
use Rattle.disk_model.proofs.Went.{and_none, went_none, went_on, went_part, went_as, went_ends, went_wants}
use Rattle.gate_area.specs.declared.pair.Pair.TheVariants.{Check}
use Rattle.gate_area.specs.declared.pair.SurveyFault.{SurveyFault}
use Rattle.gate_area.specs.declared.pair.SurveyFault.TheVariants.{Disk, Damaged, Memory}
use Rattle.gate_area.specs.Operations.{survey_ops, spoilt_ending, survey_ending}
use Rattle.gate_area.specs.Standing.{Answers, answer_at, answer_of, stands}
use Rattle.checkpoint_disk.specs.Standing.{standing_ops, open_ops}
use Rattle.checkpoint_disk.proofs.Opening.{Judgement}

-- an area was read, and what its bytes are needs no disk
pub read_went : {D T : Type 0} {disk : Ghosts D} {ops : Told → List Op} {old now : D} (r : Result T SurveyFault) → (IsErrOf r Disk → ⊥) → WentBy disk ops old now Passed → WentBy disk ops old now (survey_ending r)
read_went (Ok x) never went = went
read_went (Err Disk) never went = absurd (never refl)
read_went (Err (Damaged area at)) never went = went
read_went (Err Memory) never went = went_wants went

open_as : (j : Judgement) (t : Told) → stands Check (reads t) ≡ j → survey_ops ++ standing_ops j (and_then t []) ≡ open_ops t
open_as j t stood = ap (λ u. survey_ops ++ standing_ops j u) (and_none t) ∙ ap (λ x. survey_ops ++ standing_ops x t) (sym stood)

-- a survey has passed, and what follows is by what it found
pub found_went : {D : Type 0} {disk : Ghosts D} {old mid now : D} {e : Ending} (j : Judgement) → ((d : D) (s : Sim) → disk.memory d ≡ Some s → Tells (disk.told d) (disk.honest d) s.told)
    → ((t : Told) → Tells (disk.told old) (disk.honest old) t → stands Check (reads t) ≡ j) → WentBy disk (λ t. survey_ops) old mid Passed → WentBy disk (standing_ops j) mid now e
    → WentBy disk open_ops old now e
found_went j tells stood first second = went_as open_ops tells (λ t told. open_as j t (stood t told)) (went_on first second)

spoilt_answer : (n m : ℕ) (j : Judgement) (area : Area) (at : ℕ) → answer_at Check n m j ≡ Err (Damaged area at) → j ≡ Err (area, at)
spoilt_answer n m (Ok None) area at is = absurd cc
spoilt_answer n m (Ok (Some (b, g))) area at is = absurd cc
spoilt_answer n m (Err (b, k)) area at is = cc

-- a survey was refused, or has found a damaged place
pub survey_went : {D T : Type 0} {disk : Ghosts D} {old now : D} (fault : SurveyFault) (r : Result T SurveyFault) → ((d : D) (s : Sim) → disk.memory d ≡ Some s → Tells (disk.told d) (disk.honest d) s.told)
    → ((t : Told) → Tells (disk.told old) (disk.honest old) t → Answers (answer_of Check (reads t)) (Err fault)) → IsErrAnd r (λ e. e ≡ fault)
    → WentBy disk (λ t. survey_ops) old now (spoilt_ending fault) → WentBy disk open_ops old now (survey_ending r)
survey_went fault (Ok x) tells answers is went = absurd is
survey_went Disk (Err e) tells answers is went = went_ends (sym (ap spoilt_ending is)) (went_part (λ t. standing_ops (stands Check (reads t)) t) (λ no. absurd cc) went)
survey_went {disk = disk} {now = now} (Damaged area at) (Err e) tells answers is went =
    went_ends (sym (ap spoilt_ending is)) (found_went (Err (area, at)) tells (λ t told. spoilt t (answers t told)) went (went_none disk now))
  where
    spoilt : (t : Told) → Answers (answer_of Check (reads t)) (Err (Damaged area at)) → stands Check (reads t) ≡ Err (area, at)
    spoilt t (inl disk) = absurd (let e : Damaged area at ≡ Disk = disk in cc)
    spoilt t (inr (inl memory)) = absurd (let e : Damaged area at ≡ Memory = memory in cc)
    spoilt t (inr (inr answer)) = spoilt_answer (length (reads t).check2) (length (reads t).check3) (stands Check (reads t)) area at answer
survey_went Memory (Err e) tells answers is went = went_ends (sym (ap spoilt_ending is)) (went_part (λ t. standing_ops (stands Check (reads t)) t) (λ no. absurd cc) went)
