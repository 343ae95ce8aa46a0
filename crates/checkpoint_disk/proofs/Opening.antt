-- What an opening answers.
use Rattle.std.proofs.Common.{◌≡◌, ℕ, inl, inr, Option, None, Some, Result, Ok, Err, IsErrAnd, List, length, refl, ap, sym, ◌∙◌, subst}
use Rattle.disk_model.specs.declared.area.Area.{Area}
use Rattle.disk_model.specs.declared.areas.Areas.{Areas}
use Rattle.disk_model.specs.Calls.{Told, area_bytes, reads}
use Rattle.disk_model.proofs.Reading.{reads-bytes}
use Rattle.gate_area.specs.declared.pair.Pair.TheVariants.{Check}
use Rattle.gate_area.specs.declared.pair.Standing.TheVariants.{None as Fresh, At}
use Rattle.gate_area.specs.declared.pair.SurveyFault.{SurveyFault}
use Rattle.gate_area.specs.declared.pair.SurveyFault.TheVariants.{Damaged}
use Rattle.gate_area.specs.Standing.{answer_at, answer_of, Answers, stands}
use Rattle.checkpoint.specs.Checkpoints.{Checkpoints, no_checkpoints, read_area, checkpoints_at, checkpoints_of, checkpoints_in}
use Rattle.checkpoint_disk.specs.Standing.{Finds, IsWant}

abbrev pub Judgement : Type 0
Judgement = Result (Option (Area × ℕ)) (Area × ℕ)

finds_want : (expected : Result Checkpoints (Area × ℕ)) (e : SurveyFault) → IsWant e → Finds expected (Err e)
finds_want (Ok c) e want = want
finds_want (Err (area, at)) e want = inr want

answer_fault : (areas : Areas) (n m : ℕ) (j : Judgement) (f e : SurveyFault) → answer_at Check n m j ≡ Err f → e ≡ f → Finds (checkpoints_of areas j) (Err e)
answer_fault areas n m (Ok None) f e is same = absurd cc
answer_fault areas n m (Ok (Some (area, g))) f e is same = absurd cc
answer_fault areas n m (Err (area, at)) f e is same =
    let spoilt : Damaged area at ≡ f = cc in
    inl (same ∙ sym spoilt)

-- a survey that was refused, or that found a damaged place
pub finds_fault : (areas : Areas) (f : SurveyFault) (r : Result Checkpoints SurveyFault) → Answers (answer_of Check areas) (Err f) → IsErrAnd r (λ e. e ≡ f) → Finds (checkpoints_in areas) r
finds_fault areas f (Ok x) answer same = absurd same
finds_fault areas f (Err e) (inl disk) same = finds_want (checkpoints_in areas) e (inl (same ∙ disk))
finds_fault areas f (Err e) (inr (inl memory)) same = finds_want (checkpoints_in areas) e (inr (same ∙ memory))
finds_fault areas f (Err e) (inr (inr is)) same = answer_fault areas (length areas.check2) (length areas.check3) (stands Check areas) f e is same

fresh_answer : (n m : ℕ) (j : Judgement) → answer_at Check n m j ≡ Ok Fresh → j ≡ Ok None
fresh_answer n m (Ok None) is = refl
fresh_answer n m (Ok (Some (area, g))) is = absurd cc
fresh_answer n m (Err (area, at)) is = absurd cc

-- a survey that found no area that stands
pub fresh_stands : (areas : Areas) → answer_of Check areas ≡ Ok Fresh → stands Check areas ≡ Ok None
fresh_stands areas is = fresh_answer (length areas.check2) (length areas.check3) (stands Check areas) is

standing_answer : (n m : ℕ) (j : Judgement) (area : Area) (g len : ℕ) → answer_at Check n m j ≡ Ok (At area g len) → j ≡ Ok (Some (area, g))
standing_answer n m (Ok None) area g len is = absurd cc
standing_answer n m (Ok (Some (b, h))) area g len is = cc
standing_answer n m (Err (b, at)) area g len is = absurd cc

-- a survey that found an area that stands
pub area_stands : (areas : Areas) (area : Area) (g len : ℕ) → answer_of Check areas ≡ Ok (At area g len) → stands Check areas ≡ Ok (Some (area, g))
area_stands areas area g len is = standing_answer (length areas.check2) (length areas.check3) (stands Check areas) area g len is

pub finds_fresh : (areas : Areas) → stands Check areas ≡ Ok None → Finds (checkpoints_in areas) (Ok no_checkpoints)
finds_fresh areas fresh = subst (λ (x : Result Checkpoints (Area × ℕ)). Finds x (Ok no_checkpoints)) (sym (ap (checkpoints_of areas) fresh)) refl

pub finds_standing : (t : Told) (area : Area) (g : ℕ) (r : Result Checkpoints SurveyFault) → stands Check (reads t) ≡ Ok (Some (area, g))
    → Finds (checkpoints_at area g (read_area (area_bytes area t))) r → Finds (checkpoints_in (reads t)) r
finds_standing t area g r standing found =
    let expected : checkpoints_in (reads t) ≡ checkpoints_at area g (read_area (area_bytes area t)) =
    ap (checkpoints_of (reads t)) standing ∙ ap (λ (f : List ℕ). checkpoints_at area g (read_area f)) (reads-bytes t area) in
    subst (λ (x : Result Checkpoints (Area × ℕ)). Finds x r) (sym expected) found
