-- What a survey finds, from what its reads gave.
use Rattle.std.proofs.Common.{◌≡◌, ℕ, inr, cond, List, length, take, Option, Some, Result, Ok, Err, refl, ap, sym, ◌∙◌, subst, arith, None, IsErrAnd}
use Rattle.std.proofs.lemmas.Bool.{le-leb}
use Rattle.std.proofs.lemmas.List.{take-take}
use Rattle.disk_model.specs.declared.area.Area.{Area}
use Rattle.disk_model.specs.Areas.{bytes_of}
use Rattle.disk_model.specs.Calls.{Told, area_bytes, reads}
use Rattle.disk_model.specs.Causes.{GivesBytes}
use Rattle.disk_model.specs.declared.area.Refused.{Refused}
use Rattle.disk_model.specs.declared.area.Refused.TheVariants.{Failed, Memory}
use Rattle.disk_model.specs.declared.disk.Disk.{Ghosts}
use Rattle.disk_model.specs.Running.{Op, Passed, refused_ending}
use Rattle.disk_model.specs.Went.{WentBy}
use Rattle.disk_model.proofs.Went.{went_ends}
use Rattle.gate_area.specs.Operations.{survey_ops, survey_ending, spoilt_ending}
use Rattle.disk_model.proofs.Reading.{reads-bytes}
use Rattle.gate_area.specs.declared.looking.Look.{Look}
use Rattle.gate_area.specs.declared.pair.Head.{Head}
use Rattle.gate_area.specs.declared.pair.Head.TheVariants.{Closed}
use Rattle.gate_area.specs.declared.pair.Pair.{Pair}
use Rattle.gate_area.specs.declared.pair.Standing.{Standing}
use Rattle.gate_area.specs.declared.pair.SurveyFault.{SurveyFault}
use Rattle.gate_area.specs.Standing.{first_of, second_of, fault_of, head_in, head_of, judged, answer_at, answer_of, Answers, IsLook}

-- 17 bytes were read
pub seen : (pair : Pair) (file into : List ℕ) (n size : ℕ) (head : Head) → GivesBytes file 0 n into → n ≡ 17 → size ≡ length file → head ≡ head_in pair (take 16 into)
    → IsLook pair file (record { len = size; head = head })
seen pair file into n size head gives all long is =
    let whole : take 17 into ≡ take 17 file = subst (λ k. take k into ≡ take k file) all gives.bytes in
    let front : take 16 into ≡ take 16 file = sym (take-take 16 17 into (omega arith)) ∙ ap (take 16) whole ∙ take-take 16 17 file (omega arith) in
    record {
      len = long;
      head = is ∙ ap (head_in pair) front ∙ sym (ap (λ b. cond b (head_in pair (take 16 file)) Closed) (le-leb 17 (length file) (omega (arith, gives.count))));
    }

answers_itself : (expected : Result Standing SurveyFault) → Answers expected expected
answers_itself (Ok s) = refl
answers_itself (Err fault) = inr (inr refl)

pub surveyed : (pair : Pair) (t : Told) (a b : Area) (x y : Look) (result : Result Standing SurveyFault)
    → a ≡ first_of pair → b ≡ second_of pair → IsLook pair (area_bytes a t) x → IsLook pair (area_bytes b t) y
    → result ≡ answer_at pair x.len y.len (judged pair x.len y.len x.head y.head)
    → Answers (answer_of pair (reads t)) result
surveyed pair t a b x y result ea eb lx ly is =
    let f = bytes_of (first_of pair) (reads t) in
    let s = bytes_of (second_of pair) (reads t) in
    let ef : area_bytes a t ≡ f = ap (λ z. area_bytes z t) ea ∙ sym (reads-bytes t (first_of pair)) in
    let es : area_bytes b t ≡ s = ap (λ z. area_bytes z t) eb ∙ sym (reads-bytes t (second_of pair)) in
    let e : result ≡ answer_of pair (reads t) =
    is
    ∙ ap (λ n. answer_at pair n y.len (judged pair n y.len x.head y.head)) (lx.len ∙ ap length ef)
    ∙ ap (λ m. answer_at pair (length f) m (judged pair (length f) m x.head y.head)) (ly.len ∙ ap length es)
    ∙ ap (λ h. answer_at pair (length f) (length s) (judged pair (length f) (length s) h y.head)) (lx.head ∙ ap (head_of pair) ef)
    ∙ ap (λ h. answer_at pair (length f) (length s) (judged pair (length f) (length s) (head_of pair f) h)) (ly.head ∙ ap (head_of pair) es) in
    subst (Answers (answer_of pair (reads t))) (sym e) (answers_itself (answer_of pair (reads t)))

refused_fault : (refused : Refused) → refused_ending refused ≡ spoilt_ending (fault_of refused)
refused_fault Failed = refl
refused_fault Memory = refl

-- an operation of a survey was refused
pub survey_refused : {D : Type 0} {disk : Ghosts D} {ops : Told → List Op} {old now : D} (refused : Refused) (r : Result Standing SurveyFault) → IsErrAnd r (λ e. e ≡ fault_of refused)
    → WentBy disk ops old now (refused_ending refused) → WentBy disk ops old now (survey_ending r)
survey_refused refused (Ok x) is went = absurd is
survey_refused refused (Err e) is went = went_ends (refused_fault refused ∙ sym (ap spoilt_ending is)) went

answer_passes : (pair : Pair) (n m : ℕ) (j : Result (Option (Area × ℕ)) (Area × ℕ)) → survey_ending (answer_at pair n m j) ≡ Passed
answer_passes pair n m (Ok None) = refl
answer_passes pair n m (Ok (Some (area, generation))) = refl
answer_passes pair n m (Err (area, at)) = refl

-- all have passed where the areas were judged
pub judged_went : {D : Type 0} {disk : Ghosts D} {old now : D} (pair : Pair) (n m : ℕ) (j : Result (Option (Area × ℕ)) (Area × ℕ)) (r : Result Standing SurveyFault) → r ≡ answer_at pair n m j
    → WentBy disk (λ t. survey_ops) old now Passed → WentBy disk (λ t. survey_ops) old now (survey_ending r)
judged_went pair n m j r is went = went_ends (sym (ap survey_ending is ∙ answer_passes pair n m j)) went
