-- What an opening answers.
use Rattle.std.proofs.Common.{◌≡◌, ℕ, inl, inr, List, [], Vec, None, Some, Result, Ok, Err, IsErrAnd, IsErrOf, IfOk, OnOk, MatchResult, length, refl, ap, sym, ◌∙◌, subst}
use Rattle.std.specs.declared.alloc.Global.{Global}
use Rattle.disk_model.specs.declared.area.Area.{Area}
use Rattle.disk_model.specs.declared.area.Area.TheVariants.{Journal0}
use Rattle.disk_model.specs.declared.area.Refused.{Refused}
use Rattle.disk_model.specs.declared.area.Refused.TheVariants.{Failed, Memory as Wanting}
use Rattle.disk_model.specs.declared.areas.Areas.{Areas}
use Rattle.disk_model.specs.Areas.{bytes_of}
use Rattle.disk_model.specs.Running.{Passed}
use Rattle.gate_area.specs.declared.pair.Pair.TheVariants.{Journal}
use Rattle.gate_area.specs.declared.pair.Standing.TheVariants.{None as Fresh, At}
use Rattle.gate_area.specs.declared.pair.SurveyFault.{SurveyFault}
use Rattle.gate_area.specs.declared.pair.SurveyFault.TheVariants.{Damaged as Spoilt}
use Rattle.gate_area.specs.Standing.{answer_at, answer_of, Answers, stands}
use Rattle.gate_log.specs.declared.fault.LogFault.{LogFault}
use Rattle.gate_log.specs.declared.fault.LogFault.TheVariants.{Disk, Full, Memory}
use Rattle.gate_log.specs.Journal.{Log, Holds, IsFound, log_of, records_of, records_in}
use Rattle.gate_log.specs.Moments.{IsWant, Finds, refused_as, surveyed_as}
use Rattle.gate_log.specs.Operations.{log_ending}
use Rattle.gate_log.specs.Records.{StandsFor}
use Rattle.gate_log.proofs.Moves.{Judgement}

abbrev pub Found : Type 0
Found = Result (List (List ℕ)) (Area × ℕ)

-- an error that came from another
pub errs : {T : Type 0} (r : Result T LogFault) (P Q : LogFault → Type 0) → IsErrAnd r P → ((e : LogFault) → P e → Q e) → MatchResult r (λ x. ⊥) Q
errs (Ok x) P Q each f = absurd each
errs (Err e) P Q each f = f e each

pub finds_want : {T : Type 0} (listed : T → List (List ℕ)) (expected : Found) (r : Result T LogFault) → MatchResult r (λ x. ⊥) IsWant → Finds listed expected r
finds_want listed expected (Ok x) want = absurd want
finds_want listed (Ok records) (Err e) want = want
finds_want listed (Err (area, at)) (Err e) want = inr want

abbrev failed : {T : Type 0} → LogFault → Result T LogFault
failed e = Err e

pub never_full : {T : Type 0} (r : Result T LogFault) (len : ℕ) → MatchResult r (λ x. ⊥) IsWant → IsErrOf r (Full len) → ⊥
never_full (Ok x) len want is = absurd want
never_full (Err e) len (inl disk) is = let no : failed Disk ≡ failed (Full len) = sym (ap failed disk) ∙ is in cc
never_full (Err e) len (inr memory) is = let no : failed Memory ≡ failed (Full len) = sym (ap failed memory) ∙ is in cc

answer_fault : {T : Type 0} (listed : T → List (List ℕ)) (areas : Areas) (n m : ℕ) (j : Judgement) (f : SurveyFault) (e : LogFault) → answer_at Journal n m j ≡ Err f → e ≡ surveyed_as f
    → Finds listed (records_of areas j) (Err e)
answer_fault listed areas n m (Ok None) f e is same = absurd cc
answer_fault listed areas n m (Ok (Some (area, g))) f e is same = absurd cc
answer_fault listed areas n m (Err (area, at)) f e is same =
    let spoilt : Spoilt area at ≡ f = cc in
    inl (same ∙ ap surveyed_as (sym spoilt))

-- a survey that was refused, or that found a damaged place
pub finds_fault : {T : Type 0} (listed : T → List (List ℕ)) (areas : Areas) (f : SurveyFault) (r : Result T LogFault) → Answers (answer_of Journal areas) (Err f)
    → MatchResult r (λ x. ⊥) (λ e. e ≡ surveyed_as f) → Finds listed (records_in areas) r
finds_fault listed areas f (Ok x) answer same = absurd same
finds_fault listed areas f (Err e) (inl disk) same = finds_want listed (records_in areas) (Err e) (inl (same ∙ ap surveyed_as disk))
finds_fault listed areas f (Err e) (inr (inl memory)) same = finds_want listed (records_in areas) (Err e) (inr (same ∙ ap surveyed_as memory))
finds_fault listed areas f (Err e) (inr (inr is)) same =
    answer_fault listed areas (length areas.journal0) (length areas.journal1) (stands Journal areas) f e is same

fresh_answer : (n m : ℕ) (j : Judgement) → answer_at Journal n m j ≡ Ok Fresh → j ≡ Ok None
fresh_answer n m (Ok None) is = refl
fresh_answer n m (Ok (Some (area, g))) is = absurd cc
fresh_answer n m (Err (area, at)) is = absurd cc

-- a survey that found a fresh pair
pub fresh_stands : (areas : Areas) → answer_of Journal areas ≡ Ok Fresh → stands Journal areas ≡ Ok None
fresh_stands areas is = fresh_answer (length areas.journal0) (length areas.journal1) (stands Journal areas) is

standing_answer : (n m : ℕ) (j : Judgement) (area : Area) (g len : ℕ) → answer_at Journal n m j ≡ Ok (At area g len) → j ≡ Ok (Some (area, g))
standing_answer n m (Ok None) area g len is = absurd cc
standing_answer n m (Ok (Some (b, h))) area g len is = cc
standing_answer n m (Err (b, at)) area g len is = absurd cc

-- a survey that found an area that stands
pub area_stands : (areas : Areas) (area : Area) (g len : ℕ) → answer_of Journal areas ≡ Ok (At area g len) → stands Journal areas ≡ Ok (Some (area, g))
area_stands areas area g len is = standing_answer (length areas.journal0) (length areas.journal1) (stands Journal areas) area g len is

-- a fresh pair was begun
pub finds_fresh : {T : Type 0} (listed : T → List (List ℕ)) (areas : Areas) (r : Result T LogFault) → stands Journal areas ≡ Ok None
    → MatchResult r (λ found. listed found ≡ []) IsWant → Finds listed (records_in areas) r
finds_fresh listed areas (Ok x) fresh answer = subst (λ expected. Finds listed expected (Ok x)) (sym (ap (records_of areas) fresh)) answer
finds_fresh listed areas (Err e) fresh answer = subst (λ expected. Finds listed expected (Err e)) (sym (ap (records_of areas) fresh)) answer

pub both : {T E : Type 0} (r : Result T E) (P : T → Type 0) (Q : E → Type 0) → IfOk r P → MatchResult r (λ x. Unit {0}) Q → MatchResult r P Q
both (Ok x) P Q here there = here
both (Err e) P Q here there = there

pub if_ok : {T E : Type 0} (r : Result T E) (P Q : T → Type 0) → IfOk r P → ((x : T) → P x → Q x) → IfOk r Q
if_ok (Ok x) P Q here each = each x here
if_ok (Err e) P Q here each = tt

pub if_both : {T E : Type 0} (r : Result T E) (P Q R : T → Type 0) → IfOk r P → IfOk r Q → ((x : T) → P x → Q x → R x) → IfOk r R
if_both (Ok x) P Q R here there each = each x here there
if_both (Err e) P Q R here there each = tt

pub on_ok : {T E : Type 0} {P Q : Type 0} (r : Result T E) → OnOk r P → (P → Q) → OnOk r Q
on_ok (Ok x) here f = f here
on_ok (Err e) here f = tt

pub always_ok : {T E : Type 0} {P : Type 0} (r : Result T E) → P → OnOk r P
always_ok (Ok x) p = p
always_ok (Err e) p = tt

-- what is well has passed
pub log_passed : {T : Type 0} (r : Result T LogFault) → OnOk r (log_ending r ≡ Passed)
log_passed (Ok x) = refl
log_passed (Err e) = tt

refused_want : (f : Refused) → IsWant (refused_as f)
refused_want Failed = inl refl
refused_want Wanting = inr refl

-- a sync was refused
pub finds_refused : {T : Type 0} (listed : T → List (List ℕ)) (expected : Found) (f : Refused) (r : Result T LogFault) → MatchResult r (λ x. ⊥) (λ e. e ≡ refused_as f) → Finds listed expected r
finds_refused listed expected f r same = finds_want listed expected r (wants r same)
  where
    wants : {T : Type 0} (r : Result T LogFault) → MatchResult r (λ x. ⊥) (λ e. e ≡ refused_as f) → MatchResult r (λ x. ⊥) IsWant
    wants (Ok x) same = absurd same
    wants (Err e) same = subst IsWant (sym same) (refused_want f)

abbrev pub Opened : Type 0
Opened = Log × Vec (List ℕ) Global

-- a log that was begun
pub holds_fresh : {H : Type 0} (r : Result Opened LogFault) (log : Log) (areas : Areas) → IfOk r (λ o. o.0 ≡ log) → IfOk r (λ o. o.1.items ≡ []) → OnOk r H → (H → Holds log [] areas)
    → IfOk r (λ o. Holds o.0 o.1.items areas)
holds_fresh (Ok o) log areas is none here holds =
    subst (λ l. Holds l o.1.items areas) (sym is) (subst (λ (rs : List (List ℕ)). Holds log rs areas) (sym none) (holds here))
holds_fresh (Err e) log areas is none here holds = tt

-- a log that stands
pub holds_standing : (r : Result Opened LogFault) (area : Area) (generation limit : ℕ) (areas : Areas) → IfOk r (λ o. o.0 ≡ log_of area generation limit o.1.items)
    → IfOk r (λ o. StandsFor o.1.items (bytes_of area areas)) → stands Journal areas ≡ Ok (Some (area, generation)) → IfOk r (λ o. Holds o.0 o.1.items areas)
holds_standing (Ok o) area generation limit areas is content standing =
    subst (λ l. Holds l o.1.items areas) (sym is) (record { standing = standing; content = content; end = refl; base_end = refl })
holds_standing (Err e) area generation limit areas is content standing = tt

-- the log that is begun is the one of a fresh pair
pub found_fresh : (r : Result Opened LogFault) (limit : ℕ) (areas : Areas) → IfOk r (λ o. o.0 ≡ log_of Journal0 1 limit []) → IfOk r (λ o. o.1.items ≡ []) → stands Journal areas ≡ Ok None
    → IfOk r (λ o. IsFound limit o.1.items (stands Journal areas) o.0)
found_fresh (Ok o) limit areas is none fresh =
    subst (λ (j : Judgement). IsFound limit o.1.items j o.0) (sym fresh) (is ∙ ap (λ (rs : List (List ℕ)). log_of Journal0 1 limit rs) (sym none))
found_fresh (Err e) limit areas is none fresh = tt

-- the log of an area that stands is its own
pub found_standing : (r : Result Opened LogFault) (area : Area) (generation limit : ℕ) (areas : Areas) → IfOk r (λ o. o.0 ≡ log_of area generation limit o.1.items) → stands Journal areas ≡ Ok (Some (area, generation))
    → IfOk r (λ o. IsFound limit o.1.items (stands Journal areas) o.0)
found_standing (Ok o) area generation limit areas is standing = subst (λ (j : Judgement). IsFound limit o.1.items j o.0) (sym standing) is
found_standing (Err e) area generation limit areas is standing = tt
