-- How each call on a log goes by its operations.
use Rattle.std.proofs.Common.{◌≡◌, ◌⊎◌, ℕ, ◌+◌, ◌-◌, ◌<◌, ◌≤◌, inl, inr, if◌then◌else◌, List, [], ◌∷◌, ◌++◌, length, map, None, Some, Result, Ok, Err, IsErrAnd, refl, ap, sym, ◌∙◌, subst}
use Rattle.std.proofs.lemmas.Bool.{lt-ltb, le-ltb}
use Rattle.disk_model.specs.declared.area.Area.{Area}
use Rattle.disk_model.specs.declared.area.Area.TheVariants.{Journal0}
use Rattle.disk_model.specs.declared.area.Refused.{Refused}
use Rattle.disk_model.specs.declared.area.Refused.TheVariants.{Failed, Memory as Wanting}
use Rattle.disk_model.specs.declared.call.Call.TheVariants.{Sync}
use Rattle.disk_model.specs.Calls.{Told, Tells, and_then, on, reads}
use Rattle.disk_model.specs.declared.disk.Disk.{Ghosts}
use Rattle.disk_model.specs.Running.{Op, Asks, Does, Ending, Passed, Wanted, refused_ending}
use Rattle.disk_model.specs.Sim.{Sim}
use Rattle.disk_model.proofs.Reading.{area_bytes-and_then, reads_synced}
use Rattle.disk_model.specs.Went.{WentBy}
use Rattle.disk_model.proofs.Went.{and_none, went_none, went_on, went_part, went_as, went_ends, went_wants}
use Rattle.gate_area.specs.declared.pair.Pair.TheVariants.{Journal}
use Rattle.gate_area.specs.declared.pair.SurveyFault.{SurveyFault}
use Rattle.gate_area.specs.declared.pair.SurveyFault.TheVariants.{Disk as NoDisk, Damaged as Spoilt, Memory as NoMemory}
use Rattle.gate_area.specs.Gate.{retire_steps}
use Rattle.gate_area.specs.Operations.{survey_ops, spoilt_ending, gate_ops, renew_ops, readings}
use Rattle.gate_area.specs.Standing.{Answers, answer_at, answer_of, other_of, stands}
use Rattle.gate_log.specs.declared.fault.LogFault.{LogFault}
use Rattle.gate_log.specs.declared.fault.LogFault.TheVariants.{Memory}
use Rattle.gate_log.specs.Journal.{Log}
use Rattle.gate_log.specs.Moments.{refused_as, surveyed_as}
use Rattle.gate_log.specs.Operations.{fault_ending, log_ending, append_ops, compact_ops, standing_ops, find_ops, open_ops}
use Rattle.gate_log.specs.Records.{area_body, behind_gate}
use Rattle.gate_log.specs.Walking.{Walks}
use Rattle.gate_log.proofs.Moves.{Judgement}

-- ---- how a call has ended

refused_fault : (refused : Refused) → refused_ending refused ≡ fault_ending (refused_as refused)
refused_fault Failed = refl
refused_fault Wanting = refl

-- the disk was refused something
pub refused_went : {D T : Type 0} {disk : Ghosts D} {ops : Told → List Op} {old now : D} (refused : Refused) (r : Result T LogFault) → IsErrAnd r (λ e. e ≡ refused_as refused)
    → WentBy disk ops old now (refused_ending refused) → WentBy disk ops old now (log_ending r)
refused_went refused (Ok x) is went = absurd is
refused_went refused (Err e) is went = went_ends (refused_fault refused ∙ sym (ap fault_ending is)) went

-- memory was wanting
pub wanted_went : {D T : Type 0} {disk : Ghosts D} {ops : Told → List Op} {old now : D} (r : Result T LogFault) → IsErrAnd r (λ e. e ≡ Memory) → WentBy disk ops old now Wanted → WentBy disk ops old now (log_ending r)
wanted_went (Ok x) is went = absurd is
wanted_went (Err e) is went = went_ends (sym (ap fault_ending is)) went

-- ---- an append

append_none : (log : Log) (r : List ℕ) → log.limit < log.end + (5 + length r) → append_ops log r ≡ []
append_none log r over = ap (λ b. if b then [] else gate_ops log.area (log.end - 1) (behind_gate r)) (lt-ltb log.limit (log.end + (5 + length r)) over)

append_some : (log : Log) (r : List ℕ) → log.end + (5 + length r) ≤ log.limit → append_ops log r ≡ gate_ops log.area (log.end - 1) (behind_gate r)
append_some log r fits = ap (λ b. if b then [] else gate_ops log.area (log.end - 1) (behind_gate r)) (le-ltb log.limit (log.end + (5 + length r)) fits)

-- there was no room
-- there is no room
pub append_idle : {D : Type 0} (disk : Ghosts D) (old : D) (log : Log) (r : List ℕ) → log.limit < log.end + (5 + length r) → WentBy disk (λ t. append_ops log r) old old Passed
append_idle disk old log r over = subst (λ ops. WentBy disk (λ t. ops) old old Passed) (sym (append_none log r over)) (went_none disk old)

-- what is written is behind the log's own gate
pub gate_is : (log inside : Log) (written r : List ℕ) → inside ≡ log → written ≡ behind_gate r → gate_ops inside.area (inside.end - 1) written ≡ gate_ops log.area (log.end - 1) (behind_gate r)
gate_is log inside written r view body = ap (λ (l : Log). gate_ops l.area (l.end - 1) written) view ∙ ap (gate_ops log.area (log.end - 1)) body

pub gate_went : {D : Type 0} {disk : Ghosts D} {old now : D} {e : Ending} (log inside : Log) (written r : List ℕ) → inside ≡ log → written ≡ behind_gate r
    → WentBy disk (λ t. gate_ops inside.area (inside.end - 1) written) old now e → WentBy disk (λ t. gate_ops log.area (log.end - 1) (behind_gate r)) old now e
gate_went {disk = disk} {old = old} {now = now} {e = e} log inside written r view body went = subst (λ ops. WentBy disk (λ t. ops) old now e) (gate_is log inside written r view body) went

pub append_went : {D : Type 0} {disk : Ghosts D} {old now : D} {e : Ending} (log inside : Log) (written r : List ℕ) → inside ≡ log → written ≡ behind_gate r → log.end + (5 + length r) ≤ log.limit
    → WentBy disk (λ t. gate_ops inside.area (inside.end - 1) written) old now e → WentBy disk (λ t. append_ops log r) old now e
append_went {disk = disk} {old = old} {now = now} {e = e} log inside written r view body fits went =
    subst (λ ops. WentBy disk (λ t. ops) old now e) (gate_is log inside written r view body ∙ sym (append_some log r fits)) went

-- ---- a compaction

compact_none : (log : Log) (r : List ℕ) (t : Told) → log.limit < 22 + length r → compact_ops log r t ≡ []
compact_none log r t over = ap (λ b. if b then [] else renew_ops (other_of log.area) (area_body (log.generation + 1) (r ∷ [])) t) (lt-ltb log.limit (22 + length r) over)

compact_some : (log : Log) (r : List ℕ) (t : Told) → 22 + length r ≤ log.limit → compact_ops log r t ≡ renew_ops (other_of log.area) (area_body (log.generation + 1) (r ∷ [])) t
compact_some log r t fits = ap (λ b. if b then [] else renew_ops (other_of log.area) (area_body (log.generation + 1) (r ∷ [])) t) (le-ltb log.limit (22 + length r) fits)

-- there is no room
pub compact_idle : {D : Type 0} (disk : Ghosts D) (old : D) (log : Log) (r : List ℕ) → ((d : D) (s : Sim) → disk.memory d ≡ Some s → Tells (disk.told d) (disk.honest d) s.told) → log.limit < 22 + length r
    → WentBy disk (compact_ops log r) old old Passed
compact_idle disk old log r tells over = went_as (compact_ops log r) tells (λ t told. sym (compact_none log r t over)) (went_none disk old)

-- the other area is renewed with the record alone
pub renew_went : {D : Type 0} {disk : Ghosts D} {old now : D} {e : Ending} (log : Log) (r bytes : List ℕ) (area : Area) → area ≡ other_of log.area → bytes ≡ area_body (log.generation + 1) (r ∷ [])
    → WentBy disk (renew_ops area bytes) old now e → WentBy disk (renew_ops (other_of log.area) (area_body (log.generation + 1) (r ∷ []))) old now e
renew_went {disk = disk} {old = old} {now = now} {e = e} log r bytes area where_is what_is went =
    subst (λ b. WentBy disk (renew_ops (other_of log.area) b) old now e) what_is (subst (λ a. WentBy disk (renew_ops a bytes) old now e) where_is went)

pub compact_went : {D : Type 0} {disk : Ghosts D} {old now : D} {e : Ending} (log : Log) (r bytes : List ℕ) (area : Area) → ((d : D) (s : Sim) → disk.memory d ≡ Some s → Tells (disk.told d) (disk.honest d) s.told)
    → area ≡ other_of log.area → bytes ≡ area_body (log.generation + 1) (r ∷ []) → 22 + length r ≤ log.limit
    → WentBy disk (renew_ops area bytes) old now e → WentBy disk (compact_ops log r) old now e
compact_went log r bytes area tells where_is what_is fits went = went_as (compact_ops log r) tells (λ t told. sym (compact_some log r t fits)) (renew_went log r bytes area where_is what_is went)

-- ---- an opening

-- a journal without records was begun
pub begin_went : {D : Type 0} {disk : Ghosts D} {old now : D} {e : Ending} (bytes : List ℕ) → bytes ≡ area_body 1 [] → WentBy disk (renew_ops Journal0 bytes) old now e
    → WentBy disk (renew_ops Journal0 (area_body 1 [])) old now e
begin_went {disk = disk} {old = old} {now = now} {e = e} bytes is went = subst (λ b. WentBy disk (renew_ops Journal0 b) old now e) is went

walk_ends : (area : Area) (all : Result (List (List ℕ)) ℕ) (fault : LogFault) → Walks area all (Err fault) → (fault ≡ Memory) ⊎ (fault_ending fault ≡ Passed)
walk_ends area (Ok records) fault is = inl is
walk_ends area (Err at) fault (inl is) = inr (ap fault_ending is)
walk_ends area (Err at) fault (inr is) = inl is

-- an area that stands was read, and its bytes spell no records
pub walk_went : {D T : Type 0} {disk : Ghosts D} {ops : Told → List Op} {old now : D} (area : Area) (all : Result (List (List ℕ)) ℕ) (fault : LogFault) (r : Result T LogFault) → Walks area all (Err fault) → IsErrAnd r (λ e. e ≡ fault)
    → WentBy disk ops old now Passed → WentBy disk ops old now (log_ending r)
walk_went area all fault (Ok x) walks is went = absurd is
walk_went {disk = disk} {ops = ops} {old = old} {now = now} area all fault (Err e) walks is went = by (walk_ends area all fault walks)
  where
    by : (fault ≡ Memory) ⊎ (fault_ending fault ≡ Passed) → WentBy disk ops old now (fault_ending e)
    by (inl memory) = went_ends (sym (ap fault_ending (is ∙ memory))) (went_wants went)
    by (inr passed) = went_ends (sym (ap fault_ending is ∙ passed)) went

spoilt_answer : (n m : ℕ) (j : Judgement) (area : Area) (at : ℕ) → answer_at Journal n m j ≡ Err (Spoilt area at) → j ≡ Err (area, at)
spoilt_answer n m (Ok None) area at is = absurd cc
spoilt_answer n m (Ok (Some (b, g))) area at is = absurd cc
spoilt_answer n m (Err (b, k)) area at is = cc

find_as : (j : Judgement) (t : Told) → stands Journal (reads t) ≡ j → survey_ops ++ standing_ops j (and_then t []) ≡ find_ops t
find_as j t stood = ap (λ u. survey_ops ++ standing_ops j u) (and_none t) ∙ ap (λ x. survey_ops ++ standing_ops x t) (sym stood)

-- a survey has passed, and what follows is by what it found
pub found_went : {D : Type 0} {disk : Ghosts D} {old mid now : D} {e : Ending} (j : Judgement) → ((d : D) (s : Sim) → disk.memory d ≡ Some s → Tells (disk.told d) (disk.honest d) s.told)
    → ((t : Told) → Tells (disk.told old) (disk.honest old) t → stands Journal (reads t) ≡ j) → WentBy disk (λ t. survey_ops) old mid Passed → WentBy disk (standing_ops j) mid now e
    → WentBy disk find_ops old now e
found_went j tells stood first second = went_as find_ops tells (λ t told. find_as j t (stood t told)) (went_on first second)

-- a survey was refused, or has found a damaged place
pub survey_went : {D T : Type 0} {disk : Ghosts D} {old now : D} (fault : SurveyFault) (r : Result T LogFault) → ((d : D) (s : Sim) → disk.memory d ≡ Some s → Tells (disk.told d) (disk.honest d) s.told)
    → ((t : Told) → Tells (disk.told old) (disk.honest old) t → Answers (answer_of Journal (reads t)) (Err fault)) → IsErrAnd r (λ e. e ≡ surveyed_as fault)
    → WentBy disk (λ t. survey_ops) old now (spoilt_ending fault) → WentBy disk find_ops old now (log_ending r)
survey_went fault (Ok x) tells answers is went = absurd is
survey_went NoDisk (Err e) tells answers is went = went_ends (sym (ap fault_ending is)) (went_part (λ t. standing_ops (stands Journal (reads t)) t) (λ no. absurd cc) went)
survey_went {disk = disk} {now = now} (Spoilt area at) (Err e) tells answers is went =
    went_ends (sym (ap fault_ending is)) (found_went (Err (area, at)) tells (λ t told. spoilt t (answers t told)) went (went_none disk now))
  where
    spoilt : (t : Told) → Answers (answer_of Journal (reads t)) (Err (Spoilt area at)) → stands Journal (reads t) ≡ Err (area, at)
    spoilt t (inl disk) = absurd (let e : Spoilt area at ≡ NoDisk = disk in cc)
    spoilt t (inr (inl memory)) = absurd (let e : Spoilt area at ≡ NoMemory = memory in cc)
    spoilt t (inr (inr answer)) = spoilt_answer (length (reads t).journal0) (length (reads t).journal1) (stands Journal (reads t)) area at answer
survey_went NoMemory (Err e) tells answers is went = went_ends (sym (ap fault_ending is)) (went_part (λ t. standing_ops (stands Journal (reads t)) t) (λ no. absurd cc) went)

standing_synced : (j : Judgement) (t : Told) → standing_ops j (and_then t (Sync ∷ [])) ≡ standing_ops j t
standing_synced (Ok None) t =
    ap (λ (f : List ℕ). (Asks ∷ map Does (on Journal0 (retire_steps (length f)))) ++ gate_ops Journal0 0 (area_body 1 [])) (area_bytes-and_then Journal0 t (Sync ∷ []))
standing_synced (Ok (Some (area, generation))) t = ap readings (area_bytes-and_then area t (Sync ∷ []))
standing_synced (Err spot) t = refl

find_synced : (t : Told) → find_ops (and_then t (Sync ∷ [])) ≡ find_ops t
find_synced t =
    ap (λ areas. survey_ops ++ standing_ops (stands Journal areas) (and_then t (Sync ∷ []))) (reads_synced t)
    ∙ ap (λ ops. survey_ops ++ ops) (standing_synced (stands Journal (reads t)) t)

-- a sync has passed, and then the log was found
pub synced_went : {D : Type 0} {disk : Ghosts D} {old mid now : D} {e : Ending} → ((d : D) (s : Sim) → disk.memory d ≡ Some s → Tells (disk.told d) (disk.honest d) s.told)
    → WentBy disk (λ t. Does Sync ∷ []) old mid Passed → WentBy disk find_ops mid now e → WentBy disk open_ops old now e
synced_went tells sync find = went_as open_ops tells (λ t told. ap (λ ops. Does Sync ∷ ops) (find_synced t)) (went_on sync find)
