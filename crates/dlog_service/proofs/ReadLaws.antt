-- What is read keeps to its limits.
use Rattle.std.proofs.Common.{arith, ◌≡◌, ℕ, zero, suc, ◌+◌, ◌≤◌, ◌<◌, nat_lt, List, [], ◌∷◌, ◌++◌, length, take, drop, get_or, Result, Ok, Err, refl, sym, ◌∙◌, ap, subst, IsTrue, append_assoc}
use Rattle.std.specs.Prelude.{IfOk}
use Rattle.std.specs.List.{AllByRecursion}
use Rattle.std.specs.Int.{w16}
use Rattle.std.proofs.lemmas.Bool.{ltb-false}
use Rattle.std.proofs.lemmas.List.{length-take}
use Rattle.mrp_types.specs.Reading.{◌>>=◌}
use Rattle.mrp_types.specs.declared.id.LogId.{LogId}
use Rattle.command_codec.specs.declared.fault.CodecFault.{CodecFault}
use Rattle.command_codec.specs.Reader.{Spot, Reads, bytes_at, number_at, length_at, string_at}
use Rattle.command_codec.proofs.ReaderLaws.{bound, ok_is, else_was}
use Rattle.command_codec.proofs.Loops.{before}
use Rattle.plain_model.specs.Replicas.{LogState}
use Rattle.plain_model.proofs.FoldLogs.{same_id}
use Rattle.std.proofs.Math.Seq.{drop-cons}
use Rattle.command_codec.specs.Valid.{rises_from}
use Rattle.services.specs.Parts.{ids_of}
use Rattle.plain_model.specs.StateBytes.{this_log_at, these_logs_at}
use Rattle.state_laws.specs.States.{IsShort, IsLog, AreLogsOf}
use Rattle.dlog_service.specs.Logs.{AreLogs}

counted : (count : ℕ) (spot : Spot) (x : List ℕ × Spot) → bytes_at count spot ≡ Ok x → length x.0 ≤ count
unfolding bytes_at
counted count spot x h =
    let r = else_was (nat_lt (length spot.rest) count) _ _ x h in
    let is = ok_is (take count spot.rest, record { at = spot.at + count; rest = drop count spot.rest }) x r.1 in
    omega (arith, ap (λ (y : List ℕ × Spot). length y.0) is, length-take count spot.rest)

at_most : (least most : ℕ) (spot : Spot) (x : ℕ × Spot) → length_at least most spot ≡ Ok x → x.0 ≤ most
unfolding length_at
at_most least most spot x h =
    let a = bound (number_at w16 spot) _ x h in
    let b = else_was (nat_lt a.0.0 least) _ _ x a.2 in
    let c = else_was (nat_lt most a.0.0) _ _ x b.1 in
    let is = ok_is a.0 x c.1 in
    omega (arith, ap (λ (y : ℕ × Spot). y.0) is, ltb-false most a.0.0 c.0)

string_most : (least most : ℕ) (spot : Spot) (x : List ℕ × Spot) → string_at least most spot ≡ Ok x → length x.0 ≤ most
unfolding string_at
string_most least most spot x h =
    let a = bound (length_at least most spot) _ x h in
    omega (arith, at_most least most spot a.0 a.1, counted a.0.0 a.0.1 x a.2)

pub read_short : (least most : ℕ) (spot left : Spot) (r : Result (List ℕ) CodecFault) → Reads (λ v. v) (string_at least most spot) r left → IfOk r (λ v. length v ≤ most)
read_short least most spot left (Ok v) h = string_most least most spot (v, left) h
read_short least most spot left (Err e) h = tt

pub all_more : (values : List (List ℕ)) (value : List ℕ) → AllByRecursion IsShort values → IsShort value → AllByRecursion IsShort (values ++ value ∷ [])
all_more [] value each is = (is, tt)
all_more (v ∷ values) value each is = (each.0, all_more values value each.1 is)

-- ---- logs

-- the first so many of the logs
abbrev pub AreFirst : ℕ → List LogId → List LogState → Type 0
AreFirst n ids logs = AreLogsOf (take n ids) logs

first_more : (ids : List LogId) (logs : List LogState) (id : LogId) (log : LogState) → AreLogsOf ids logs → log.id.0 ≡ id.0 → IsLog log → AreLogsOf (ids ++ id ∷ []) (logs ++ log ∷ [])
first_more [] [] id log are same is = (same, is, tt)
first_more [] (l ∷ logs) id log are same is = absurd are
first_more (i ∷ ids) [] id log are same is = absurd are
first_more (i ∷ ids) (l ∷ logs) id log are same is = (are.0, are.1, first_more ids logs id log are.2 same is)

-- ---- log after log

take_next : (ids : List LogId) (i : ℕ) (d : LogId) → i < length ids → take (suc i) ids ≡ take i ids ++ get_or ids i d ∷ []
take_next [] i d within = absurd (omega arith)
take_next (id ∷ ids) zero d within = refl
take_next (id ∷ ids) (suc i) d within = ap (λ (l : List LogId). id ∷ l) (take_next ids i d (omega arith))

pub next_first : (ids : List LogId) (i : ℕ) (logs now : List LogState) (d : LogId) (log : LogState) → i < length ids → AreFirst i ids logs → log.id.0 ≡ (get_or ids i d).0 → IsLog log → now ≡ logs ++ log ∷ [] →
    AreFirst (i + 1) ids now
next_first ids i logs now d log within are same is grown =
    let more : i + 1 ≡ suc i = omega arith in
    rw (more, grown, take_next ids i d within) (first_more (take i ids) logs (get_or ids i d) log are same is)

regrouped : (front : List LogState) (log : LogState) (read : Result (List LogState × Spot) CodecFault) → before front (read >>= λ x. Ok (log ∷ x.0, x.1)) ≡ before (front ++ log ∷ []) read
regrouped front log (Ok x) = ap (λ (logs : List LogState). Ok (logs, x.1)) (sym (append_assoc front (log ∷ []) x.0))
regrouped front log (Err e) = refl

pub next_read : (ids : List LogId) (i : ℕ) (front now : List LogState) (d : LogId) (log : LogState) (spot behind : Spot) (total : Result (List LogState × Spot) CodecFault) → i < length ids →
    this_log_at (get_or ids i d) spot ≡ Ok (log, behind) → now ≡ front ++ log ∷ [] → before front (these_logs_at (drop i ids) spot) ≡ total → before now (these_logs_at (drop (i + 1) ids) behind) ≡ total
next_read ids i front now d log spot behind total within h grown so_far =
    let more : i + 1 ≡ suc i = omega arith in
    let parts : drop i ids ≡ get_or ids i d ∷ drop (suc i) ids = drop-cons ids i d within in
    let one : these_logs_at (drop i ids) spot ≡ (these_logs_at (drop (suc i) ids) behind >>= λ x. Ok (log ∷ x.0, x.1)) = rw (parts, h) refl in
    rw (more, grown) (sym (regrouped front log (these_logs_at (drop (suc i) ids) behind)) ∙ (sym (ap (λ (r : Result (List LogState × Spot) CodecFault). before front r) one) ∙ so_far))

-- ---- all of them

same_numbers : (ids : List LogId) (logs : List LogState) → AreLogsOf ids logs → ids_of logs ≡ ids
same_numbers [] [] are = refl
same_numbers [] (log ∷ logs) are = absurd are
same_numbers (id ∷ ids) [] are = absurd are
same_numbers (id ∷ ids) (log ∷ logs) are =
    ap (λ (i : LogId). i ∷ ids_of logs) (same_id log.id id are.0) ∙ ap (λ (l : List LogId). id ∷ l) (same_numbers ids logs are.2)

pub read_are : (ids : List LogId) (logs : List LogState) → IsTrue (rises_from 0 ids) → AreLogsOf ids logs → AreLogs logs
read_are ids logs rising are =
    let same : ids_of logs ≡ ids = same_numbers ids logs are in
    record { rising = subst (λ (l : List LogId). IsTrue (rises_from 0 l)) (sym same) rising; each = subst (λ (l : List LogId). AreLogsOf l logs) (sym same) are }

pub short_more : (values now : List (List ℕ)) (value : List ℕ) → AllByRecursion IsShort values → IsShort value → now ≡ values ++ value ∷ [] → AllByRecursion IsShort now
short_more values now value each is grown = subst (λ (l : List (List ℕ)). AllByRecursion IsShort l) (sym grown) (all_more values value each is)
