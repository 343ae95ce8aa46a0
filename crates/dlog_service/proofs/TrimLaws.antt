-- One log is trimmed, the others stay.
use Rattle.std.proofs.Common.{arith, ◌≡◌, ℕ, zero, suc, ◌+◌, ◌-◌, ◌<◌, ◌≤◌, nat_lt, nat_le, Bool, true, false, if◌then◌else◌, List, [], ◌∷◌, length, drop, set, Some, inl, inr, refl, sym, ◌∙◌, ap, subst, IsTrue, true≢false, length-drop}
use Rattle.std.specs.Prelude.{◌⊎◌, ◌&&◌, ◌==◌, slice_get}
use Rattle.std.specs.List.{sum_by}
use Rattle.std.proofs.lemmas.Bool.Decides.{nat_tests}
use Rattle.std.proofs.lemmas.Bool.{leb-true}
use Rattle.std.proofs.lemmas.List.Sums.{sum_by-cons}
use Rattle.mrp_types.specs.declared.id.LogId.{LogId}
use Rattle.command_codec.specs.Valid.{rises_from}
use Rattle.plain_model.specs.Replicas.{LogState, log_length, log_size, log_at, with_log, trimmed_to}
use Rattle.plain_model.proofs.FoldLogs.{number_is}
use Rattle.state_laws.specs.States.{IsLog, AreLogsOf}
use Rattle.state_laws.proofs.Logs.{trimmed_short}
use Rattle.services.specs.Parts.{ids_of}
use Rattle.dlog_service.specs.Logs.{AreLogs, logs_size, values_size}

both_true : (t u : Bool) → (t && u) ≡ true → (t ≡ true) × (u ≡ true)
both_true true u is = (refl, is)
both_true false u is = absurd (true≢false (sym is))

-- the first is at least so, and the others come after it
pub parts_of_rise : (least : ℕ) (log : LogState) (logs : List LogState) → IsTrue (rises_from least (ids_of (log ∷ logs))) → (least ≤ log.id.0) × IsTrue (rises_from (log.id.0 + 1) (ids_of logs))
parts_of_rise least log logs rising =
    let first = both_true (nat_le least log.id.0) (nat_lt log.id.0 64 && rises_from (log.id.0 + 1) (ids_of logs)) rising in
    (leb-true _ _ first.0, (both_true (nat_lt log.id.0 64) (rises_from (log.id.0 + 1) (ids_of logs)) first.1).1)

-- a log of a lesser number replaces none of them
others_stay : (new : LogState) (least : ℕ) (logs : List LogState) → new.id.0 < least → IsTrue (rises_from least (ids_of logs)) → with_log new logs ≡ logs
others_stay new least [] less rising = refl
others_stay new least (log ∷ logs) less rising =
    let parts = parts_of_rise least log logs rising in
    let apart : (log.id.0 == new.id.0) ≡ false = let from = parts.0 in grind (arith, nat_tests) in
    ap (λ t. (if t then new else log) ∷ with_log new logs) apart
    ∙ ap (λ (xs : List LogState). log ∷ xs) (others_stay new (log.id.0 + 1) logs (let from = parts.0 in omega arith) parts.1)

-- what stands at a place has a number of at least so
there_from : (least : ℕ) (logs : List LogState) (i : ℕ) (log : LogState) → IsTrue (rises_from least (ids_of logs)) → slice_get logs i ≡ Some log → least ≤ log.id.0
there_from least [] i log rising at = cc
there_from least (l ∷ logs) zero log rising at = let same : l ≡ log = cc in subst (λ (x : LogState). least ≤ x.id.0) same (parts_of_rise least l logs rising).0
there_from least (l ∷ logs) (suc i) log rising at =
    let parts = parts_of_rise least l logs rising in
    let later : l.id.0 + 1 ≤ log.id.0 = there_from (l.id.0 + 1) logs i log parts.1 at in
    let from = parts.0 in omega arith

pub set_is_with : (new : LogState) (least : ℕ) (logs : List LogState) (i : ℕ) (log : LogState) → IsTrue (rises_from least (ids_of logs)) → slice_get logs i ≡ Some log → new.id.0 ≡ log.id.0 →
    set logs i new ≡ with_log new logs
set_is_with new least [] i log rising at same = cc
set_is_with new least (l ∷ logs) zero log rising at same =
    let is : l ≡ log = cc in
    let number : l.id.0 ≡ new.id.0 = ap (λ (x : LogState). x.id.0) is ∙ sym same in
    let hit : (l.id.0 == new.id.0) ≡ true = grind (arith, nat_tests) in
    sym (ap (λ t. (if t then new else l) ∷ with_log new logs) hit
    ∙ ap (λ (xs : List LogState). new ∷ xs) (others_stay new (l.id.0 + 1) logs (omega arith) (parts_of_rise least l logs rising).1))
set_is_with new least (l ∷ logs) (suc i) log rising at same =
    let parts = parts_of_rise least l logs rising in
    let later : l.id.0 + 1 ≤ log.id.0 = there_from (l.id.0 + 1) logs i log parts.1 at in
    let apart : (l.id.0 == new.id.0) ≡ false = grind (arith, nat_tests) in
    ap (λ (xs : List LogState). l ∷ xs) (set_is_with new (l.id.0 + 1) logs i log parts.1 at same) ∙ sym (ap (λ t. (if t then new else l) ∷ with_log new logs) apart)

pub ids_set : (new : LogState) (logs : List LogState) (i : ℕ) (log : LogState) → slice_get logs i ≡ Some log → new.id ≡ log.id → ids_of (set logs i new) ≡ ids_of logs
ids_set new [] i log at same = refl
ids_set new (l ∷ logs) zero log at same = let is : l ≡ log = cc in ap (λ (id : LogId). id ∷ ids_of logs) (same ∙ ap (λ (x : LogState). x.id) (sym is))
ids_set new (l ∷ logs) (suc i) log at same = ap (λ (ids : List LogId). l.id ∷ ids) (ids_set new logs i log at same)

pub sizes_set : (new : LogState) (logs : List LogState) (i : ℕ) (log : LogState) → slice_get logs i ≡ Some log →
    sum_by log_size (set logs i new) + values_size log.values ≡ sum_by log_size logs + values_size new.values
sizes_set new [] i log at = cc
sizes_set new (l ∷ logs) zero log at =
    let is : l ≡ log = cc in
    let same : values_size l.values ≡ values_size log.values = ap (λ (x : LogState). values_size x.values) is in
    omega (arith, sum_by-cons log_size new logs, sum_by-cons log_size l logs, same)
sizes_set new (l ∷ logs) (suc i) log at =
    omega (arith, sum_by-cons log_size l (set logs i new), sum_by-cons log_size l logs, sizes_set new logs i log at)

pub size_at_most : (logs : List LogState) (i : ℕ) (log : LogState) → slice_get logs i ≡ Some log → values_size log.values ≤ logs_size logs
size_at_most [] i log at = cc
size_at_most (l ∷ logs) zero log at =
    let is : l ≡ log = cc in
    let same : values_size l.values ≡ values_size log.values = ap (λ (x : LogState). values_size x.values) is in
    omega (arith, sum_by-cons log_size l logs, same)
size_at_most (l ∷ logs) (suc i) log at = omega (arith, sum_by-cons log_size l logs, size_at_most logs i log at)

pub are_set : (new : LogState) (ids : List LogId) (logs : List LogState) (i : ℕ) (log : LogState) → slice_get logs i ≡ Some log → new.id ≡ log.id → IsLog new → AreLogsOf ids logs → AreLogsOf ids (set logs i new)
are_set new [] [] i log at same is are = tt
are_set new [] (l ∷ logs) i log at same is are = absurd are
are_set new (id ∷ ids) [] i log at same is are = absurd are
are_set new (id ∷ ids) (l ∷ logs) zero log at same is are =
    let here : l ≡ log = cc in
    (ap (λ (x : LogId). x.0) same ∙ (ap (λ (x : LogState). x.id.0) (sym here) ∙ are.0), is, are.2)
are_set new (id ∷ ids) (l ∷ logs) (suc i) log at same is are = (are.0, are.1, are_set new ids logs i log at same is are.2)

pub one_is : (ids : List LogId) (logs : List LogState) (i : ℕ) (log : LogState) → slice_get logs i ≡ Some log → AreLogsOf ids logs → IsLog log
one_is [] [] i log at are = cc
one_is [] (l ∷ logs) i log at are = absurd are
one_is (id ∷ ids) [] i log at are = absurd are
one_is (id ∷ ids) (l ∷ logs) zero log at are = let here : l ≡ log = cc in subst (λ (x : LogState). IsLog x) here are.1
one_is (id ∷ ids) (l ∷ logs) (suc i) log at are = one_is ids logs i log at are.2

-- ---- a log that is trimmed

trimmed_length : (position : ℕ) (log : LogState) → position ≤ log_length log → log_length (trimmed_to position log) ≡ log_length log
trimmed_length position log there = grind (arith, length-drop (position - log.trim) log.values)

pub trimmed_is : (position : ℕ) (log : LogState) → position ≤ log_length log → IsLog log → IsLog (trimmed_to position log)
trimmed_is position log there is = record {
  few = let few = is.few in omega (arith, trimmed_length position log there);
  values = trimmed_short position log is.values;
}

pub less_left : (n : ℕ) (values : List (List ℕ)) → values_size (drop n values) ≤ values_size values
less_left zero values = omega arith
less_left (suc n) [] = omega arith
less_left (suc n) (value ∷ values) = omega (arith, sum_by-cons (λ (v : List ℕ). 2 + length v) value values, less_left n values)

-- ---- the service after a trim

pub trimmed_logs : (position : ℕ) (logs : List LogState) (i : ℕ) (log : LogState) → AreLogs logs → slice_get logs i ≡ Some log → position ≤ log_length log → AreLogs (set logs i (trimmed_to position log))
trimmed_logs position logs i log are at there = record {
  rising = subst (λ (ids : List LogId). IsTrue (rises_from 0 ids)) (sym (ids_set (trimmed_to position log) logs i log at refl)) are.rising;
  each = subst (λ (ids : List LogId). AreLogsOf ids (set logs i (trimmed_to position log))) (sym (ids_set (trimmed_to position log) logs i log at refl))
      (are_set (trimmed_to position log) (ids_of logs) logs i log at refl (trimmed_is position log there (one_is (ids_of logs) logs i log at are.each)) are.each);
}

-- a number is that of one of the logs, or none of them is replaced
pub place_or_none : (id : LogId) (logs : List LogState) → ((i : ℕ) × (slice_get logs i ≡ Some (log_at id logs)) × ((log_at id logs).id.0 ≡ id.0)) ⊎ ((new : LogState) → new.id.0 ≡ id.0 → with_log new logs ≡ logs)
place_or_none id [] = inr (λ new same. refl)
place_or_none id (log ∷ logs) = by (log.id.0 == id.0) refl (place_or_none id logs)
  where
    by : (t : Bool) → (log.id.0 == id.0) ≡ t → (((i : ℕ) × (slice_get logs i ≡ Some (log_at id logs)) × ((log_at id logs).id.0 ≡ id.0)) ⊎ ((new : LogState) → new.id.0 ≡ id.0 → with_log new logs ≡ logs)) →
        ((i : ℕ) × (slice_get (log ∷ logs) i ≡ Some (if t then log else log_at id logs)) × ((if t then log else log_at id logs).id.0 ≡ id.0)) ⊎ ((new : LogState) → new.id.0 ≡ id.0 → with_log new (log ∷ logs) ≡ log ∷ logs)
    by true is later = inl (0, refl, number_is log.id.0 id.0 is)
    by false is (inl there) = inl (suc there.0, there.1, there.2)
    by false is (inr none) = inr (λ new same.
        let apart : (log.id.0 == new.id.0) ≡ false = ap (λ (n : ℕ). log.id.0 == n) same ∙ is in
        ap (λ t. (if t then new else log) ∷ with_log new logs) apart ∙ ap (λ (xs : List LogState). log ∷ xs) (none new same))
