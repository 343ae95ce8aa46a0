-- Logs stay the partition's logs.
use Rattle.std.proofs.Common.{arith, ◌≡◌, ℕ, zero, suc, ◌-◌, ◌^◌, nat_lt, ◌==◌, Bool, true, false, if◌then◌else◌, List, [], ◌∷◌, ◌++◌, drop, refl, sym, ◌∙◌, subst, true≢false}
use Rattle.std.specs.Prelude.{◌||◌, map}
use Rattle.std.specs.List.{AllByRecursion}
use Rattle.std.proofs.Math.Seq.{drop-nil}
use Rattle.std.proofs.lemmas.Bool.{ltb-false}
use Rattle.mrp_types.specs.declared.id.LogId.{LogId}
use Rattle.command_codec.specs.Valid.{IsStored}
use Rattle.mrp_config.specs.Config.{has_log}
use Rattle.plain_model.specs.Replicas.{LogState, log_length, log_at, with_log, with_value, trimmed_to, empty_log, is_one_too_long}
use Rattle.plain_model.proofs.FoldLogs.{number_is}
use Rattle.state_laws.specs.States.{IsShort, IsLog, AreLogsOf}

-- these very logs with short values, however long
abbrev pub AreShaped : List LogId → List LogState → Type 0
AreShaped [] [] = Unit {0}
AreShaped (id ∷ ids) (log ∷ logs) = (log.id.0 ≡ id.0) × AllByRecursion IsShort log.values × AreShaped ids logs
AreShaped ids logs = ⊥

pub shaped : (ids : List LogId) (logs : List LogState) → AreLogsOf ids logs → AreShaped ids logs
shaped [] [] are = tt
shaped [] (log ∷ logs) are = absurd are
shaped (id ∷ ids) [] are = absurd are
shaped (id ∷ ids) (log ∷ logs) are = (are.0, are.1.values, shaped ids logs are.2)

pub neither : (t u : Bool) → (t || u) ≡ false → (t ≡ false) × (u ≡ false)
neither true u h = absurd (true≢false h)
neither false u h = (refl, h)

pub with_lengths : (ids : List LogId) (logs : List LogState) → AreShaped ids logs → is_one_too_long logs ≡ false → AreLogsOf ids logs
with_lengths [] [] are none = tt
with_lengths [] (log ∷ logs) are none = absurd are
with_lengths (id ∷ ids) [] are none = absurd are
with_lengths (id ∷ ids) (log ∷ logs) are none =
    let n = neither (nat_lt (2 ^ 63) (log_length log)) (is_one_too_long logs) none in
    (are.0, record { few = ltb-false _ _ n.0; values = are.1 }, with_lengths ids logs are.2 n.1)

-- ---- values

all_more : (values : List (List ℕ)) (value : List ℕ) → AllByRecursion IsShort values → IsShort value → AllByRecursion IsShort (values ++ value ∷ [])
all_more [] value each is = (is, tt)
all_more (v ∷ values) value each is = (each.0, all_more values value each.1 is)

all_left : (n : ℕ) (values : List (List ℕ)) → AllByRecursion IsShort values → AllByRecursion IsShort (drop n values)
all_left zero values each = each
all_left (suc n) [] each = subst (λ (l : List (List ℕ)). AllByRecursion IsShort l) (sym (drop-nil (suc n))) tt
all_left (suc n) (v ∷ values) each = all_left n values each.1

pub with_value_shaped : (value : List ℕ) (named ids : List LogId) (logs : List LogState) → IsStored value → AreShaped ids logs → AreShaped ids (with_value value named logs)
with_value_shaped value named [] [] is are = tt
with_value_shaped value named [] (log ∷ logs) is are = absurd are
with_value_shaped value named (id ∷ ids) [] is are = absurd are
with_value_shaped value named (id ∷ ids) (log ∷ logs) is are = by (has_log named log.id.0) (with_value_shaped value named ids logs is are.2)
  where
    by : (t : Bool) → AreShaped ids (with_value value named logs) →
        AreShaped (id ∷ ids) ((if t then record log { values = log.values ++ value ∷ [] } else log) ∷ with_value value named logs)
    by true later = (are.0, all_more log.values value are.1 is, later)
    by false later = (are.0, are.1, later)

pub with_log_shaped : (new : LogState) (ids : List LogId) (logs : List LogState) → AllByRecursion IsShort new.values → AreShaped ids logs → AreShaped ids (with_log new logs)
with_log_shaped new [] [] is are = tt
with_log_shaped new [] (log ∷ logs) is are = absurd are
with_log_shaped new (id ∷ ids) [] is are = absurd are
with_log_shaped new (id ∷ ids) (log ∷ logs) is are = by (log.id.0 == new.id.0) refl (with_log_shaped new ids logs is are.2)
  where
    by : (t : Bool) → (log.id.0 == new.id.0) ≡ t → AreShaped ids (with_log new logs) → AreShaped (id ∷ ids) ((if t then new else log) ∷ with_log new logs)
    by true e later = (sym (number_is log.id.0 new.id.0 e) ∙ are.0, is, later)
    by false e later = (are.0, are.1, later)

pub trimmed_short : (position : ℕ) (log : LogState) → AllByRecursion IsShort log.values → AllByRecursion IsShort (trimmed_to position log).values
trimmed_short position log each = all_left (position - log.trim) log.values each

-- ---- look-ups

pub log_at_is : (log : LogId) (ids : List LogId) (logs : List LogState) → AreLogsOf ids logs → IsLog (log_at log logs)
log_at_is log [] [] are = record { few = omega arith; values = tt }
log_at_is log [] (l ∷ logs) are = absurd are
log_at_is log (id ∷ ids) [] are = absurd are
log_at_is log (id ∷ ids) (l ∷ logs) are = by (l.id.0 == log.0) (log_at_is log ids logs are.2)
  where
    by : (t : Bool) → IsLog (log_at log logs) → IsLog (if t then l else log_at log logs)
    by true later = are.1
    by false later = later

-- ---- the logs of a new replica

pub empty_are : (ids : List LogId) → AreLogsOf ids (map empty_log ids)
empty_are [] = tt
empty_are (id ∷ ids) = (refl, record { few = omega arith; values = tt }, empty_are ids)
