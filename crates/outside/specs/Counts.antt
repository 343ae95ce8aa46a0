-- Counts of calls and of faults, and the cause of `Failed`.
use Rattle.std.specs.Prelude.{◌≡◌, ℕ, ◌+◌, ◌-◌, ◌^◌, min, ◌==◌, Bool, true, false, List, Result, Ok, Err}
use Rattle.std.specs.List.{list_any}
use Rattle.outside.specs.declared.refused.Refused.{Refused}
use Rattle.outside.specs.declared.refused.Refused.TheVariants.{Failed, Memory}

-- one more, in a counter of 64 bits that stops at its end
abbrev pub rise : ℕ → ℕ
rise n = min (n + 1) (2 ^ 64 - 1)

-- a failure raises the count, want of memory leaves it
abbrev pub count_after : Refused → ℕ → ℕ
count_after Failed before = rise before
count_after Memory before = before

-- only a failure raises the count
abbrev pub CountsFault : {T : Type 0} → Result T Refused → ℕ → ℕ → Type 0
CountsFault (Ok x) before now = now ≡ before
CountsFault (Err refused) before now = now ≡ count_after refused before

abbrev pub is_failure : Refused → Bool
is_failure Failed = true
is_failure Memory = false

abbrev pub is_failed : {T : Type 0} → Result T Refused → Bool
is_failed (Ok x) = false
is_failed (Err refused) = is_failure refused

-- the call of this number fails exactly where the number is listed
abbrev pub FailsWhereListed : {T : Type 0} → Result T Refused → List ℕ → ℕ → Type 0
FailsWhereListed result fail number = is_failed result ≡ list_any (λ n. n == number) fail
