-- What holds of the logs that a service keeps, and how many bytes a command adds to them.
use Rattle.std.specs.Prelude.{ℕ, ◌+◌, Bool, IsTrue, if◌then◌else◌, List, [], ◌∷◌, ◌++◌, length}
use Rattle.std.specs.List.{sum_by}
use Rattle.mrp_types.specs.declared.id.LogId.{LogId}
use Rattle.command_codec.specs.Valid.{rises_from}
use Rattle.mrp_config.specs.Config.{has_log}
use Rattle.plain_model.specs.Replicas.{LogState, log_size}
use Rattle.state_laws.specs.States.{AreLogsOf}
use Rattle.services.specs.Parts.{ids_of}

-- logs below 64 that increase, each of at most 2 ^ 63 values, the kept ones short
pub record AreLogs (logs : List LogState) : Type 0 where
  pub rising : IsTrue (rises_from 0 (ids_of logs))
  pub each : AreLogsOf (ids_of logs) logs

-- how many bytes they have in the written state, their count included
abbrev pub logs_size : List LogState → ℕ
logs_size logs = 1 + sum_by log_size logs

-- whether a log is one of the named
abbrev pub is_named : List LogId → LogState → Bool
is_named named log = has_log named log.id.0

-- how many bytes the values have in the written state, each with its length
abbrev pub values_size : List (List ℕ) → ℕ
values_size values = sum_by (λ (value : List ℕ). 2 + length value) values

-- the log with the value at its end, where it is named
abbrev pub appended : List ℕ → List LogId → LogState → LogState
appended value named log = if is_named named log then record log { values = log.values ++ value ∷ [] } else log
