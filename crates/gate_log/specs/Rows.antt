-- A log on a disk, for the worked rows.
use Rattle.std.specs.Prelude.{List, [], ◌∷◌, ℕ}
use Rattle.disk_model.specs.declared.area.Area.TheVariants.{Journal0}
use Rattle.disk_model.specs.declared.call.Call.{Call}
use Rattle.disk_model.specs.Calls.{Told, begun}
use Rattle.disk_model.specs.Running.{changes_in}
use Rattle.gate_log.specs.Journal.{Log, log_of}
use Rattle.gate_log.specs.Operations.{append_ops, compact_ops}
use Rattle.gate_log.specs.Records.{area_body}

-- a disk whose first area has these records, and its log
abbrev pub holding : List (List ℕ) → Told
holding records = begun (record { journal0 = 1 ∷ area_body 1 records; journal1 = []; check2 = []; check3 = [] })

abbrev pub log_with : List (List ℕ) → Log
log_with records = log_of Journal0 1 1048576 records

abbrev pub abc : List ℕ
abc = 0x61 ∷ 0x62 ∷ 0x63 ∷ []

abbrev pub de : List ℕ
de = 0x64 ∷ 0x65 ∷ []

-- `abc` is added to no record
abbrev pub appends : List Call
appends = changes_in (append_ops (log_with []) abc)

-- `de` takes the place of `abc`
abbrev pub compacts : List Call
compacts = changes_in (compact_ops (log_with (abc ∷ [])) de (holding (abc ∷ [])))
