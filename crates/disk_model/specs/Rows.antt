-- Disks with a few bytes, for the worked cases.
use Rattle.std.specs.Prelude.{ℕ, Bool, true, false, not, List, [], ◌∷◌, Some}
use Rattle.disk_model.specs.declared.area.Area.TheVariants.{Journal0}
use Rattle.disk_model.specs.declared.area.Image.{Image}
use Rattle.disk_model.specs.declared.call.Call.TheVariants.{Write, Cut, Sync}
use Rattle.disk_model.specs.Calls.{Told, begun, and_then, kept, reads}
use Rattle.disk_model.specs.Crash.{left_of}
use Rattle.disk_model.specs.Running.{Op, falls_on, op_passed, op_failed}
use Rattle.disk_model.specs.Sim.{Sim, fresh}

-- a disk whose first area has these bytes
abbrev pub holding : List ℕ → Told
holding bytes = begun (record { journal0 = bytes; journal1 = []; check2 = 0x63 ∷ 0x63 ∷ []; check3 = [] })

-- four bytes, of which the last two are written over and one is put behind, not synced
abbrev pub written_over : Told
written_over = and_then (holding (1 ∷ 2 ∷ 3 ∷ 4 ∷ [])) (Write Journal0 2 (9 ∷ 8 ∷ 7 ∷ []) ∷ [])

-- four bytes of which three are cut, not synced
abbrev pub cut_short : Told
cut_short = and_then (holding (1 ∷ 2 ∷ 3 ∷ 4 ∷ [])) (Cut Journal0 1 ∷ [])

-- two writes, a cut and a write past the end, not synced, on a disk that was settled before
abbrev pub settled : Told
settled = and_then (begun (reads (and_then (holding (1 ∷ 2 ∷ [])) (Write Journal0 1 (3 ∷ 4 ∷ []) ∷ Sync ∷ []))))
    (Write Journal0 0 (5 ∷ 6 ∷ []) ∷ Write Journal0 2 (7 ∷ 8 ∷ []) ∷ Cut Journal0 1 ∷ Write Journal0 9 (9 ∷ []) ∷ [])

-- what a crash leaves of the first area
abbrev pub leaves : Image → Told → List ℕ
leaves image t = left_of image (kept Journal0 t)

-- what is done to a disk in memory: a part of its plan is set, or an operation is called
pub data Act : Type 0 where
  Fuse : ℕ → Act
  Fail : ℕ → Act
  FailRead : ℕ → Act
  Calls : Op → Act

abbrev pub after_call : Op → Sim → Bool → Sim
after_call op d true = op_failed op d
after_call op d false = op_passed op d

abbrev pub after_act : Act → Sim → Sim
after_act (Fuse k) d = record d { trouble = record d.trouble { plan = record d.trouble.plan { fuse = Some k } } }
after_act (Fail k) d = record d { trouble = record d.trouble { plan = record d.trouble.plan { fail = Some k } } }
after_act (FailRead k) d = record d { trouble = record d.trouble { plan = record d.trouble.plan { fail_read = Some k } } }
after_act (Calls op) d = after_call op d (falls_on d.trouble.plan op)

-- which of the operations pass, and whether the fuse has then stopped one
abbrev pub answers : List Act → Sim → List Bool
answers [] d = d.trouble.stopped ∷ []
answers (Fuse k ∷ acts) d = answers acts (after_act (Fuse k) d)
answers (Fail k ∷ acts) d = answers acts (after_act (Fail k) d)
answers (FailRead k ∷ acts) d = answers acts (after_act (FailRead k) d)
answers (Calls op ∷ acts) d = not (falls_on d.trouble.plan op) ∷ answers acts (after_act (Calls op) d)

abbrev pub empty : Sim
empty = fresh (record { journal0 = []; journal1 = []; check2 = []; check3 = [] })
