use Rattle.std.proofs.Common.{◌≡◌, ℕ, List, [], ap, sym, ◌∙◌}
use Rattle.disk_model.specs.declared.area.Area.{Area}
use Rattle.disk_model.specs.declared.area.Area.TheVariants.{Journal0, Journal1, Check2, Check3}
use Rattle.disk_model.specs.declared.call.Call.{Call}
use Rattle.disk_model.specs.Calls.{Told, begun, and_then, reads, own, kept, IsSettled}
use Rattle.disk_model.specs.Crash.{left_of, left_by}
use Rattle.disk_model.specs.Steps.{Kept, steps_on}
use Rattle.disk_model.proofs.OnArea.{settled-kept}
use Rattle.disk_model.proofs.Reading.{kept-and_then, same_areas, reads-bytes}
use Rattle.world_model.proofs.laws.areas_tell_a_settled_disk.Goals as goal

-- nothing was done to a file with these bytes
still : List ℕ → Kept
still bytes = record { bytes = bytes; pending = [] }

before : (t : Told) (area : Area) → IsSettled t → kept area t ≡ kept area (begun (reads t))
unfolding still
before t area settled = settled-kept t area settled ∙ ap still (sym (reads-bytes t area))

after_calls : (t : Told) (calls : List Call) (area : Area) → IsSettled t → kept area (and_then t calls) ≡ kept area (and_then (begun (reads t)) calls)
after_calls t calls area settled =
    kept-and_then area t calls
    ∙ ap (λ k. steps_on k (own area calls)) (before t area settled)
    ∙ sym (kept-and_then area (begun (reads t)) calls)

pub returns-clause-kept : goal.returns-clause-kept
returns-clause-kept c = after_calls

pub returns-clause-images : goal.returns-clause-images
returns-clause-images c = λ t calls image settled.
    same_areas (left_by image (and_then t calls)) (left_by image (and_then (begun (reads t)) calls))
    (ap (left_of image) (after_calls t calls Journal0 settled))
    (ap (left_of image) (after_calls t calls Journal1 settled))
    (ap (left_of image) (after_calls t calls Check2 settled))
    (ap (left_of image) (after_calls t calls Check3 settled))
