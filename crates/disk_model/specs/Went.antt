-- What several operations of a disk leave, one after another.
use Rattle.std.specs.Prelude.{◌≡◌, ◌≤◌, ℕ, Bool, true, false, List}
use Rattle.disk_model.specs.declared.call.Call.{Call}
use Rattle.disk_model.specs.declared.disk.Disk.{Ghosts}
use Rattle.disk_model.specs.Calls.{Told, Makes, MakesFirst}
use Rattle.disk_model.specs.Causes.{Rose}
use Rattle.disk_model.specs.Running.{Op, Ending, Passed, is_stopped, changes_in, GoesBy}

-- the calls that change a disk, among operations that follow from what it told
abbrev pub changes : (Told → List Op) → Told → List Call
changes ops t = changes_in (ops t)

-- a count went up where it had to, and nowhere else
pub record Rises (before now : ℕ) (must : Bool) : Type 0 where
  pub later : before ≤ now
  pub rose : must ≡ true → Rose before now
  pub kept : must ≡ false → now ≡ before

-- A disk went by operations that follow from what it told, and they ended so. An honest disk made all their calls where all
-- passed, and else the first of them; one in memory goes by each of them; a fault is answered only where the disk's own count
-- of faults rose.
pub record WentBy {D : Type 0} (disk : Ghosts D) (ops : Told → List Op) (old now : D) (e : Ending) : Type 0 where
  pub honest : disk.honest now ≡ disk.honest old
  pub all : e ≡ Passed → Makes (disk.honest old) (disk.told old) (disk.told now) (changes ops)
  pub first : MakesFirst (disk.honest old) (disk.told old) (disk.told now) (changes ops)
  pub goes : GoesBy ops (disk.memory old) (disk.memory now) e
  pub faults : Rises (disk.faults old) (disk.faults now) (is_stopped e)
  pub wants : disk.wants old ≤ disk.wants now
