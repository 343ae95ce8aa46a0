-- The disk of a node: why it stops, what it stands for between steps, and the faults that are set.
use Rattle.std.specs.Prelude.{ℕ, if◌then◌else◌, List, [], ◌∷◌, Some}
use Rattle.disk_model.specs.declared.areas.Areas.{Areas}
use Rattle.disk_model.specs.declared.call.Call.{Call}
use Rattle.disk_model.specs.declared.plan.Plan.{Plan}
use Rattle.disk_model.specs.Calls.{begun, reads}
use Rattle.disk_model.specs.Causes.{no_trouble}
use Rattle.disk_model.specs.Sim.{Sim}
use Rattle.protocol.specs.Lines.{Cause, Crash, Disk}

-- Why a node stops whose call failed: it crashed where a fuse has stopped the call.
abbrev pub cause_of : Sim → Cause
cause_of disk = if disk.trouble.stopped then Crash else Disk

-- ---- between steps

-- Work that is done ends with a sync, so nothing is pending on any area. Then an image of the disk is what a read gives, and
-- so are the images after further calls: the disk stands for its areas alone, and its calls so far are forgotten. Without
-- calls nothing is pending either.
abbrev pub settled : List Call → Sim → Sim
settled [] disk = disk
settled (call ∷ calls) disk = record disk { told = begun (reads disk.told) }

-- ---- faults that a schedule sets

abbrev pub no_plan : Plan
no_plan = no_trouble.plan

-- each takes the place of the one before it of its kind
abbrev pub with_fuse : ℕ → Plan → Plan
with_fuse calls plan = record plan { fuse = Some calls }

abbrev pub with_fail : ℕ → Plan → Plan
with_fail calls plan = record plan { fail = Some calls }

abbrev pub with_fail_read : ℕ → Plan → Plan
with_fail_read calls plan = record plan { fail_read = Some calls }

abbrev pub with_plan : Plan → Sim → Sim
with_plan plan disk = record disk { trouble = record disk.trouble { plan = plan } }

-- ---- a restart

-- the disk of a node that comes back on these areas, with the faults that were set while it was down
abbrev pub restarted : Areas → Plan → Sim
restarted areas plan = record { told = begun areas; trouble = record no_trouble { plan = plan } }
