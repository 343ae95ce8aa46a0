-- Openings and records in a row on one disk, on which a fault was set before.
use Rattle.std.specs.Prelude.{ℕ, zero, suc, ◌+◌, Bool, true, false, List, [], ◌∷◌, ◌++◌, map, Option, Some, None, Result, Ok, Err}
use Rattle.mrp_types.specs.declared.id.NodeId.{NodeId}
use Rattle.disk_model.specs.declared.area.Area.{Area}
use Rattle.disk_model.specs.declared.areas.Areas.{Areas}
use Rattle.disk_model.specs.declared.plan.Plan.{Plan}
use Rattle.disk_model.specs.Calls.{begun, reads}
use Rattle.disk_model.specs.Running.{Ran, ran}
use Rattle.disk_model.specs.Sim.{Sim}
use Rattle.gate_area.specs.declared.pair.Pair.TheVariants.{Journal as JournalPair}
use Rattle.gate_area.specs.Standing.{stands}
use Rattle.vote_state.specs.declared.change.Change.{Change}
use Rattle.vote_state.specs.declared.change.Change.TheVariants.{Trim}
use Rattle.vote_journal.specs.Journal.{Journal, recorded}
use Rattle.vote_journal.specs.Operations.{record_ops}
use Rattle.protocol.specs.Lines.{Cause}
use Rattle.world_model.specs.Disks.{cause_of, no_plan, with_plan}
use Rattle.world_model.specs.Opening.{Opening, finding_by, found_by, opened_journal}
use Rattle.world_model.specs.Worlds.{empty_disk}

-- node 0 opens its journal, or records a trim of ring 1
pub data Deed : Type 0 where
  Opens : Deed
  Trims : ℕ → Deed

abbrev pub trim_of : ℕ → List Change
trim_of inst = Trim (record { 0 = 1 }) inst ∷ []

-- how many have passed, and why the next one has stopped the node
abbrev pub Fate : Type 0
Fate = ℕ × Option Cause

-- between two of them nothing is pending, and the disk stands for its areas
abbrev pub settled_disk : Sim → Sim
settled_disk d = record d { told = begun (reads d.told) }

abbrev pub by_done : ℕ → (Sim → Fate) → Sim → Bool → Fate
by_done n more d true = more (settled_disk d)
by_done n more d false = (n, Some (cause_of d))

abbrev pub go_on : ℕ → (Sim → Fate) → Ran → Fate
go_on n more r = by_done n more r.disk r.done

abbrev pub opening_on : Areas → Result (Option (Area × ℕ)) (Area × ℕ) → Opening Journal → Opening Journal
opening_on areas standing journal = record { work = finding_by areas standing ++ journal.work; result = journal.result }

abbrev pub opening_at : NodeId → ℕ → Areas → Opening Journal
opening_at id limit areas = opening_on areas (stands JournalPair areas) (opened_journal id (found_by limit areas (stands JournalPair areas)))

abbrev pub opens_then : ℕ → (Journal → Sim → Fate) → Ran → Result Journal Cause → Fate
opens_then n more r (Ok journal) = go_on n (more journal) r
opens_then n more r (Err cause) = go_on n (λ d. (n, Some cause)) r

abbrev pub opens_on : ℕ → (Journal → Sim → Fate) → Sim → Opening Journal → Fate
opens_on n more d found = opens_then n more (ran found.work d) found.result

abbrev pub deeds : List Deed → Option Journal → ℕ → Sim → Fate
deeds [] journal n d = (n, None)
deeds (Opens ∷ rest) journal n d = opens_on n (λ next disk. deeds rest (Some next) (n + 1) disk) d (opening_at (record { 0 = 0 }) 1048576 (reads d.told))
deeds (Trims inst ∷ rest) None n d = (n, None)
deeds (Trims inst ∷ rest) (Some journal) n d = go_on n (λ disk. deeds rest (Some (recorded journal (trim_of inst))) (n + 1) disk) (ran (record_ops journal (trim_of inst)) d)

-- three openings and five records
abbrev pub row : List Deed
row = Opens ∷ Trims 1 ∷ Trims 2 ∷ Opens ∷ Trims 3 ∷ Trims 4 ∷ Opens ∷ Trims 5 ∷ []

-- the numbers below this one
abbrev pub below : ℕ → List ℕ
below zero = []
below (suc n) = below n ++ n ∷ []

-- what becomes of them on an empty disk, for each number below this one that is set
abbrev pub fates : (ℕ → Plan → Plan) → ℕ → List Fate
fates sets count = map (λ k. deeds row None 0 (with_plan (sets k no_plan) empty_disk)) (below count)
