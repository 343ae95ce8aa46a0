-- What operations, one after another, make of a disk in memory: which of them its plan of faults stops, and what they leave.
use Rattle.std.specs.Prelude.{◌≡◌, ◌⊎◌, ℕ, take, Bool, true, false, List, [], ◌∷◌, Option, Some, Result, Ok, Err}
use Rattle.disk_model.specs.declared.area.Refused.{Refused}
use Rattle.disk_model.specs.declared.area.Refused.TheVariants.{Failed, Memory}
use Rattle.disk_model.specs.declared.call.Call.{Call}
use Rattle.disk_model.specs.declared.plan.Plan.{Plan}
use Rattle.disk_model.specs.Calls.{Told, and_then}
use Rattle.disk_model.specs.Causes.{Causes, Wants, falls_on_len, falls_on_read, falls_on_change, len_passed, read_passed, change_passed, len_failed, read_failed, change_failed, troubled, untroubled, wanting}
use Rattle.disk_model.specs.Sim.{Sim}

-- One operation of a device. What a length and a read give is known, so only that they are asked counts.
pub data Op : Type 0 where
  Asks : Op
  Reads : Op
  Does : Call → Op

-- how an operation ends, or several: all passed, one failed, or memory was wanting
pub data Ending : Type 0 where
  Passed : Ending
  Stopped : Ending
  Wanted : Ending

abbrev pub refused_ending : Refused → Ending
refused_ending Failed = Stopped
refused_ending Memory = Wanted

abbrev pub ending : {T : Type 0} → Result T Refused → Ending
ending (Ok _) = Passed
ending (Err refused) = refused_ending refused

abbrev pub is_stopped : Ending → Bool
is_stopped Passed = false
is_stopped Stopped = true
is_stopped Wanted = false

-- whether a plan of faults falls on an operation
abbrev pub falls_on : Plan → Op → Bool
falls_on plan Asks = falls_on_len plan
falls_on plan Reads = falls_on_read plan
falls_on plan (Does call) = falls_on_change plan

-- the disk once an operation has passed
abbrev pub op_passed : Op → Sim → Sim
op_passed Asks d = record { told = d.told; trouble = untroubled len_passed d.trouble }
op_passed Reads d = record { told = d.told; trouble = untroubled read_passed d.trouble }
op_passed (Does call) d = record { told = and_then d.told (call ∷ []); trouble = untroubled change_passed d.trouble }

-- once it has failed, which has no effect on what the disk holds
abbrev pub op_failed : Op → Sim → Sim
op_failed Asks d = record { told = d.told; trouble = troubled len_failed d.trouble }
op_failed Reads d = record { told = d.told; trouble = troubled read_failed d.trouble }
op_failed (Does call) d = record { told = d.told; trouble = troubled change_failed d.trouble }

-- once memory was wanting, which is counted and changes nothing else
abbrev pub in_want : Sim → Sim
in_want d = record { told = d.told; trouble = wanting d.trouble }

-- the disk after an operation, by how it ended
abbrev pub after_op : Op → Ending → Sim → Sim
after_op op Passed d = op_passed op d
after_op op Stopped d = op_failed op d
after_op op Wanted d = in_want d

-- A disk that is one in memory goes by an operation: it fails exactly where the plan falls on it, and then the disk is what
-- the operation makes of it.
pub record GoesAt (op : Op) (d : Sim) (now : Option Sim) (e : Ending) : Type 0 where
  pub exactly : is_stopped e ≡ falls_on d.trouble.plan op
  pub disk : now ≡ Some (after_op op e d)

abbrev pub Goes : Op → Option Sim → Option Sim → Ending → Type 0
Goes op old now e = (d : Sim) → old ≡ Some d → GoesAt op d now e

-- What an operation leaves, by how it ended: the disk holds what it tells as before, goes by the operation, and its counts of
-- faults and of wants rise where it answers one, and nowhere else.
pub record Did {T : Type 0} (op : Op) (h h' : Bool) (m m' : Option Sim) (f f' w w' : ℕ) (result : Result T Refused) : Type 0 where
  pub honest : h' ≡ h
  pub goes : Goes op m m' (ending result)
  pub causes : Causes f f' result
  pub wants : Wants w w' result

-- the disk after some operations, and whether all of them passed
pub record Ran : Type 0 where
  pub disk : Sim
  pub done : Bool

-- the first that fails is the last one
abbrev pub by_fault : Op → Sim → (Sim → Ran) → Bool → Ran
by_fault op d more true = record { disk = op_failed op d; done = false }
by_fault op d more false = more (op_passed op d)

unfoldable pub ran : List Op → Sim → Ran
ran [] d = record { disk = d; done = true }
ran (op ∷ ops) d = by_fault op d (λ next. ran ops next) (falls_on d.trouble.plan op)

-- the calls that change the disk, in order
abbrev pub changes_in : List Op → List Call
changes_in [] = []
changes_in (Asks ∷ ops) = changes_in ops
changes_in (Reads ∷ ops) = changes_in ops
changes_in (Does call ∷ ops) = call ∷ changes_in ops

-- the disk is what was left, and all have passed or not
abbrev pub Left : Ran → Option Sim → Bool → Type 0
Left r now done = (r.done ≡ done) × (now ≡ Some r.disk)

-- The first of some operations have passed and left the disk, and then memory was wanting. Where that was the disk's, it has
-- counted it.
pub record WantedIn (ops : List Op) (d : Sim) (now : Option Sim) : Type 0 where
  pub count : ℕ
  pub passed : (ran (take count ops) d).done ≡ true
  pub disk : (now ≡ Some (ran (take count ops) d).disk) ⊎ (now ≡ Some (in_want (ran (take count ops) d).disk))

-- the disk is what these operations make of it, by how they ended
abbrev pub Came : List Op → Sim → Option Sim → Ending → Type 0
Came ops d now Passed = Left (ran ops d) now true
Came ops d now Stopped = Left (ran ops d) now false
Came ops d now Wanted = WantedIn ops d now

-- a disk that is one in memory goes by the operations that follow from what it told
abbrev pub GoesBy : (Told → List Op) → Option Sim → Option Sim → Ending → Type 0
GoesBy ops old now e = (d : Sim) → old ≡ Some d → Came (ops d.told) d now e
