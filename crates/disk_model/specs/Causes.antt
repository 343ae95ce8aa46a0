-- Why a call of a disk is refused.
use Rattle.std.specs.Prelude.{◌≡◌, ◌≤◌, ◌+◌, ◌-◌, ◌^◌, ℕ, List, length, take, drop, min, Bool, true, false, ◌||◌, Option, None, Some, zero, suc, Result, OnOk, IsErrOf}
use Rattle.disk_model.specs.declared.area.Refused.{Refused}
use Rattle.disk_model.specs.declared.area.Refused.TheVariants.{Failed, Memory}
use Rattle.disk_model.specs.declared.plan.Plan.{Plan}
use Rattle.disk_model.specs.declared.plan.Trouble.{Trouble}

-- the count went up; one that stands at its type's end stays there
abbrev pub Rose : ℕ → ℕ → Type 0
Rose before now = min (before + 1) (2 ^ 64 - 1) ≤ now

-- `Failed` comes only where the count of faults rose, and nothing else raises it
pub record Causes {T : Type 0} (before now : ℕ) (result : Result T Refused) : Type 0 where
  pub later : before ≤ now
  pub failed : IsErrOf result Failed → Rose before now
  pub memory : IsErrOf result Memory → now ≡ before
  pub kept : OnOk result (now ≡ before)

-- `Memory` comes only where the count of wants rose, and nothing else raises it
pub record Wants {T : Type 0} (before now : ℕ) (result : Result T Refused) : Type 0 where
  pub later : before ≤ now
  pub memory : IsErrOf result Memory → Rose before now
  pub failed : IsErrOf result Failed → now ≡ before
  pub kept : OnOk result (now ≡ before)

-- a read of a file from a position gives its bytes there, fewer than were asked only at the file's end
pub record GivesBytes (file : List ℕ) (at n : ℕ) (into : List ℕ) : Type 0 where
  pub count : n ≡ min (length into) (length file - at)
  pub bytes : take n into ≡ take n (drop at file)

-- no more calls of its kind pass
abbrev pub falls : Option ℕ → Bool
falls None = false
falls (Some zero) = true
falls (Some (suc n)) = false

-- one call of its kind has passed
abbrev pub passed : Option ℕ → Option ℕ
passed None = None
passed (Some zero) = Some zero
passed (Some (suc n)) = Some n

-- it has made a call fail, if it fell on it
abbrev pub spent : Option ℕ → Option ℕ
spent None = None
spent (Some zero) = None
spent (Some (suc n)) = Some (suc n)

-- on which calls a plan of faults falls: a fuse that burnt down on each, the others once on one of their kind
abbrev pub falls_on_change : Plan → Bool
falls_on_change p = falls p.fuse || falls p.fail

abbrev pub falls_on_read : Plan → Bool
falls_on_read p = falls p.fuse || falls p.fail_read

abbrev pub falls_on_len : Plan → Bool
falls_on_len p = falls p.fuse

-- the plan after a call that passed
abbrev pub change_passed : Plan → Plan
change_passed p = record { fuse = passed p.fuse; fail = passed p.fail; fail_read = p.fail_read }

abbrev pub read_passed : Plan → Plan
read_passed p = record { fuse = p.fuse; fail = p.fail; fail_read = passed p.fail_read }

abbrev pub len_passed : Plan → Plan
len_passed p = p

-- the plan after a call that failed
abbrev pub change_failed : Plan → Plan
change_failed p = record { fuse = p.fuse; fail = spent p.fail; fail_read = p.fail_read }

abbrev pub read_failed : Plan → Plan
read_failed p = record { fuse = p.fuse; fail = p.fail; fail_read = spent p.fail_read }

abbrev pub len_failed : Plan → Plan
len_failed p = p

-- the troubles of a disk after a call on which its plan fell
abbrev pub troubled : (Plan → Plan) → Trouble → Trouble
troubled fails t = record { plan = fails t.plan; stopped = t.stopped || falls t.plan.fuse; faults = min (t.faults + 1) (2 ^ 64 - 1); wants = t.wants }

-- and after one that passed
abbrev pub untroubled : (Plan → Plan) → Trouble → Trouble
untroubled passes t = record { plan = passes t.plan; stopped = t.stopped; faults = t.faults; wants = t.wants }

-- and after one that found no memory
abbrev pub wanting : Trouble → Trouble
wanting t = record { plan = t.plan; stopped = t.stopped; faults = t.faults; wants = min (t.wants + 1) (2 ^ 64 - 1) }

-- a disk without any
abbrev pub no_trouble : Trouble
no_trouble = record { plan = record { fuse = None; fail = None; fail_read = None }; stopped = false; faults = 0; wants = 0 }
