-- A save leaves the checkpoint before or after.
use Rattle.disk_model.specs.Sim.{Sim}
use Rattle.std.proofs.Common.{Bool, true, false, if◌then◌else◌, [], ◌≡◌, ℕ, ◌+◌, inl, List, Option, Some, Result, Ok, Err, IsErrAnd, refl, ap, sym, ◌∙◌, subst}
use Rattle.mrp_types.specs.declared.id.RingId.{RingId}
use Rattle.disk_model.specs.declared.area.Area.{Area}
use Rattle.disk_model.specs.declared.area.Refused.{Refused}
use Rattle.disk_model.specs.declared.area.Refused.TheVariants.{Failed, Memory as Wanting}
use Rattle.disk_model.specs.declared.disk.Disk.{Ghosts}
use Rattle.disk_model.specs.Calls.{Told, Tells, LeavesOnly, IsSettled, and_then, reads}
use Rattle.disk_model.specs.Running.{Op, Ending, Passed, Wanted, refused_ending}
use Rattle.disk_model.specs.Went.{WentBy}
use Rattle.disk_model.proofs.Went.{went_as, went_ends, went_none, went_told}
use Rattle.gate_area.specs.Gate.{RenewLeaves, renew_calls}
use Rattle.gate_area.specs.Operations.{renew_ops}
use Rattle.gate_area.proofs.Phases.{leaves_as, stays_leaves}
use Rattle.gate_log.proofs.Renewals.{renewed}
use Rattle.checkpoint.specs.Spelling.{checkpoint_body}
use Rattle.checkpoint.specs.Checkpoints.{Checkpoints, checkpoints_in, next_area, save_ops, saved}
use Rattle.disk_states.specs.Works.{MaySave}
use Rattle.disk_states.proofs.Saving.{save_leaves, new_stands}
use Rattle.disk_states.proofs.Spelling.{body_length}
use Rattle.checkpoint_disk.specs.declared.fault.SaveFault.{SaveFault}
use Rattle.checkpoint_disk.specs.declared.fault.SaveFault.TheVariants.{Memory}
use Rattle.checkpoint_disk.specs.Faults.{refused_as}
use Rattle.checkpoint_disk.specs.Saves.{SaveLeaves, fault_ending, save_ending, is_older, saving_ops}

-- no call was made
pub still : (t : Told) (now : Option Told) (c : Checkpoints) (tuple : List (RingId × ℕ)) (state : List ℕ) → now ≡ Some t → IsSettled t → checkpoints_in (reads t) ≡ Ok c
    → LeavesOnly t now (SaveLeaves c tuple state (reads t))
still t now c tuple state told settled stands =
    stays_leaves t now (SaveLeaves c tuple state (reads t)) told settled (record { journal = record { first = refl; second = refl }; checks = inl stands })

pub moments : (t : Told) (now : Option Told) (c : Checkpoints) (tuple : List (RingId × ℕ)) (state body : List ℕ) (area : Area) → MaySave c tuple state → checkpoints_in (reads t) ≡ Ok c
    → area ≡ next_area c.area → body ≡ checkpoint_body (c.generation + 1) tuple state → LeavesOnly t now (RenewLeaves area body (reads t)) → LeavesOnly t now (SaveLeaves c tuple state (reads t))
moments t now c tuple state body area may stands where_is what_is leaves =
    leaves_as t now (RenewLeaves area body (reads t)) (SaveLeaves c tuple state (reads t)) leaves
    (λ image here.
    let left = save_leaves (reads t) image c tuple state may stands
    (subst (λ (b : List ℕ). RenewLeaves (next_area c.area) b (reads t) image) what_is (subst (λ (a : Area). RenewLeaves a body (reads t) image) where_is here)) in
    record { journal = record { first = left.journal.first; second = left.journal.second }; checks = left.checks })

-- the operations are those of a save
pub saves : {D : Type 0} {disk : Ghosts D} {old now : D} {e : Ending} (c : Checkpoints) (tuple : List (RingId × ℕ)) (state body : List ℕ) (area : Area) → area ≡ next_area c.area
    → body ≡ checkpoint_body (c.generation + 1) tuple state → WentBy disk (renew_ops area body) old now e → WentBy disk (save_ops c tuple state) old now e
saves {disk = disk} {old = old} {now = now} {e = e} c tuple state body area where_is what_is went =
    subst (λ (b : List ℕ). WentBy disk (renew_ops (next_area c.area) b) old now e) what_is (subst (λ (a : Area). WentBy disk (renew_ops a body) old now e) where_is went)

-- what is read then
pub reads_new : {D : Type 0} {disk : Ghosts D} {old now : D} (t u : Told) (c : Checkpoints) (tuple : List (RingId × ℕ)) (state : List ℕ) → MaySave c tuple state → IsSettled t → checkpoints_in (reads t) ≡ Ok c
    → WentBy disk (save_ops c tuple state) old now Passed → Tells (disk.told old) (disk.honest old) t → disk.told now ≡ Some u → checkpoints_in (reads u) ≡ Ok (saved c tuple state)
reads_new t u c tuple state may settled stands went tells is =
    let body = checkpoint_body (c.generation + 1) tuple state in
    let u_is = went_told t u went tells is in
    let done = renewed t (next_area c.area) body (body_length (c.generation + 1) tuple state) settled in
    subst (λ (x : Told). checkpoints_in (reads x) ≡ Ok (saved c tuple state)) (sym u_is)
    (new_stands (reads t) (reads (and_then t (renew_calls (next_area c.area) body t))) c tuple state may stands done.others done.whole)

-- how it has ended
refused_fault : (refused : Refused) → refused_ending refused ≡ fault_ending (refused_as refused)
refused_fault Failed = refl
refused_fault Wanting = refl

pub refused_went : {D T : Type 0} {disk : Ghosts D} {ops : Told → List Op} {old now : D} (refused : Refused) (r : Result T SaveFault) → IsErrAnd r (λ e. e ≡ refused_as refused)
    → WentBy disk ops old now (refused_ending refused) → WentBy disk ops old now (save_ending r)
refused_went refused (Ok x) is went = absurd is
refused_went refused (Err e) is went = went_ends (refused_fault refused ∙ sym (ap fault_ending is)) went

pub wanted_went : {D T : Type 0} {disk : Ghosts D} {ops : Told → List Op} {old now : D} (r : Result T SaveFault) → IsErrAnd r (λ e. e ≡ Memory) → WentBy disk ops old now Wanted → WentBy disk ops old now (save_ending r)
wanted_went (Ok x) is went = absurd is
wanted_went (Err e) is went = went_ends (sym (ap fault_ending is)) went

-- ---- the guard

pub older_is : (c inside : Checkpoints) (tuple : List (RingId × ℕ)) (b : Bool) → inside ≡ c → is_older inside.newest tuple ≡ b → is_older c.newest tuple ≡ b
older_is c inside tuple b same is = ap (λ (x : Checkpoints). is_older x.newest tuple) (sym same) ∙ is

pub guarded_none : {D : Type 0} (disk : Ghosts D) (old : D) (c : Checkpoints) (tuple : List (RingId × ℕ)) (state : List ℕ) → ((d : D) (s : Sim) → disk.memory d ≡ Some s → Tells (disk.told d) (disk.honest d) s.told)
    → is_older c.newest tuple ≡ true → WentBy disk (saving_ops c tuple state) old old Passed
guarded_none disk old c tuple state tells is =
    went_as (saving_ops c tuple state) tells (λ t told. ap (λ b. if b then [] else save_ops c tuple state t) (sym is)) (went_none disk old)

pub guarded_some : {D : Type 0} {disk : Ghosts D} {old now : D} {e : Ending} (c : Checkpoints) (tuple : List (RingId × ℕ)) (state : List ℕ) → ((d : D) (s : Sim) → disk.memory d ≡ Some s → Tells (disk.told d) (disk.honest d) s.told)
    → is_older c.newest tuple ≡ false → WentBy disk (save_ops c tuple state) old now e → WentBy disk (saving_ops c tuple state) old now e
guarded_some c tuple state tells is went = went_as (saving_ops c tuple state) tells (λ t told. ap (λ b. if b then [] else save_ops c tuple state t) (sym is)) went

pub ended_as : {D T : Type 0} {disk : Ghosts D} {ops : Told → List Op} {old now : D} (fault : SaveFault) (r : Result T SaveFault) → IsErrAnd r (λ e. e ≡ fault)
    → WentBy disk ops old now (fault_ending fault) → WentBy disk ops old now (save_ending r)
ended_as fault (Ok x) is went = absurd is
ended_as fault (Err e) is went = went_ends (ap fault_ending (sym is)) went
