-- How an opening judges the checkpoint that it has read.
use Rattle.std.proofs.Common.{◌≡◌, ℕ, ◌+◌, Bool, true, false, if◌then◌else◌, length, Option, None, Some, Result, Ok, Err, refl, ap, sym, ◌∙◌, subst}
use Rattle.disk_model.specs.declared.area.Area.{Area}
use Rattle.disk_model.specs.declared.area.Area.TheVariants.{Check2, Check3}
use Rattle.disk_model.specs.declared.areas.Areas.{Areas}
use Rattle.command_codec.specs.declared.fault.CodecFault.{CodecFault}
use Rattle.frames.specs.Spelling.{tuple_bytes}
use Rattle.mrp_config.specs.Config.{Config}
use Rattle.mrp_config.specs.declared.tables.PartitionTable.{PartitionTable}
use Rattle.plain_model.specs.Replicas.{Replica}
use Rattle.plain_model.specs.StateBytes.{whole_state}
use Rattle.plain_model.specs.Tuples.{round_sizes, is_tuple_of}
use Rattle.checkpoint.specs.Checkpoints.{Checkpoint, Checkpoints, no_checkpoints, checkpoints_in, place}
use Rattle.bare_world.specs.Runs.{IsReadable}
use Rattle.world_model.specs.Opening.{judged_state, judged_newest, judged_for}
use Rattle.disk_states.proofs.Saving.{standing_at, Standings, Fresh, First, Second, standings}

-- the newest checkpoint of a replica is one of its partition
abbrev pub AreReadable : Config → Option PartitionTable → Option Checkpoint → Type 0
AreReadable config partition newest = (p : PartitionTable) (one : Checkpoint) → partition ≡ Some p → newest ≡ Some one → IsReadable config p one

abbrev Place : Type 0
Place = Area × ℕ × ℕ

-- ---- what is readable is accepted

accepts_newest : (config : Config) (p : PartitionTable) (c : Checkpoints) (newest : Option Checkpoint) (at : Option Place) → AreReadable config (Some p) newest → judged_newest config p c newest at ≡ Ok c
accepts_newest config p c None at readable = refl
accepts_newest config p c (Some one) None readable = refl
accepts_newest config p c (Some one) (Some at) readable =
    let is = readable p one refl refl in
    ap (λ b. if b then judged_state at c (whole_state p one.state) else Err (at.0, at.1)) is.tuple ∙ ap (judged_state at c) is.state

pub accepts : (config : Config) (partition : Option PartitionTable) (c : Checkpoints) → AreReadable config partition c.newest → judged_for config partition c ≡ Ok c
accepts config None c readable = refl
accepts config (Some p) c readable = accepts_newest config p c c.newest (place c) readable

-- ---- what is accepted is readable

-- where there is a checkpoint it has a place
abbrev HasPlace : Checkpoints → Type 0
HasPlace c = (one : Checkpoint) → c.newest ≡ Some one → (at : Place) × (place c ≡ Some at)

has_place : (areas : Areas) (c : Checkpoints) → checkpoints_in areas ≡ Ok c → HasPlace c
has_place areas c is = by (standings areas c is)
  where
    none : HasPlace no_checkpoints
    none one is = absurd cc

    some : (area : Area) (g : ℕ) (found : ℕ × Checkpoint) → HasPlace (standing_at area g found)
    some area g found one is = ((area, found.0, found.0 + 8 + length (tuple_bytes found.1.tuple)), refl)

    by : Standings areas c → HasPlace c
    by (Fresh here same) = subst HasPlace same none
    by (First at) = subst HasPlace at.same (some Check2 at.generation at.found)
    by (Second at) = subst HasPlace at.same (some Check3 at.generation at.found)

-- the checkpoints that were accepted are those that were judged
pub record Accepted (config : Config) (partition : Option PartitionTable) (c kept : Checkpoints) : Type 0 where
  pub same : kept ≡ c
  pub readable : AreReadable config partition c.newest

by_state : (config : Config) (p : PartitionTable) (c kept : Checkpoints) (one : Checkpoint) (at : Place) (r : Result Replica CodecFault) → is_tuple_of (round_sizes config) p.rings one.tuple ≡ true → whole_state p one.state ≡ r
    → judged_state at c r ≡ Ok kept → (kept ≡ c) × IsReadable config p one
by_state config p c kept one at (Ok replica) tuple state e = (let same : c ≡ kept = cc in sym same, record { tuple = tuple; replica = replica; state = state })
by_state config p c kept one at (Err fault) tuple state e = absurd cc

by_tuple : (config : Config) (p : PartitionTable) (c kept : Checkpoints) (one : Checkpoint) (at : Place) (b : Bool) → is_tuple_of (round_sizes config) p.rings one.tuple ≡ b
    → (if b then judged_state at c (whole_state p one.state) else Err (at.0, at.1)) ≡ Ok kept → (kept ≡ c) × IsReadable config p one
by_tuple config p c kept one at true tuple e = by_state config p c kept one at (whole_state p one.state) tuple refl e
by_tuple config p c kept one at false tuple e = absurd cc

judged_so : (config : Config) (p : PartitionTable) (c kept : Checkpoints) (newest : Option Checkpoint) (at : Option Place) → ((one : Checkpoint) → newest ≡ Some one → (spot : Place) × (at ≡ Some spot))
    → judged_newest config p c newest at ≡ Ok kept → (kept ≡ c) × AreReadable config (Some p) newest
judged_so config p c kept None at placed e = (let same : c ≡ kept = cc in sym same, λ q one is none. absurd cc)
judged_so config p c kept (Some one) None placed e = absurd (let no = (placed one refl).1 in cc)
judged_so config p c kept (Some one) (Some at) placed e =
    let so = by_tuple config p c kept one at (is_tuple_of (round_sizes config) p.rings one.tuple) refl e in
    (so.0, λ q other is same. (let here : p ≡ q = cc in let this : one ≡ other = cc in subst (λ (x : PartitionTable). IsReadable config x other) here (subst (λ (x : Checkpoint). IsReadable config p x) this so.1)))

pub accepted : (config : Config) (partition : Option PartitionTable) (areas : Areas) (c kept : Checkpoints) → checkpoints_in areas ≡ Ok c → judged_for config partition c ≡ Ok kept → Accepted config partition c kept
accepted config None areas c kept is e = record { same = (let same : c ≡ kept = cc in sym same); readable = λ q one none here. absurd cc }
accepted config (Some p) areas c kept is e =
    let so = judged_so config p c kept c.newest (place c) (has_place areas c is) e in
    record { same = so.0; readable = so.1 }
