-- An opening of a node on an image of its disk, under any plan of faults.
use Rattle.std.proofs.Common.{◌≡◌, ◌≢◌, ◌⊎◌, inl, inr, ℕ, ◌+◌, ◌-◌, ◌<◌, ◌^◌, Bool, true, false, List, take, Some, Result, Ok, Err, refl, ap, sym, ◌∙◌, subst, arith}
use Rattle.std.proofs.lemmas.Bool.Decides.{eqb_tells}
use Rattle.mrp_types.specs.declared.id.NodeId.{NodeId}
use Rattle.mrp_config.specs.Config.{Config}
use Rattle.disk_model.specs.declared.areas.Areas.{Areas}
use Rattle.disk_model.specs.declared.plan.Plan.{Plan}
use Rattle.disk_model.specs.Calls.{Told, begun, and_then, IsImage}
use Rattle.disk_model.specs.Running.{Op, ran}
use Rattle.disk_model.specs.Sim.{Sim}
use Rattle.disk_model.proofs.Running.{all_told, some_told}
use Rattle.vote_state.specs.State.{State}
use Rattle.protocol.specs.Lines.{Cause}
use Rattle.protocol.specs.Opening.{opened}
use Rattle.bare_world.specs.Worlds.{Possible, chosen}
use Rattle.bare_world.specs.Runs.{IsNode, MayOpen, MayLeave}
use Rattle.world_model.specs.Disks.{cause_of, settled, restarted}
use Rattle.world_model.specs.Opening.{Kept, opening}
use Rattle.world_model.specs.Worlds.{Down, World, opened_where, opens, comes_back}
use Rattle.disk_states.specs.States.{StandsFor, AllStandFor, IsHeld}
use Rattle.disk_states.specs.Openings.{raised, opening_calls}
use Rattle.disk_states.proofs.Opening.{opening_stopped, opening_last, opening_opened}
use Rattle.bare_ties.specs.Ties.{UpTies, DownTies, OpenEnds, Opened, Failed}
use Rattle.bare_ties.proofs.Keeping.{opened_keeps}
use Rattle.bare_ties.proofs.Stepping.{up_with, settled_held}

-- what an opening that failed has left
record Leaves (id : NodeId) (t : Told) (stood : Possible) : Type 0 where
  left : Possible
  may : MayLeave stood left
  ties : DownTies id t stood left

module _ (config : Config) (id : NodeId) (image : Areas) (p : Possible) (plan : Plan) (w : World) (limits : config.journal < 2 ^ 32) (small : p.state.epoch < 2 ^ 32) (here : IsNode config id) (a : StandsFor id p image) where
  abbrev work : List Op
  work = (opening config id image).work

  abbrev left_disk : Sim
  left_disk = (ran work (restarted image plan)).disk

  -- some of its calls were made
  leaves : Leaves id left_disk.told p
  leaves = elim (eqb_tells p.state.epoch (2 ^ 32 - 1)) [
    | inl alike ↦ record {
      left = p;
      may = record { epoch = inl refl; rings = refl; newest = refl };
      ties = record {
        images = subst (λ (t : Told). AllStandFor id t p p) (sym some.1) (opening_last config id image p limits small a alike.1 some.0);
        before = small;
        after = small;
      };
    }
    | inr other ↦ record {
      left = raised p;
      may = record { epoch = inr refl; rings = refl; newest = refl };
      ties = record {
        images = subst (λ (t : Told). AllStandFor id t p (raised p)) (sym some.1) (opening_stopped config id image p limits small a some.0);
        before = small;
        after = more p.state.epoch small other.1;
      };
    }
  ]
    where
      some : (j : ℕ) × (left_disk.told ≡ and_then (begun image) (take j (opening_calls config id image)))
      some = some_told work (restarted image plan)

      more : (n : ℕ) → n < 2 ^ 32 → n ≢ 2 ^ 32 - 1 → n + 1 < 2 ^ 32
      more n low differs = omega arith

  -- all of them were
  opened_up : (kept : Kept) → (opening config id image).result ≡ Ok kept → (ran work (restarted image plan)).done ≡ true
      → UpTies config id (opened config id kept.journal kept.checkpoints).view (settled left_disk.told.calls left_disk).told
  opened_up kept is all =
      let has = opening_opened config id image p limits small a kept is in
      let goes = opened_keeps config id kept.journal kept.checkpoints in
      up_with config id (opened config id kept.journal kept.checkpoints).view kept.journal kept.checkpoints (settled left_disk.told.calls left_disk).told goes.journals goes.newest
      (record { node = has.node; limit = has.limit; epoch = subst (λ (s : State). s.epoch < 2 ^ 32) (sym has.state) has.room })
      (settled_held kept.journal kept.checkpoints left_disk.told.calls left_disk
      (subst (λ (t : Told). IsHeld kept.journal kept.checkpoints t) (sym (all_told work (restarted image plan) all)) has.held))

  may_open : (kept : Kept) → (opening config id image).result ≡ Ok kept → MayOpen config id p kept.journal kept.checkpoints
  may_open kept is =
      let has = opening_opened config id image p limits small a kept is in
      record {
        node = here;
        epoch = ap (λ (s : State). s.epoch) has.state;
        rings = ap (λ (s : State). s.rings) has.state;
        newest = has.newest;
        readable = λ partition newest there stands. has.readable partition newest there (sym has.newest ∙ stands);
      }

  pub open_ends : OpenEnds config id p w (opens config id (restarted image plan) w)
  open_ends = by (ran work (restarted image plan)).done refl (opening config id image).result refl
    where
      by : (done : Bool) → (ran work (restarted image plan)).done ≡ done → (result : Result Kept Cause) → (opening config id image).result ≡ result
          → OpenEnds config id p w (opened_where config id result left_disk done w)
      by false some result is = Failed left_disk.told (cause_of left_disk) leaves.left refl leaves.may leaves.ties
      by true all (Err cause) is = Failed left_disk.told cause leaves.left refl leaves.may leaves.ties
      by true all (Ok kept) is = Opened kept (settled left_disk.told.calls left_disk) refl (may_open kept is) (opened_up kept is all)

-- the state on which it opens is chosen as it comes back
pub comes_back_ends : (config : Config) (id : NodeId) (told : Told) (plan : Plan) (durable pending : Possible) (image : Areas) (w : World) → config.journal < 2 ^ 32 → IsNode config id
    → DownTies id told durable pending → IsImage told image → (after : Bool) × OpenEnds config id (chosen after durable pending) w (comes_back config id (λ t. image) (Some (Down told plan)) w)
comes_back_ends config id told plan durable pending image w limits here ties is = by (ties.images image is)
  where
    by : StandsFor id durable image ⊎ StandsFor id pending image → (after : Bool) × OpenEnds config id (chosen after durable pending) w (comes_back config id (λ t. image) (Some (Down told plan)) w)
    by (inl stands) = (false, open_ends config id image durable plan w limits ties.before here stands)
    by (inr stands) = (true, open_ends config id image pending plan w limits ties.after here stands)
