-- A step of a node on its disk, under any plan of faults.
use Rattle.std.proofs.Common.{◌≡◌, ◌<◌, ◌^◌, Bool, true, false, List, [], ◌∷◌, refl, ap, sym, ◌∙◌, subst}
use Rattle.std.specs.List.{AllByRecursion}
use Rattle.mrp_types.specs.declared.id.NodeId.{NodeId}
use Rattle.mrp_config.specs.Config.{Config}
use Rattle.disk_model.specs.declared.call.Call.{Call}
use Rattle.disk_model.specs.Calls.{Told}
use Rattle.disk_model.specs.Running.{Op, ran, changes_in}
use Rattle.disk_model.specs.Sim.{Sim}
use Rattle.disk_model.proofs.Running.{all_told, some_told}
use Rattle.vote_state.specs.declared.change.Change.{Change}
use Rattle.vote_state.specs.declared.change.Change.TheVariants.{Epoch, Promise, Vote, Trim}
use Rattle.vote_state.specs.State.{State, changed, taken}
use Rattle.vote_state.specs.Valid.{IsChange}
use Rattle.vote_journal.specs.Journal.{Journal}
use Rattle.checkpoint.specs.Checkpoints.{Checkpoints}
use Rattle.protocol.specs.Node.{View, Event, Stepped, Work, Nothing, Records, Saves, Compacts, ops_of, is_full}
use Rattle.protocol.specs.Step.{step}
use Rattle.bare_world.specs.Worlds.{Possible, possible_of}
use Rattle.world_model.specs.Disks.{cause_of, settled}
use Rattle.world_model.specs.Worlds.{World, worked, unless_full, stepped_as}
use Rattle.disk_states.specs.States.{AllStandFor, IsHeld, BringsAbout, possible_at}
use Rattle.disk_states.specs.Works.{MayWork, journal_after, checkpoints_after}
use Rattle.disk_states.proofs.Working.{held_images, held_anew, work_brings}
use Rattle.bare_ties.proofs.Changing.{ByWork, step_by}
use Rattle.bare_ties.specs.Ties.{UpTies, DownTies, StepEnds, Ended, Broke, Filled}

-- ---- the journal of a node

-- changes that may stand in a record leave an epoch of four bytes
taken_epoch : (cs : List Change) (s : State) → AllByRecursion IsChange cs → s.epoch < 2 ^ 32 → (taken cs s).epoch < 2 ^ 32
taken_epoch [] s each small = small
taken_epoch (Epoch epoch ∷ cs) s each small = taken_epoch cs (changed (Epoch epoch) s) each.1 each.0
taken_epoch (Promise ring ballot ∷ cs) s each small = taken_epoch cs (changed (Promise ring ballot) s) each.1 small
taken_epoch (Vote ring v ∷ cs) s each small = taken_epoch cs (changed (Vote ring v) s) each.1 small
taken_epoch (Trim ring inst ∷ cs) s each small = taken_epoch cs (changed (Trim ring inst) s) each.1 small

-- a node's own journal, of the deployment's limit
pub record IsOwn (config : Config) (id : NodeId) (j : Journal) : Type 0 where
  pub node : j.id ≡ id
  pub limit : j.log.limit ≡ config.journal
  pub epoch : j.state.epoch < 2 ^ 32

own_after : (config : Config) (id : NodeId) (view : View) (work : Work) → MayWork view work → IsOwn config id view.journal → IsOwn config id (journal_after view work)
own_after config id view Nothing may own = own
own_after config id view (Records []) may own = own
own_after config id view (Records (c ∷ cs)) may own = record { node = own.node; limit = own.limit; epoch = taken_epoch (c ∷ cs) view.journal.state may.each own.epoch }
own_after config id view (Saves tuple state) may own = own
own_after config id view Compacts may own = record { node = own.node; limit = own.limit; epoch = own.epoch }

-- a view with this journal and these checkpoints
pub up_with : (config : Config) (id : NodeId) (view : View) (j : Journal) (c : Checkpoints) (t : Told) → view.journal ≡ j → view.checkpoints ≡ c → IsOwn config id j → IsHeld j c t → UpTies config id view t
up_with config id view j c t journal checkpoints own held = record {
  held = subst (λ (x : Journal). IsHeld x view.checkpoints t) (sym journal) (subst (λ (x : Checkpoints). IsHeld j x t) (sym checkpoints) held);
  node = ap (λ (x : Journal). x.id) journal ∙ own.node;
  limit = ap (λ (x : Journal). x.log.limit) journal ∙ own.limit;
  epoch = subst (λ (x : Journal). x.state.epoch < 2 ^ 32) (sym journal) own.epoch;
}

-- a disk whose calls are forgotten
pub settled_held : (j : Journal) (c : Checkpoints) (calls : List Call) (disk : Sim) → IsHeld j c disk.told → IsHeld j c (settled calls disk).told
settled_held j c [] disk held = held
settled_held j c (x ∷ xs) disk held = held_anew j c disk.told held

-- a node that goes down between two steps
pub crashed : (config : Config) (id : NodeId) (view : View) (t : Told) → UpTies config id view t → DownTies id t (possible_of view) (possible_of view)
crashed config id view t ties = record {
  images = subst (λ (n : NodeId). AllStandFor n t (possible_of view) (possible_of view)) ties.node (held_images view.journal view.checkpoints t ties.held);
  before = ties.epoch;
  after = ties.epoch;
}

-- ---- a step

module _ (config : Config) (id : NodeId) (view : View) (disk : Sim) (made : Stepped) (w : World) (ties : UpTies config id view disk.told) (kept : ByWork view made)
    (work_may : is_full view made.work ≡ false → MayWork view made.work) where
  abbrev ops : List Op
  ops = ops_of view made.work disk.told

  abbrev left : Sim
  left = (ran ops disk).disk

  own : IsOwn config id view.journal
  own = record { node = ties.node; limit = ties.limit; epoch = ties.epoch }

  brought : MayWork view made.work → BringsAbout disk.told (changes_in ops) (possible_of view) (journal_after view made.work) (checkpoints_after view made.work)
  brought may = work_brings view made.work disk.told ties.held may

  -- all its work was done
  ended : MayWork view made.work → (ran ops disk).done ≡ true → UpTies config id made.view (settled (changes_in ops) left).told
  ended may all =
      up_with config id made.view (journal_after view made.work) (checkpoints_after view made.work) (settled (changes_in ops) left).told kept.journal kept.checkpoints
      (own_after config id view made.work may own)
      (settled_held (journal_after view made.work) (checkpoints_after view made.work) (changes_in ops) left
      (subst (λ (t : Told). IsHeld (journal_after view made.work) (checkpoints_after view made.work) t) (sym (all_told ops disk all)) (brought may).done))

  -- only some of it
  broke : MayWork view made.work → DownTies id left.told (possible_of view) (possible_of made.view)
  broke may =
      let j = journal_after view made.work in
      let c = checkpoints_after view made.work in
      let next : IsOwn config id (journal_after view made.work) = own_after config id view made.work may own in
      let some = some_told ops disk in
      let pending : possible_at (journal_after view made.work) (checkpoints_after view made.work) ≡ possible_of made.view =
      sym (ap (λ (x : Journal). possible_at x made.view.checkpoints) kept.journal ∙ ap (λ (x : Checkpoints). possible_at (journal_after view made.work) x) kept.checkpoints) in
      record {
        images =
            subst (λ (p : Possible). AllStandFor id left.told (possible_of view) p) pending
            (subst (λ (n : NodeId). AllStandFor n left.told (possible_of view) (possible_at j c)) next.node
            (subst (λ (t : Told). AllStandFor (journal_after view made.work).id t (possible_of view) (possible_at j c)) (sym some.1) ((brought may).stopped some.0)));
        before = ties.epoch;
        after = subst (λ (x : Journal). x.state.epoch < 2 ^ 32) (sym kept.journal) next.epoch;
      }

  step_ends : StepEnds config id view disk.told made w (stepped_as id view disk made w)
  step_ends = by (is_full view made.work) refl
    where
      run : MayWork view made.work → (done : Bool) → (ran ops disk).done ≡ done → StepEnds config id view disk.told made w (worked id made (changes_in ops) left done w)
      run may true all = Ended (settled (changes_in ops) left) refl (ended may all)
      run may false some = Broke left.told (cause_of left) refl (broke may)

      by : (full : Bool) → is_full view made.work ≡ full → StepEnds config id view disk.told made w (unless_full id view made disk full w)
      by true full = Filled refl (crashed config id view disk.told ties)
      by false room = run (work_may room) (ran ops disk).done refl

pub a_step : (config : Config) (id : NodeId) (view : View) (disk : Sim) (event : Event) (w : World) → UpTies config id view disk.told
    → (is_full view (step config view event).work ≡ false → MayWork view (step config view event).work)
    → StepEnds config id view disk.told (step config view event) w (stepped_as id view disk (step config view event) w)
a_step config id view disk event w ties may = step_ends config id view disk (step config view event) w ties (step_by config view event) may
