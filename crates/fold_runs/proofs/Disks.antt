-- A run on disks prints the lines of a run without bytes, and each image stands for a state that such a run may leave.
use Rattle.std.proofs.Common.{◌≡◌, List, [], Option, Some, subst}
use Rattle.std.specs.List.{AllByRecursion}
use Rattle.mrp_types.specs.declared.id.NodeId.{NodeId}
use Rattle.mrp_config.specs.Config.{Config}
use Rattle.mrp_config.specs.Valid.{IsValid}
use Rattle.disk_model.specs.declared.areas.Areas.{Areas}
use Rattle.disk_model.specs.Calls.{IsImage}
use Rattle.protocol.specs.Lines.{Line}
use Rattle.world_model.specs.Runs.{Happening, IsRun, run_of}
use Rattle.world_model.specs.Worlds.{Host, node_at}
use Rattle.line_runs.specs.Laws as bare
use Rattle.disk_runs.specs.Runs.{Fits, GoesOn, NodeTies, world_after}
use Rattle.disk_runs.proofs.Whole.{run_goes}
use Rattle.disk_runs.proofs.Works.{all_work}
use Rattle.disk_keeps.specs.Kept.{told_of}
use Rattle.disk_keeps.proofs.Keeping.{stood}
use Rattle.state_runs.proofs.Laws.{all_paid, checkpoint_at}
use Rattle.state_runs.proofs.Named.{line_rule}
use Rattle.state_runs.proofs.Showing.{state_line}
use Rattle.answer_runs.proofs.Laws.{answer_line}
use Rattle.fold_runs.specs.Folds.{AreFolds, HasStateAt, ImagesHaveStates}

module _ (config : Config) (valid : IsValid config) (xs : List Happening) (is : IsRun config xs) (fits : AllByRecursion (Fits config) xs) where
  goes : GoesOn config [] (run_of config xs)
  goes = run_goes config valid (all_work config valid) xs is fits

  bare_run : bare.IsRun config goes.more
  bare_run = record { valid = valid; may = goes.may }

  pub disk_folds : AreFolds config (run_of config xs).lines
  disk_folds =
      subst (λ (ls : List Line). AreFolds config ls) goes.lines
      (record { replies = line_rule config goes.more bare_run; paid = all_paid config goes.more bare_run; states = state_line config goes.more bare_run; answers = answer_line config goes.more bare_run })

  image_state : (id : NodeId) (host : Host) → node_at (run_of config xs).world id ≡ Some host → (image : Areas) → IsImage (told_of host) image → HasStateAt config (bare.lines_of config goes.more) id image
  image_state id host there image left =
      let s = stood config id host ((world_after config goes.more).hosts id.0) (subst (λ (o : Option Host). NodeTies config id o ((world_after config goes.more).hosts id.0)) there (goes.ties.nodes id)) image left in
      record { state = s.state; stands = s.stands; newest = λ p newest replica same. checkpoint_at config goes.more bare_run id.0 s.state p newest s.possible replica same }

  pub disk_images : ImagesHaveStates config (run_of config xs).lines (run_of config xs).world
  disk_images id host there image left = subst (λ (ls : List Line). HasStateAt config ls id image) goes.lines (image_state id host there image left)
