-- What a schedule prints is what its run prints, and the images of its restarts may be left.
use Rattle.std.proofs.Common.{◌≡◌, List, [], ◌∷◌, ◌++◌, length, map, refl, ap, sym, ◌∙◌}
use Rattle.std.specs.List.{AllByRecursion}
use Rattle.std.proofs.lemmas.List.{append_assoc}
use Rattle.disk_model.specs.declared.area.Area.TheVariants.{Journal0, Journal1, Check2, Check3}
use Rattle.disk_model.specs.declared.area.Image.{Image}
use Rattle.disk_model.specs.Calls.{Told, IsImage, kept}
use Rattle.disk_model.specs.Crash.{left_by}
use Rattle.disk_model.proofs.CrashLaws.{left_can}
use Rattle.mrp_config.specs.Config.{Config}
use Rattle.protocol.specs.Lines.{End}
use Rattle.world_model.specs.Events.{ScheduleEvent}
use Rattle.world_model.specs.Worlds.{World, happens, started}
use Rattle.world_model.specs.Runs.{Scheduled, MayBeScheduled, MayRun, outcome_of, ran_from, run_of}
use Rattle.world_model.specs.Trace.{trace, lines_from}

pub may_be : (image : Image) (t : Told) → IsImage t (left_by image t)
may_be image t Journal0 = left_can image (kept Journal0 t)
may_be image t Journal1 = left_can image (kept Journal1 t)
may_be image t Check2 = left_can image (kept Check2 t)
may_be image t Check3 = left_can image (kept Check3 t)

same_lines : (config : Config) (events : List ScheduleEvent) (w : World) → lines_from config events w ≡ (ran_from config (map Scheduled events) w).lines
same_lines config [] w = refl
same_lines config (event ∷ events) w = ap (λ lines. (happens config event w).lines ++ lines) (same_lines config events (happens config event w).world)

pub may_run : (config : Config) (events : List ScheduleEvent) (w : World) → AllByRecursion MayBeScheduled events → MayRun config (map Scheduled events) w
may_run config [] w may = tt
may_run config (event ∷ events) w may = (may.0, may_run config events (outcome_of config (Scheduled event) w).world may.1)

pub trace_is : (config : Config) (events : List ScheduleEvent) → trace config events ≡ (run_of config (map Scheduled events)).lines ++ End (length events) ∷ []
unfolding trace
trace_is config events =
    ap (λ lines. (started config).lines ++ (lines ++ End (length events) ∷ [])) (same_lines config events (started config).world)
    ∙ sym (append_assoc (started config).lines (ran_from config (map Scheduled events) (started config).world).lines (End (length events) ∷ []))
