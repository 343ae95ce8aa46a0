-- What is printed of a schedule.
use Rattle.std.specs.Prelude.{List, [], ◌∷◌, ◌++◌, length}
use Rattle.mrp_config.specs.Config.{Config}
use Rattle.protocol.specs.Lines.{Line, End}
use Rattle.world_model.specs.Events.{ScheduleEvent}
use Rattle.world_model.specs.Worlds.{World, Outcome, happens, started}

-- the lines so far, and then those of what follows
abbrev pub then_lines : Outcome → (World → List Line) → List Line
then_lines o more = o.lines ++ more o.world

-- the lines of all events, one after another
abbrev pub lines_from : Config → List ScheduleEvent → World → List Line
lines_from config [] w = []
lines_from config (event ∷ events) w = then_lines (happens config event w) (λ next. lines_from config events next)

-- The lines of a schedule: those of the openings, those of the events in order, and how many events there were.
unfoldable pub trace : Config → List ScheduleEvent → List Line
trace config events = then_lines (started config) (λ w. lines_from config events w ++ End (length events) ∷ [])
