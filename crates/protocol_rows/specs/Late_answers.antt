-- A replica that came back takes no answer that was meant for its earlier attempt.
use Rattle.std.specs.Prelude.{List, [], ◌∷◌, None}
use Rattle.disk_model.specs.declared.area.Image.TheVariants as image
use Rattle.protocol.specs.Lines.{Line}
use Rattle.protocol.specs.Lines as line
use Rattle.world_model.specs.Events.{ScheduleEvent}
use Rattle.world_model.specs.Events as event
use Rattle.protocol_rows.specs.Words.{node}

abbrev pub schedule : List ScheduleEvent
schedule =
    event.Deliver 2 ∷
    event.Crash (node 1) ∷
    event.Restart (node 1) image.New ∷
    event.Deliver 6 ∷
    event.Show (node 1) ∷
    event.Deliver 7 ∷
    event.Deliver 9 ∷
    []

abbrev pub lines : List Line
lines =
    line.Up (node 0) 1 ∷
    line.Begin (node 0) 1 1 (0 ∷ []) ∷
    line.Up (node 1) 1 ∷
    line.Begin (node 1) 1 1 (0 ∷ []) ∷
    line.Up (node 2) 1 ∷
    line.Begin (node 2) 1 1 (0 ∷ []) ∷
    line.Down (node 1) line.Crash ∷
    line.Up (node 1) 2 ∷
    line.Begin (node 1) 2 1 (0 ∷ []) ∷
    line.State (node 1) None ∷
    line.Chose (node 1) 2 1 (0 ∷ []) (node 1) ∷
    line.Restore (node 1) (0 ∷ []) ∷
    line.End 7 ∷
    []
