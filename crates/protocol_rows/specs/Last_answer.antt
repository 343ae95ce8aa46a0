-- An answer before the last tick of an attempt still counts.
use Rattle.std.specs.Prelude.{List, [], ◌∷◌}
use Rattle.protocol.specs.Lines.{Line}
use Rattle.protocol.specs.Lines as line
use Rattle.world_model.specs.Events.{ScheduleEvent}
use Rattle.world_model.specs.Events as event
use Rattle.protocol_rows.specs.Words.{node}

abbrev pub schedule : List ScheduleEvent
schedule =
    event.Deliver 0 ∷
    event.TickNode (node 0) ∷
    event.TickNode (node 0) ∷
    event.TickNode (node 0) ∷
    event.TickNode (node 0) ∷
    event.TickNode (node 0) ∷
    event.TickNode (node 0) ∷
    event.TickNode (node 0) ∷
    event.Deliver 6 ∷
    event.TickNode (node 0) ∷
    []

abbrev pub lines : List Line
lines =
    line.Up (node 0) 1 ∷
    line.Begin (node 0) 1 1 (0 ∷ []) ∷
    line.Up (node 1) 1 ∷
    line.Begin (node 1) 1 1 (0 ∷ []) ∷
    line.Up (node 2) 1 ∷
    line.Begin (node 2) 1 1 (0 ∷ []) ∷
    line.Chose (node 0) 1 1 (0 ∷ []) (node 0) ∷
    line.Restore (node 0) (0 ∷ []) ∷
    line.End 10 ∷
    []
