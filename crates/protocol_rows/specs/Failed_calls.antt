-- Disks that fail a change or a read, at a node that is up and at one that opens.
use Rattle.std.specs.Prelude.{List, [], ◌∷◌}
use Rattle.disk_model.specs.declared.area.Image.TheVariants as image
use Rattle.protocol.specs.Lines.{Line}
use Rattle.protocol.specs.Lines as line
use Rattle.world_model.specs.Events.{ScheduleEvent}
use Rattle.world_model.specs.Events as event
use Rattle.protocol_rows.specs.Words.{node, ring}

abbrev pub schedule : List ScheduleEvent
schedule =
    event.Crash (node 1) ∷
    event.FailRead (node 1) 0 ∷
    event.Restart (node 1) image.New ∷
    event.Fail (node 1) 0 ∷
    event.Restart (node 1) image.Old ∷
    event.Restart (node 1) image.Old ∷
    event.Fail (node 0) 1 ∷
    event.Lead (node 0) (ring 0) ∷
    event.Restart (node 0) image.New ∷
    []

abbrev pub lines : List Line
lines =
    line.Up (node 0) 1 ∷
    line.Begin (node 0) 1 1 (0 ∷ []) ∷
    line.Up (node 1) 1 ∷
    line.Begin (node 1) 1 1 (0 ∷ []) ∷
    line.Up (node 2) 1 ∷
    line.Begin (node 2) 1 1 (0 ∷ []) ∷
    line.Down (node 1) line.Crash ∷
    line.Down (node 1) line.Disk ∷
    line.Down (node 1) line.Disk ∷
    line.Up (node 1) 2 ∷
    line.Begin (node 1) 2 1 (0 ∷ []) ∷
    line.Down (node 0) line.Disk ∷
    line.Up (node 0) 2 ∷
    line.Begin (node 0) 2 1 (0 ∷ []) ∷
    line.End 9 ∷
    []
