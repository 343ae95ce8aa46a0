-- A compaction makes eight calls, and what it leaves stands for the same votes.
use Rattle.std.specs.Prelude.{List, [], ◌∷◌}
use Rattle.mrp_types.specs.declared.value.Value.TheVariants as value
use Rattle.command_codec.specs.declared.command.Command.TheVariants as command
use Rattle.disk_model.specs.declared.area.Image.TheVariants as image
use Rattle.protocol.specs.Lines.{Line}
use Rattle.protocol.specs.Lines as line
use Rattle.world_model.specs.Events.{ScheduleEvent}
use Rattle.world_model.specs.Events as event
use Rattle.protocol_rows.specs.Words.{node, ring, client, log}

abbrev pub schedule : List ScheduleEvent
schedule =
    event.Lead (node 0) (ring 0) ∷
    event.Ask (client 0) (command.Append (log 0) (97 ∷ [])) ∷
    event.Flow 2 ∷
    event.Ask (client 0) (command.Append (log 0) (98 ∷ [])) ∷
    event.Flow 2 ∷
    event.Ask (client 0) (command.Append (log 0) (99 ∷ [])) ∷
    event.Flow 2 ∷
    event.Fuse (node 0) 8 ∷
    event.TickNode (node 0) ∷
    event.Lead (node 0) (ring 0) ∷
    event.Restart (node 0) image.Old ∷
    event.Lead (node 0) (ring 0) ∷
    []

abbrev pub lines : List Line
lines =
    line.Up (node 0) 1 ∷
    line.Begin (node 0) 1 1 (0 ∷ []) ∷
    line.Chose (node 0) 1 1 (0 ∷ []) (node 0) ∷
    line.Restore (node 0) (0 ∷ []) ∷
    line.Learn (node 0) (ring 0) 0 1 (value.Batch (1 ∷ 0 ∷ 1 ∷ 0 ∷ 0 ∷ 0 ∷ 0 ∷ 0 ∷ 0 ∷ 0 ∷ 0 ∷ 1 ∷ 0 ∷ 5 ∷ 1 ∷ 0 ∷ 0 ∷ 1 ∷ 97 ∷ [])) ∷
    line.Deliver (node 0) (ring 0) 0 ∷
    line.Reply (node 0) (ring 0) 0 0 (client 0) 1 (1 ∷ 1 ∷ 0 ∷ 0 ∷ 0 ∷ 0 ∷ 0 ∷ 0 ∷ 0 ∷ 0 ∷ 0 ∷ []) ∷
    line.Answer (client 0) 1 (1 ∷ 1 ∷ 0 ∷ 0 ∷ 0 ∷ 0 ∷ 0 ∷ 0 ∷ 0 ∷ 0 ∷ 0 ∷ []) ∷
    line.Learn (node 0) (ring 0) 1 2 (value.Batch (1 ∷ 0 ∷ 1 ∷ 0 ∷ 0 ∷ 0 ∷ 0 ∷ 0 ∷ 0 ∷ 0 ∷ 0 ∷ 2 ∷ 0 ∷ 5 ∷ 1 ∷ 0 ∷ 0 ∷ 1 ∷ 98 ∷ [])) ∷
    line.Deliver (node 0) (ring 0) 1 ∷
    line.Reply (node 0) (ring 0) 1 0 (client 0) 2 (1 ∷ 1 ∷ 0 ∷ 0 ∷ 0 ∷ 0 ∷ 0 ∷ 0 ∷ 0 ∷ 0 ∷ 1 ∷ []) ∷
    line.Answer (client 0) 2 (1 ∷ 1 ∷ 0 ∷ 0 ∷ 0 ∷ 0 ∷ 0 ∷ 0 ∷ 0 ∷ 0 ∷ 1 ∷ []) ∷
    line.Learn (node 0) (ring 0) 2 3 (value.Batch (1 ∷ 0 ∷ 1 ∷ 0 ∷ 0 ∷ 0 ∷ 0 ∷ 0 ∷ 0 ∷ 0 ∷ 0 ∷ 3 ∷ 0 ∷ 5 ∷ 1 ∷ 0 ∷ 0 ∷ 1 ∷ 99 ∷ [])) ∷
    line.Deliver (node 0) (ring 0) 2 ∷
    line.Reply (node 0) (ring 0) 2 0 (client 0) 3 (1 ∷ 1 ∷ 0 ∷ 0 ∷ 0 ∷ 0 ∷ 0 ∷ 0 ∷ 0 ∷ 0 ∷ 2 ∷ []) ∷
    line.Answer (client 0) 3 (1 ∷ 1 ∷ 0 ∷ 0 ∷ 0 ∷ 0 ∷ 0 ∷ 0 ∷ 0 ∷ 0 ∷ 2 ∷ []) ∷
    line.Down (node 0) line.Crash ∷
    line.Up (node 0) 2 ∷
    line.Begin (node 0) 2 1 (0 ∷ []) ∷
    line.Chose (node 0) 2 1 (0 ∷ []) (node 0) ∷
    line.Restore (node 0) (0 ∷ []) ∷
    line.Learn (node 0) (ring 0) 0 1 (value.Batch (1 ∷ 0 ∷ 1 ∷ 0 ∷ 0 ∷ 0 ∷ 0 ∷ 0 ∷ 0 ∷ 0 ∷ 0 ∷ 1 ∷ 0 ∷ 5 ∷ 1 ∷ 0 ∷ 0 ∷ 1 ∷ 97 ∷ [])) ∷
    line.Deliver (node 0) (ring 0) 0 ∷
    line.Reply (node 0) (ring 0) 0 0 (client 0) 1 (1 ∷ 1 ∷ 0 ∷ 0 ∷ 0 ∷ 0 ∷ 0 ∷ 0 ∷ 0 ∷ 0 ∷ 0 ∷ []) ∷
    line.Learn (node 0) (ring 0) 1 2 (value.Batch (1 ∷ 0 ∷ 1 ∷ 0 ∷ 0 ∷ 0 ∷ 0 ∷ 0 ∷ 0 ∷ 0 ∷ 0 ∷ 2 ∷ 0 ∷ 5 ∷ 1 ∷ 0 ∷ 0 ∷ 1 ∷ 98 ∷ [])) ∷
    line.Deliver (node 0) (ring 0) 1 ∷
    line.Reply (node 0) (ring 0) 1 0 (client 0) 2 (1 ∷ 1 ∷ 0 ∷ 0 ∷ 0 ∷ 0 ∷ 0 ∷ 0 ∷ 0 ∷ 0 ∷ 1 ∷ []) ∷
    line.Learn (node 0) (ring 0) 2 3 (value.Batch (1 ∷ 0 ∷ 1 ∷ 0 ∷ 0 ∷ 0 ∷ 0 ∷ 0 ∷ 0 ∷ 0 ∷ 0 ∷ 3 ∷ 0 ∷ 5 ∷ 1 ∷ 0 ∷ 0 ∷ 1 ∷ 99 ∷ [])) ∷
    line.Deliver (node 0) (ring 0) 2 ∷
    line.Reply (node 0) (ring 0) 2 0 (client 0) 3 (1 ∷ 1 ∷ 0 ∷ 0 ∷ 0 ∷ 0 ∷ 0 ∷ 0 ∷ 0 ∷ 0 ∷ 2 ∷ []) ∷
    line.End 12 ∷
    []
