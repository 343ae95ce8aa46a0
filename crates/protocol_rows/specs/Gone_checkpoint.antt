-- A checkpoint that was chosen is gone when its bytes are asked for, and the newer one takes its place.
use Rattle.std.specs.Prelude.{List, [], ◌∷◌, Some}
use Rattle.mrp_types.specs.declared.id.Party.TheVariants.{Node}
use Rattle.mrp_types.specs.declared.value.Value.TheVariants as value
use Rattle.command_codec.specs.declared.command.Command.TheVariants as command
use Rattle.disk_model.specs.declared.area.Image.TheVariants as image
use Rattle.protocol.specs.Lines.{Line}
use Rattle.protocol.specs.Lines as line
use Rattle.world_model.specs.Events.{ScheduleEvent}
use Rattle.world_model.specs.Events as event
use Rattle.protocol_rows.specs.Words.{node, ring, client, log}

abbrev pub schedule : List ScheduleEvent
schedule =
    event.Flow 100 ∷
    event.Lead (node 0) (ring 0) ∷
    event.Flow 100 ∷
    event.Ask (client 0) (command.Append (log 0) (104 ∷ 105 ∷ [])) ∷
    event.Flow 100 ∷
    event.Ask (client 0) (command.Append (log 0) (111 ∷ 107 ∷ [])) ∷
    event.Flow 100 ∷
    event.TickNode (node 1) ∷
    event.Crash (node 2) ∷
    event.Restart (node 2) image.New ∷
    event.Deliver 31 ∷
    event.Deliver 32 ∷
    event.Lose 4 ∷
    event.Ask (client 0) (command.Append (log 0) (97 ∷ [])) ∷
    event.Flow 100 ∷
    event.Ask (client 0) (command.Append (log 0) (98 ∷ [])) ∷
    event.Flow 100 ∷
    event.TickNode (node 1) ∷
    event.Deliver 33 ∷
    event.List 46 ∷
    event.Deliver 46 ∷
    event.List 47 ∷
    event.Deliver 47 ∷
    event.Deliver 48 ∷
    event.Show (node 2) ∷
    []

abbrev pub lines : List Line
lines =
    line.Up (node 0) 1 ∷
    line.Begin (node 0) 1 1 (0 ∷ []) ∷
    line.Up (node 1) 1 ∷
    line.Begin (node 1) 1 1 (0 ∷ []) ∷
    line.Up (node 2) 1 ∷
    line.Begin (node 2) 1 1 (0 ∷ []) ∷
    line.Chose (node 0) 1 1 (0 ∷ []) (node 0) ∷
    line.Restore (node 0) (0 ∷ []) ∷
    line.Chose (node 1) 1 1 (0 ∷ []) (node 1) ∷
    line.Restore (node 1) (0 ∷ []) ∷
    line.Chose (node 2) 1 1 (0 ∷ []) (node 2) ∷
    line.Restore (node 2) (0 ∷ []) ∷
    line.Learn (node 1) (ring 0) 0 1 (value.Batch (1 ∷ 0 ∷ 1 ∷ 0 ∷ 0 ∷ 0 ∷ 0 ∷ 0 ∷ 0 ∷ 0 ∷ 0 ∷ 1 ∷ 0 ∷ 6 ∷ 1 ∷ 0 ∷ 0 ∷ 2 ∷ 104 ∷ 105 ∷ [])) ∷
    line.Deliver (node 1) (ring 0) 0 ∷
    line.Reply (node 1) (ring 0) 0 0 (client 0) 1 (1 ∷ 1 ∷ 0 ∷ 0 ∷ 0 ∷ 0 ∷ 0 ∷ 0 ∷ 0 ∷ 0 ∷ 0 ∷ []) ∷
    line.Learn (node 2) (ring 0) 0 1 (value.Batch (1 ∷ 0 ∷ 1 ∷ 0 ∷ 0 ∷ 0 ∷ 0 ∷ 0 ∷ 0 ∷ 0 ∷ 0 ∷ 1 ∷ 0 ∷ 6 ∷ 1 ∷ 0 ∷ 0 ∷ 2 ∷ 104 ∷ 105 ∷ [])) ∷
    line.Deliver (node 2) (ring 0) 0 ∷
    line.Reply (node 2) (ring 0) 0 0 (client 0) 1 (1 ∷ 1 ∷ 0 ∷ 0 ∷ 0 ∷ 0 ∷ 0 ∷ 0 ∷ 0 ∷ 0 ∷ 0 ∷ []) ∷
    line.Answer (client 0) 1 (1 ∷ 1 ∷ 0 ∷ 0 ∷ 0 ∷ 0 ∷ 0 ∷ 0 ∷ 0 ∷ 0 ∷ 0 ∷ []) ∷
    line.Learn (node 0) (ring 0) 0 1 (value.Batch (1 ∷ 0 ∷ 1 ∷ 0 ∷ 0 ∷ 0 ∷ 0 ∷ 0 ∷ 0 ∷ 0 ∷ 0 ∷ 1 ∷ 0 ∷ 6 ∷ 1 ∷ 0 ∷ 0 ∷ 2 ∷ 104 ∷ 105 ∷ [])) ∷
    line.Deliver (node 0) (ring 0) 0 ∷
    line.Reply (node 0) (ring 0) 0 0 (client 0) 1 (1 ∷ 1 ∷ 0 ∷ 0 ∷ 0 ∷ 0 ∷ 0 ∷ 0 ∷ 0 ∷ 0 ∷ 0 ∷ []) ∷
    line.Learn (node 1) (ring 0) 1 2 (value.Batch (1 ∷ 0 ∷ 1 ∷ 0 ∷ 0 ∷ 0 ∷ 0 ∷ 0 ∷ 0 ∷ 0 ∷ 0 ∷ 2 ∷ 0 ∷ 6 ∷ 1 ∷ 0 ∷ 0 ∷ 2 ∷ 111 ∷ 107 ∷ [])) ∷
    line.Deliver (node 1) (ring 0) 1 ∷
    line.Reply (node 1) (ring 0) 1 0 (client 0) 2 (1 ∷ 1 ∷ 0 ∷ 0 ∷ 0 ∷ 0 ∷ 0 ∷ 0 ∷ 0 ∷ 0 ∷ 1 ∷ []) ∷
    line.Learn (node 2) (ring 0) 1 2 (value.Batch (1 ∷ 0 ∷ 1 ∷ 0 ∷ 0 ∷ 0 ∷ 0 ∷ 0 ∷ 0 ∷ 0 ∷ 0 ∷ 2 ∷ 0 ∷ 6 ∷ 1 ∷ 0 ∷ 0 ∷ 2 ∷ 111 ∷ 107 ∷ [])) ∷
    line.Deliver (node 2) (ring 0) 1 ∷
    line.Reply (node 2) (ring 0) 1 0 (client 0) 2 (1 ∷ 1 ∷ 0 ∷ 0 ∷ 0 ∷ 0 ∷ 0 ∷ 0 ∷ 0 ∷ 0 ∷ 1 ∷ []) ∷
    line.Answer (client 0) 2 (1 ∷ 1 ∷ 0 ∷ 0 ∷ 0 ∷ 0 ∷ 0 ∷ 0 ∷ 0 ∷ 0 ∷ 1 ∷ []) ∷
    line.Learn (node 0) (ring 0) 1 2 (value.Batch (1 ∷ 0 ∷ 1 ∷ 0 ∷ 0 ∷ 0 ∷ 0 ∷ 0 ∷ 0 ∷ 0 ∷ 0 ∷ 2 ∷ 0 ∷ 6 ∷ 1 ∷ 0 ∷ 0 ∷ 2 ∷ 111 ∷ 107 ∷ [])) ∷
    line.Deliver (node 0) (ring 0) 1 ∷
    line.Reply (node 0) (ring 0) 1 0 (client 0) 2 (1 ∷ 1 ∷ 0 ∷ 0 ∷ 0 ∷ 0 ∷ 0 ∷ 0 ∷ 0 ∷ 0 ∷ 1 ∷ []) ∷
    line.Saved (node 1) (2 ∷ []) ∷
    line.Down (node 2) line.Crash ∷
    line.Up (node 2) 2 ∷
    line.Begin (node 2) 2 1 (0 ∷ []) ∷
    line.Chose (node 2) 2 1 (2 ∷ []) (node 1) ∷
    line.Learn (node 1) (ring 0) 2 3 (value.Batch (1 ∷ 0 ∷ 1 ∷ 0 ∷ 0 ∷ 0 ∷ 0 ∷ 0 ∷ 0 ∷ 0 ∷ 0 ∷ 3 ∷ 0 ∷ 5 ∷ 1 ∷ 0 ∷ 0 ∷ 1 ∷ 97 ∷ [])) ∷
    line.Deliver (node 1) (ring 0) 2 ∷
    line.Reply (node 1) (ring 0) 2 0 (client 0) 3 (1 ∷ 1 ∷ 0 ∷ 0 ∷ 0 ∷ 0 ∷ 0 ∷ 0 ∷ 0 ∷ 0 ∷ 2 ∷ []) ∷
    line.Learn (node 2) (ring 0) 2 3 (value.Batch (1 ∷ 0 ∷ 1 ∷ 0 ∷ 0 ∷ 0 ∷ 0 ∷ 0 ∷ 0 ∷ 0 ∷ 0 ∷ 3 ∷ 0 ∷ 5 ∷ 1 ∷ 0 ∷ 0 ∷ 1 ∷ 97 ∷ [])) ∷
    line.Answer (client 0) 3 (1 ∷ 1 ∷ 0 ∷ 0 ∷ 0 ∷ 0 ∷ 0 ∷ 0 ∷ 0 ∷ 0 ∷ 2 ∷ []) ∷
    line.Learn (node 0) (ring 0) 2 3 (value.Batch (1 ∷ 0 ∷ 1 ∷ 0 ∷ 0 ∷ 0 ∷ 0 ∷ 0 ∷ 0 ∷ 0 ∷ 0 ∷ 3 ∷ 0 ∷ 5 ∷ 1 ∷ 0 ∷ 0 ∷ 1 ∷ 97 ∷ [])) ∷
    line.Deliver (node 0) (ring 0) 2 ∷
    line.Reply (node 0) (ring 0) 2 0 (client 0) 3 (1 ∷ 1 ∷ 0 ∷ 0 ∷ 0 ∷ 0 ∷ 0 ∷ 0 ∷ 0 ∷ 0 ∷ 2 ∷ []) ∷
    line.Learn (node 1) (ring 0) 3 4 (value.Batch (1 ∷ 0 ∷ 1 ∷ 0 ∷ 0 ∷ 0 ∷ 0 ∷ 0 ∷ 0 ∷ 0 ∷ 0 ∷ 4 ∷ 0 ∷ 5 ∷ 1 ∷ 0 ∷ 0 ∷ 1 ∷ 98 ∷ [])) ∷
    line.Deliver (node 1) (ring 0) 3 ∷
    line.Reply (node 1) (ring 0) 3 0 (client 0) 4 (1 ∷ 1 ∷ 0 ∷ 0 ∷ 0 ∷ 0 ∷ 0 ∷ 0 ∷ 0 ∷ 0 ∷ 3 ∷ []) ∷
    line.Learn (node 2) (ring 0) 3 4 (value.Batch (1 ∷ 0 ∷ 1 ∷ 0 ∷ 0 ∷ 0 ∷ 0 ∷ 0 ∷ 0 ∷ 0 ∷ 0 ∷ 4 ∷ 0 ∷ 5 ∷ 1 ∷ 0 ∷ 0 ∷ 1 ∷ 98 ∷ [])) ∷
    line.Answer (client 0) 4 (1 ∷ 1 ∷ 0 ∷ 0 ∷ 0 ∷ 0 ∷ 0 ∷ 0 ∷ 0 ∷ 0 ∷ 3 ∷ []) ∷
    line.Learn (node 0) (ring 0) 3 4 (value.Batch (1 ∷ 0 ∷ 1 ∷ 0 ∷ 0 ∷ 0 ∷ 0 ∷ 0 ∷ 0 ∷ 0 ∷ 0 ∷ 4 ∷ 0 ∷ 5 ∷ 1 ∷ 0 ∷ 0 ∷ 1 ∷ 98 ∷ [])) ∷
    line.Deliver (node 0) (ring 0) 3 ∷
    line.Reply (node 0) (ring 0) 3 0 (client 0) 4 (1 ∷ 1 ∷ 0 ∷ 0 ∷ 0 ∷ 0 ∷ 0 ∷ 0 ∷ 0 ∷ 0 ∷ 3 ∷ []) ∷
    line.Saved (node 1) (4 ∷ []) ∷
    line.Frame 46 (Some (record { from = Node (node 1); to = Node (node 2); bytes = 77 ∷ 82 ∷ 2 ∷ 17 ∷ 0 ∷ 1 ∷ 0 ∷ 0 ∷ 0 ∷ 2 ∷ 0 ∷ 0 ∷ 0 ∷ 1 ∷ 1 ∷ 0 ∷ 0 ∷ 0 ∷ 0 ∷ 0 ∷ 0 ∷ 0 ∷ 0 ∷ 2 ∷ 1 ∷ 0 ∷ 0 ∷ 0 ∷ 0 ∷ 0 ∷ 0 ∷ 0 ∷ 0 ∷ 4 ∷ [] })) ∷
    line.Chose (node 2) 2 1 (4 ∷ []) (node 1) ∷
    line.Frame 47 (Some (record { from = Node (node 2); to = Node (node 1); bytes = 77 ∷ 82 ∷ 2 ∷ 15 ∷ 0 ∷ 2 ∷ 0 ∷ 0 ∷ 0 ∷ 2 ∷ 0 ∷ 0 ∷ 0 ∷ 1 ∷ 1 ∷ 0 ∷ 0 ∷ 0 ∷ 0 ∷ 0 ∷ 0 ∷ 0 ∷ 0 ∷ 4 ∷ 0 ∷ 0 ∷ 0 ∷ 0 ∷ 0 ∷ 0 ∷ 0 ∷ 0 ∷ [] })) ∷
    line.Restore (node 2) (4 ∷ []) ∷
    line.State (node 2) (Some (record { tuple = 4 ∷ []; bytes = 0 ∷ 1 ∷ 0 ∷ 0 ∷ 0 ∷ 0 ∷ 0 ∷ 0 ∷ 0 ∷ 0 ∷ 4 ∷ 0 ∷ 0 ∷ 0 ∷ 11 ∷ 1 ∷ 1 ∷ 0 ∷ 0 ∷ 0 ∷ 0 ∷ 0 ∷ 0 ∷ 0 ∷ 0 ∷ 3 ∷ 1 ∷ 0 ∷ 0 ∷ 0 ∷ 0 ∷ 0 ∷ 0 ∷ 0 ∷ 0 ∷ 0 ∷ 0 ∷ 0 ∷ 0 ∷ 0 ∷ 0 ∷ 0 ∷ 0 ∷ 4 ∷ 0 ∷ 2 ∷ 104 ∷ 105 ∷ 0 ∷ 2 ∷ 111 ∷ 107 ∷ 0 ∷ 1 ∷ 97 ∷ 0 ∷ 1 ∷ 98 ∷ 0 ∷ 0 ∷ 0 ∷ 0 ∷ 0 ∷ 0 ∷ 0 ∷ 0 ∷ [] })) ∷
    line.End 25 ∷
    []
