-- The same, and the frames of the round are printed.
use Rattle.std.specs.Prelude.{List, [], ◌∷◌, Some, None}
use Rattle.mrp_types.specs.declared.id.Party.TheVariants.{Node}
use Rattle.mrp_types.specs.declared.value.Value.TheVariants as value
use Rattle.command_codec.specs.declared.command.Command.TheVariants as command
use Rattle.protocol.specs.Lines.{Line}
use Rattle.protocol.specs.Lines as line
use Rattle.world_model.specs.Events.{ScheduleEvent}
use Rattle.world_model.specs.Events as event
use Rattle.protocol_rows.specs.Words.{node, ring, client, log}

abbrev pub schedule : List ScheduleEvent
schedule =
    event.Flow 100 ∷
    event.Lead (node 0) (ring 0) ∷
    event.Flow 100 ∷
    event.Ask (client 0) (command.Append (log 0) (104 ∷ 105 ∷ [])) ∷
    event.Flow 100 ∷
    event.Ask (client 0) (command.Append (log 0) (111 ∷ 107 ∷ [])) ∷
    event.Flow 100 ∷
    event.TickNode (node 1) ∷
    event.TickNode (node 0) ∷
    event.TickNode (node 0) ∷
    event.TickNode (node 0) ∷
    event.TickNode (node 0) ∷
    event.TickNode (node 0) ∷
    event.TickNode (node 0) ∷
    event.TickNode (node 0) ∷
    event.TickNode (node 0) ∷
    event.TickNode (node 0) ∷
    event.Deliver 33 ∷
    event.Deliver 38 ∷
    event.List 33 ∷
    event.List 38 ∷
    event.List 39 ∷
    event.List 40 ∷
    event.List 41 ∷
    []

abbrev pub lines : List Line
lines =
    line.Up (node 0) 1 ∷
    line.Begin (node 0) 1 1 (0 ∷ []) ∷
    line.Up (node 1) 1 ∷
    line.Begin (node 1) 1 1 (0 ∷ []) ∷
    line.Up (node 2) 1 ∷
    line.Begin (node 2) 1 1 (0 ∷ []) ∷
    line.Chose (node 0) 1 1 (0 ∷ []) (node 0) ∷
    line.Restore (node 0) (0 ∷ []) ∷
    line.Chose (node 1) 1 1 (0 ∷ []) (node 1) ∷
    line.Restore (node 1) (0 ∷ []) ∷
    line.Chose (node 2) 1 1 (0 ∷ []) (node 2) ∷
    line.Restore (node 2) (0 ∷ []) ∷
    line.Learn (node 1) (ring 0) 0 1 (value.Batch (1 ∷ 0 ∷ 1 ∷ 0 ∷ 0 ∷ 0 ∷ 0 ∷ 0 ∷ 0 ∷ 0 ∷ 0 ∷ 1 ∷ 0 ∷ 6 ∷ 1 ∷ 0 ∷ 0 ∷ 2 ∷ 104 ∷ 105 ∷ [])) ∷
    line.Deliver (node 1) (ring 0) 0 ∷
    line.Reply (node 1) (ring 0) 0 0 (client 0) 1 (1 ∷ 1 ∷ 0 ∷ 0 ∷ 0 ∷ 0 ∷ 0 ∷ 0 ∷ 0 ∷ 0 ∷ 0 ∷ []) ∷
    line.Learn (node 2) (ring 0) 0 1 (value.Batch (1 ∷ 0 ∷ 1 ∷ 0 ∷ 0 ∷ 0 ∷ 0 ∷ 0 ∷ 0 ∷ 0 ∷ 0 ∷ 1 ∷ 0 ∷ 6 ∷ 1 ∷ 0 ∷ 0 ∷ 2 ∷ 104 ∷ 105 ∷ [])) ∷
    line.Deliver (node 2) (ring 0) 0 ∷
    line.Reply (node 2) (ring 0) 0 0 (client 0) 1 (1 ∷ 1 ∷ 0 ∷ 0 ∷ 0 ∷ 0 ∷ 0 ∷ 0 ∷ 0 ∷ 0 ∷ 0 ∷ []) ∷
    line.Answer (client 0) 1 (1 ∷ 1 ∷ 0 ∷ 0 ∷ 0 ∷ 0 ∷ 0 ∷ 0 ∷ 0 ∷ 0 ∷ 0 ∷ []) ∷
    line.Learn (node 0) (ring 0) 0 1 (value.Batch (1 ∷ 0 ∷ 1 ∷ 0 ∷ 0 ∷ 0 ∷ 0 ∷ 0 ∷ 0 ∷ 0 ∷ 0 ∷ 1 ∷ 0 ∷ 6 ∷ 1 ∷ 0 ∷ 0 ∷ 2 ∷ 104 ∷ 105 ∷ [])) ∷
    line.Deliver (node 0) (ring 0) 0 ∷
    line.Reply (node 0) (ring 0) 0 0 (client 0) 1 (1 ∷ 1 ∷ 0 ∷ 0 ∷ 0 ∷ 0 ∷ 0 ∷ 0 ∷ 0 ∷ 0 ∷ 0 ∷ []) ∷
    line.Learn (node 1) (ring 0) 1 2 (value.Batch (1 ∷ 0 ∷ 1 ∷ 0 ∷ 0 ∷ 0 ∷ 0 ∷ 0 ∷ 0 ∷ 0 ∷ 0 ∷ 2 ∷ 0 ∷ 6 ∷ 1 ∷ 0 ∷ 0 ∷ 2 ∷ 111 ∷ 107 ∷ [])) ∷
    line.Deliver (node 1) (ring 0) 1 ∷
    line.Reply (node 1) (ring 0) 1 0 (client 0) 2 (1 ∷ 1 ∷ 0 ∷ 0 ∷ 0 ∷ 0 ∷ 0 ∷ 0 ∷ 0 ∷ 0 ∷ 1 ∷ []) ∷
    line.Learn (node 2) (ring 0) 1 2 (value.Batch (1 ∷ 0 ∷ 1 ∷ 0 ∷ 0 ∷ 0 ∷ 0 ∷ 0 ∷ 0 ∷ 0 ∷ 0 ∷ 2 ∷ 0 ∷ 6 ∷ 1 ∷ 0 ∷ 0 ∷ 2 ∷ 111 ∷ 107 ∷ [])) ∷
    line.Deliver (node 2) (ring 0) 1 ∷
    line.Reply (node 2) (ring 0) 1 0 (client 0) 2 (1 ∷ 1 ∷ 0 ∷ 0 ∷ 0 ∷ 0 ∷ 0 ∷ 0 ∷ 0 ∷ 0 ∷ 1 ∷ []) ∷
    line.Answer (client 0) 2 (1 ∷ 1 ∷ 0 ∷ 0 ∷ 0 ∷ 0 ∷ 0 ∷ 0 ∷ 0 ∷ 0 ∷ 1 ∷ []) ∷
    line.Learn (node 0) (ring 0) 1 2 (value.Batch (1 ∷ 0 ∷ 1 ∷ 0 ∷ 0 ∷ 0 ∷ 0 ∷ 0 ∷ 0 ∷ 0 ∷ 0 ∷ 2 ∷ 0 ∷ 6 ∷ 1 ∷ 0 ∷ 0 ∷ 2 ∷ 111 ∷ 107 ∷ [])) ∷
    line.Deliver (node 0) (ring 0) 1 ∷
    line.Reply (node 0) (ring 0) 1 0 (client 0) 2 (1 ∷ 1 ∷ 0 ∷ 0 ∷ 0 ∷ 0 ∷ 0 ∷ 0 ∷ 0 ∷ 0 ∷ 1 ∷ []) ∷
    line.Saved (node 1) (2 ∷ []) ∷
    line.Saved (node 0) (2 ∷ []) ∷
    line.Trim (node 0) (ring 0) 2 ∷
    line.Frame 33 (Some (record { from = Node (node 0); to = Node (node 1); bytes = 77 ∷ 82 ∷ 2 ∷ 10 ∷ 0 ∷ 0 ∷ 0 ∷ 0 ∷ 0 ∷ 0 ∷ 0 ∷ 0 ∷ 0 ∷ 0 ∷ 1 ∷ [] })) ∷
    line.Frame 38 (Some (record { from = Node (node 1); to = Node (node 0); bytes = 77 ∷ 82 ∷ 2 ∷ 11 ∷ 0 ∷ 1 ∷ 0 ∷ 0 ∷ 0 ∷ 0 ∷ 0 ∷ 0 ∷ 0 ∷ 0 ∷ 1 ∷ 0 ∷ 0 ∷ 0 ∷ 0 ∷ 0 ∷ 0 ∷ 0 ∷ 2 ∷ [] })) ∷
    line.Frame 39 (Some (record { from = Node (node 0); to = Node (node 1); bytes = 77 ∷ 82 ∷ 2 ∷ 12 ∷ 0 ∷ 0 ∷ 0 ∷ 0 ∷ 0 ∷ 0 ∷ 0 ∷ 0 ∷ 0 ∷ 0 ∷ 2 ∷ [] })) ∷
    line.Frame 40 (Some (record { from = Node (node 0); to = Node (node 2); bytes = 77 ∷ 82 ∷ 2 ∷ 12 ∷ 0 ∷ 0 ∷ 0 ∷ 0 ∷ 0 ∷ 0 ∷ 0 ∷ 0 ∷ 0 ∷ 0 ∷ 2 ∷ [] })) ∷
    line.Frame 41 None ∷
    line.End 24 ∷
    []
