-- A ballot that starts on a tick, since the acceptors listed before the node are suspected, and what it decides.
use Rattle.std.specs.Prelude.{List, [], ◌∷◌, Some}
use Rattle.mrp_types.specs.declared.id.Party.TheVariants.{Node}
use Rattle.mrp_types.specs.declared.value.Value.TheVariants as value
use Rattle.command_codec.specs.declared.command.Command.TheVariants as command
use Rattle.protocol.specs.Lines.{Line}
use Rattle.protocol.specs.Lines as line
use Rattle.world_model.specs.Events.{ScheduleEvent}
use Rattle.world_model.specs.Events as event
use Rattle.protocol_rows.specs.Words.{node, ring, client, log}

abbrev pub schedule : List ScheduleEvent
schedule =
    event.Flow 100 ∷
    event.TickNode (node 1) ∷
    event.TickNode (node 1) ∷
    event.TickNode (node 1) ∷
    event.TickNode (node 1) ∷
    event.TickNode (node 1) ∷
    event.TickNode (node 1) ∷
    event.TickNode (node 1) ∷
    event.TickNode (node 1) ∷
    event.TickNode (node 1) ∷
    event.TickNode (node 1) ∷
    event.TickNode (node 1) ∷
    event.TickNode (node 1) ∷
    event.TickNode (node 1) ∷
    event.TickNode (node 1) ∷
    event.TickNode (node 1) ∷
    event.TickNode (node 1) ∷
    event.List 20 ∷
    event.List 21 ∷
    event.List 22 ∷
    event.List 23 ∷
    event.Deliver 22 ∷
    event.Deliver 26 ∷
    event.Ask (client 0) (command.Append (log 0) (104 ∷ 105 ∷ [])) ∷
    event.Deliver 27 ∷
    event.TickClient (client 0) ∷
    event.TickClient (client 0) ∷
    event.TickClient (client 0) ∷
    event.TickClient (client 0) ∷
    event.Deliver 28 ∷
    event.List 29 ∷
    event.Deliver 29 ∷
    event.Deliver 31 ∷
    []

abbrev pub lines : List Line
lines =
    line.Up (node 0) 1 ∷
    line.Begin (node 0) 1 1 (0 ∷ []) ∷
    line.Up (node 1) 1 ∷
    line.Begin (node 1) 1 1 (0 ∷ []) ∷
    line.Up (node 2) 1 ∷
    line.Begin (node 2) 1 1 (0 ∷ []) ∷
    line.Chose (node 0) 1 1 (0 ∷ []) (node 0) ∷
    line.Restore (node 0) (0 ∷ []) ∷
    line.Chose (node 1) 1 1 (0 ∷ []) (node 1) ∷
    line.Restore (node 1) (0 ∷ []) ∷
    line.Chose (node 2) 1 1 (0 ∷ []) (node 2) ∷
    line.Restore (node 2) (0 ∷ []) ∷
    line.Frame 20 (Some (record { from = Node (node 1); to = Node (node 2); bytes = 77 ∷ 82 ∷ 2 ∷ 19 ∷ 0 ∷ 1 ∷ [] })) ∷
    line.Frame 21 (Some (record { from = Node (node 1); to = Node (node 0); bytes = 77 ∷ 82 ∷ 2 ∷ 2 ∷ 0 ∷ 1 ∷ 0 ∷ 0 ∷ 0 ∷ 0 ∷ 0 ∷ 0 ∷ 0 ∷ 0 ∷ 1 ∷ 0 ∷ 0 ∷ 0 ∷ 0 ∷ 0 ∷ 0 ∷ 0 ∷ 0 ∷ [] })) ∷
    line.Frame 22 (Some (record { from = Node (node 1); to = Node (node 2); bytes = 77 ∷ 82 ∷ 2 ∷ 2 ∷ 0 ∷ 1 ∷ 0 ∷ 0 ∷ 0 ∷ 0 ∷ 0 ∷ 0 ∷ 0 ∷ 0 ∷ 1 ∷ 0 ∷ 0 ∷ 0 ∷ 0 ∷ 0 ∷ 0 ∷ 0 ∷ 0 ∷ [] })) ∷
    line.Frame 23 (Some (record { from = Node (node 1); to = Node (node 2); bytes = 77 ∷ 82 ∷ 2 ∷ 7 ∷ 0 ∷ 1 ∷ 0 ∷ 0 ∷ 0 ∷ 0 ∷ 0 ∷ 0 ∷ 0 ∷ 0 ∷ 0 ∷ [] })) ∷
    line.Frame 29 (Some (record { from = Node (node 1); to = Node (node 2); bytes = 77 ∷ 82 ∷ 2 ∷ 5 ∷ 0 ∷ 1 ∷ 0 ∷ 0 ∷ 0 ∷ 0 ∷ 0 ∷ 0 ∷ 0 ∷ 0 ∷ 1 ∷ 0 ∷ 0 ∷ 0 ∷ 0 ∷ 0 ∷ 0 ∷ 0 ∷ 0 ∷ 0 ∷ 0 ∷ 0 ∷ 0 ∷ 0 ∷ 0 ∷ 0 ∷ 1 ∷ 2 ∷ 0 ∷ 20 ∷ 1 ∷ 0 ∷ 1 ∷ 0 ∷ 0 ∷ 0 ∷ 0 ∷ 0 ∷ 0 ∷ 0 ∷ 0 ∷ 1 ∷ 0 ∷ 6 ∷ 1 ∷ 0 ∷ 0 ∷ 2 ∷ 104 ∷ 105 ∷ [] })) ∷
    line.Learn (node 2) (ring 0) 0 1 (value.Batch (1 ∷ 0 ∷ 1 ∷ 0 ∷ 0 ∷ 0 ∷ 0 ∷ 0 ∷ 0 ∷ 0 ∷ 0 ∷ 1 ∷ 0 ∷ 6 ∷ 1 ∷ 0 ∷ 0 ∷ 2 ∷ 104 ∷ 105 ∷ [])) ∷
    line.Deliver (node 2) (ring 0) 0 ∷
    line.Reply (node 2) (ring 0) 0 0 (client 0) 1 (1 ∷ 1 ∷ 0 ∷ 0 ∷ 0 ∷ 0 ∷ 0 ∷ 0 ∷ 0 ∷ 0 ∷ 0 ∷ []) ∷
    line.Answer (client 0) 1 (1 ∷ 1 ∷ 0 ∷ 0 ∷ 0 ∷ 0 ∷ 0 ∷ 0 ∷ 0 ∷ 0 ∷ 0 ∷ []) ∷
    line.End 33 ∷
    []
