-- An Accept that comes three times makes its Decide again each time, and is learned once.
use Rattle.std.specs.Prelude.{List, [], ◌∷◌, Some, None}
use Rattle.mrp_types.specs.declared.id.Party.TheVariants.{Node}
use Rattle.mrp_types.specs.declared.value.Value.TheVariants as value
use Rattle.command_codec.specs.declared.command.Command.TheVariants as command
use Rattle.protocol.specs.Lines.{Line}
use Rattle.protocol.specs.Lines as line
use Rattle.world_model.specs.Events.{ScheduleEvent}
use Rattle.world_model.specs.Events as event
use Rattle.protocol_rows.specs.Words.{node, ring, client, log}

abbrev pub schedule : List ScheduleEvent
schedule =
    event.Flow 100 ∷
    event.Lead (node 0) (ring 0) ∷
    event.Flow 100 ∷
    event.Ask (client 0) (command.Append (log 0) (104 ∷ 105 ∷ [])) ∷
    event.Flow 1 ∷
    event.Deliver 17 ∷
    event.Deliver 17 ∷
    event.Deliver 17 ∷
    event.List 18 ∷
    event.List 20 ∷
    event.List 21 ∷
    event.List 22 ∷
    []

abbrev pub lines : List Line
lines =
    line.Up (node 0) 1 ∷
    line.Begin (node 0) 1 1 (0 ∷ []) ∷
    line.Up (node 1) 1 ∷
    line.Begin (node 1) 1 1 (0 ∷ []) ∷
    line.Up (node 2) 1 ∷
    line.Begin (node 2) 1 1 (0 ∷ []) ∷
    line.Chose (node 0) 1 1 (0 ∷ []) (node 0) ∷
    line.Restore (node 0) (0 ∷ []) ∷
    line.Chose (node 1) 1 1 (0 ∷ []) (node 1) ∷
    line.Restore (node 1) (0 ∷ []) ∷
    line.Chose (node 2) 1 1 (0 ∷ []) (node 2) ∷
    line.Restore (node 2) (0 ∷ []) ∷
    line.Learn (node 1) (ring 0) 0 1 (value.Batch (1 ∷ 0 ∷ 1 ∷ 0 ∷ 0 ∷ 0 ∷ 0 ∷ 0 ∷ 0 ∷ 0 ∷ 0 ∷ 1 ∷ 0 ∷ 6 ∷ 1 ∷ 0 ∷ 0 ∷ 2 ∷ 104 ∷ 105 ∷ [])) ∷
    line.Deliver (node 1) (ring 0) 0 ∷
    line.Reply (node 1) (ring 0) 0 0 (client 0) 1 (1 ∷ 1 ∷ 0 ∷ 0 ∷ 0 ∷ 0 ∷ 0 ∷ 0 ∷ 0 ∷ 0 ∷ 0 ∷ []) ∷
    line.Frame 18 (Some (record { from = Node (node 1); to = Node (node 2); bytes = 77 ∷ 82 ∷ 2 ∷ 6 ∷ 0 ∷ 1 ∷ 0 ∷ 0 ∷ 0 ∷ 0 ∷ 0 ∷ 0 ∷ 0 ∷ 0 ∷ 0 ∷ 0 ∷ 0 ∷ 0 ∷ 0 ∷ 0 ∷ 0 ∷ 0 ∷ 1 ∷ 1 ∷ 0 ∷ 20 ∷ 1 ∷ 0 ∷ 1 ∷ 0 ∷ 0 ∷ 0 ∷ 0 ∷ 0 ∷ 0 ∷ 0 ∷ 0 ∷ 1 ∷ 0 ∷ 6 ∷ 1 ∷ 0 ∷ 0 ∷ 2 ∷ 104 ∷ 105 ∷ [] })) ∷
    line.Frame 20 (Some (record { from = Node (node 1); to = Node (node 2); bytes = 77 ∷ 82 ∷ 2 ∷ 6 ∷ 0 ∷ 1 ∷ 0 ∷ 0 ∷ 0 ∷ 0 ∷ 0 ∷ 0 ∷ 0 ∷ 0 ∷ 0 ∷ 0 ∷ 0 ∷ 0 ∷ 0 ∷ 0 ∷ 0 ∷ 0 ∷ 1 ∷ 1 ∷ 0 ∷ 20 ∷ 1 ∷ 0 ∷ 1 ∷ 0 ∷ 0 ∷ 0 ∷ 0 ∷ 0 ∷ 0 ∷ 0 ∷ 0 ∷ 1 ∷ 0 ∷ 6 ∷ 1 ∷ 0 ∷ 0 ∷ 2 ∷ 104 ∷ 105 ∷ [] })) ∷
    line.Frame 21 (Some (record { from = Node (node 1); to = Node (node 2); bytes = 77 ∷ 82 ∷ 2 ∷ 6 ∷ 0 ∷ 1 ∷ 0 ∷ 0 ∷ 0 ∷ 0 ∷ 0 ∷ 0 ∷ 0 ∷ 0 ∷ 0 ∷ 0 ∷ 0 ∷ 0 ∷ 0 ∷ 0 ∷ 0 ∷ 0 ∷ 1 ∷ 1 ∷ 0 ∷ 20 ∷ 1 ∷ 0 ∷ 1 ∷ 0 ∷ 0 ∷ 0 ∷ 0 ∷ 0 ∷ 0 ∷ 0 ∷ 0 ∷ 1 ∷ 0 ∷ 6 ∷ 1 ∷ 0 ∷ 0 ∷ 2 ∷ 104 ∷ 105 ∷ [] })) ∷
    line.Frame 22 None ∷
    line.End 12 ∷
    []
