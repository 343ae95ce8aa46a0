-- One node in two rings, which are levelled by Skips at each tick.
use Rattle.std.specs.Prelude.{List, [], ◌∷◌}
use Rattle.mrp_types.specs.declared.value.Value.TheVariants as value
use Rattle.command_codec.specs.declared.command.Command.TheVariants as command
use Rattle.protocol.specs.Lines.{Line}
use Rattle.protocol.specs.Lines as line
use Rattle.world_model.specs.Events.{ScheduleEvent}
use Rattle.world_model.specs.Events as event
use Rattle.protocol_rows.specs.Words.{node, ring, client, log}

abbrev pub schedule : List ScheduleEvent
schedule =
    event.Lead (node 0) (ring 0) ∷
    event.Lead (node 0) (ring 1) ∷
    event.TickNode (node 0) ∷
    event.Ask (client 0) (command.Append (log 0) (97 ∷ [])) ∷
    event.Flow 1 ∷
    event.TickNode (node 0) ∷
    []

abbrev pub lines : List Line
lines =
    line.Up (node 0) 1 ∷
    line.Begin (node 0) 1 1 (0 ∷ 0 ∷ []) ∷
    line.Chose (node 0) 1 1 (0 ∷ 0 ∷ []) (node 0) ∷
    line.Restore (node 0) (0 ∷ 0 ∷ []) ∷
    line.Learn (node 0) (ring 0) 0 2 value.Skip ∷
    line.Learn (node 0) (ring 1) 0 2 value.Skip ∷
    line.Learn (node 0) (ring 0) 2 3 (value.Batch (1 ∷ 0 ∷ 1 ∷ 0 ∷ 0 ∷ 0 ∷ 0 ∷ 0 ∷ 0 ∷ 0 ∷ 0 ∷ 1 ∷ 0 ∷ 5 ∷ 1 ∷ 0 ∷ 0 ∷ 1 ∷ 97 ∷ [])) ∷
    line.Deliver (node 0) (ring 0) 2 ∷
    line.Reply (node 0) (ring 0) 2 0 (client 0) 1 (1 ∷ 1 ∷ 0 ∷ 0 ∷ 0 ∷ 0 ∷ 0 ∷ 0 ∷ 0 ∷ 0 ∷ 0 ∷ []) ∷
    line.Learn (node 0) (ring 0) 3 4 value.Skip ∷
    line.Learn (node 0) (ring 1) 2 4 value.Skip ∷
    line.End 6 ∷
    []
