-- A coordinator that learns of a newer leader levels past what that one decided, and what is finished takes no room of the window.
use Rattle.std.specs.Prelude.{List, [], ◌∷◌, Some, None}
use Rattle.mrp_types.specs.declared.id.Party.TheVariants.{Node}
use Rattle.mrp_types.specs.declared.value.Value.TheVariants as value
use Rattle.protocol.specs.Lines.{Line}
use Rattle.protocol.specs.Lines as line
use Rattle.world_model.specs.Events.{ScheduleEvent}
use Rattle.world_model.specs.Events as event
use Rattle.protocol_rows.specs.Words.{node, ring}

abbrev pub schedule : List ScheduleEvent
schedule =
    event.Lead (node 0) (ring 0) ∷
    event.Deliver 0 ∷
    event.Deliver 2 ∷
    event.Lead (node 1) (ring 0) ∷
    event.Deliver 4 ∷
    event.Deliver 5 ∷
    event.TickNode (node 1) ∷
    event.Deliver 6 ∷
    event.TickNode (node 1) ∷
    event.Deliver 8 ∷
    event.Deliver 9 ∷
    event.TickNode (node 0) ∷
    event.TickNode (node 0) ∷
    event.TickNode (node 0) ∷
    event.List 11 ∷
    event.List 12 ∷
    event.List 13 ∷
    event.Deliver 7 ∷
    event.TickNode (node 0) ∷
    event.List 14 ∷
    []

abbrev pub lines : List Line
lines =
    line.Up (node 0) 1 ∷
    line.Up (node 1) 1 ∷
    line.Up (node 2) 1 ∷
    line.Begin (node 2) 1 1 (0 ∷ []) ∷
    line.Chose (node 2) 1 1 (0 ∷ []) (node 2) ∷
    line.Restore (node 2) (0 ∷ []) ∷
    line.Learn (node 2) (ring 0) 0 2 value.Skip ∷
    line.Learn (node 2) (ring 0) 2 4 value.Skip ∷
    line.Learn (node 0) (ring 0) 2 4 value.Skip ∷
    line.Frame 11 (Some (record { from = Node (node 0); to = Node (node 1); bytes = 77 ∷ 82 ∷ 2 ∷ 5 ∷ 0 ∷ 0 ∷ 0 ∷ 0 ∷ 0 ∷ 0 ∷ 0 ∷ 0 ∷ 0 ∷ 0 ∷ 3 ∷ 0 ∷ 0 ∷ 0 ∷ 0 ∷ 0 ∷ 0 ∷ 0 ∷ 0 ∷ 0 ∷ 0 ∷ 0 ∷ 0 ∷ 0 ∷ 0 ∷ 0 ∷ 2 ∷ 1 ∷ 0 ∷ 1 ∷ 0 ∷ [] })) ∷
    line.Frame 12 (Some (record { from = Node (node 0); to = Node (node 1); bytes = 77 ∷ 82 ∷ 2 ∷ 5 ∷ 0 ∷ 0 ∷ 0 ∷ 0 ∷ 0 ∷ 0 ∷ 0 ∷ 0 ∷ 0 ∷ 0 ∷ 3 ∷ 0 ∷ 0 ∷ 0 ∷ 0 ∷ 0 ∷ 0 ∷ 0 ∷ 4 ∷ 0 ∷ 0 ∷ 0 ∷ 0 ∷ 0 ∷ 0 ∷ 0 ∷ 6 ∷ 1 ∷ 0 ∷ 1 ∷ 0 ∷ [] })) ∷
    line.Frame 13 None ∷
    line.Learn (node 0) (ring 0) 0 2 value.Skip ∷
    line.Frame 14 (Some (record { from = Node (node 0); to = Node (node 1); bytes = 77 ∷ 82 ∷ 2 ∷ 5 ∷ 0 ∷ 0 ∷ 0 ∷ 0 ∷ 0 ∷ 0 ∷ 0 ∷ 0 ∷ 0 ∷ 0 ∷ 3 ∷ 0 ∷ 0 ∷ 0 ∷ 0 ∷ 0 ∷ 0 ∷ 0 ∷ 6 ∷ 0 ∷ 0 ∷ 0 ∷ 0 ∷ 0 ∷ 0 ∷ 0 ∷ 8 ∷ 1 ∷ 0 ∷ 1 ∷ 0 ∷ [] })) ∷
    line.End 20 ∷
    []
