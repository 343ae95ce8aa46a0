-- Which happenings set a fault of a node's disk.
use Rattle.std.specs.Prelude.{◌==◌, Bool, false}
use Rattle.mrp_types.specs.declared.id.NodeId.{NodeId}
use Rattle.world_model.specs.Events.{ScheduleEvent}
use Rattle.world_model.specs.Events as event
use Rattle.world_model.specs.Runs.{Happening, Scheduled, Returns}

-- A call of the node's disk is to fail, or a read. A fuse is none of these: it stops a node as a crash does.
abbrev pub is_fault_at : NodeId → ScheduleEvent → Bool
is_fault_at id (event.Fail node calls) = id.0 == node.0
is_fault_at id (event.FailRead node calls) = id.0 == node.0
is_fault_at id other = false

abbrev pub sets_fault : NodeId → Happening → Bool
sets_fault id (Scheduled event) = is_fault_at id event
sets_fault id (Returns node image) = false
