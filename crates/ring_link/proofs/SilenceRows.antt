-- Worked rows, run by the check: two ticks, with a frame of node 2 between them.
use Rattle.std.proofs.Common.{◌≡◌, true, false, List, [], ◌∷◌, ◌++◌, refl}
use Rattle.std.specs.Prelude.{Some, None}
use Rattle.mrp_types.specs.declared.id.NodeId.{NodeId}
use Rattle.ring_link.specs.Silence.{Event, Tick, Heard, is_suspected_after, successor_by}

abbrev events : List Event
events = Tick ∷ Heard 2 ∷ Tick ∷ []

abbrev order : List NodeId
order = record { 0 = 0 } ∷ record { 0 = 1 } ∷ record { 0 = 2 } ∷ []

silent : is_suspected_after 2 events 1 ≡ true
silent = refl

heard : is_suspected_after 2 events 2 ≡ false
heard = refl

passed_over : successor_by (is_suspected_after 2 events) order (record { 0 = 0 }) ≡ Some (record { 0 = 2 })
passed_over = refl

all_silent : successor_by (is_suspected_after 2 (events ++ Tick ∷ [])) order (record { 0 = 0 }) ≡ None
all_silent = refl
