-- A replica's view, and what the merge of its rings looks at.
use Rattle.std.specs.Prelude.{ℕ, ◌≡◌, true, List}
use Rattle.mrp_types.specs.declared.id.RingId.{RingId}
use Rattle.mrp_types.specs.declared.value.Value.{Value}
use Rattle.mrp_config.specs.Config.{has_ring}
use Rattle.protocol.specs.Node.{View, StepSoFar, Service, Ready, Standing, with_stage}
use Rattle.protocol.specs.Merging.{value_at_place}
use Rattle.merge.specs.Merged.{learned_at}

-- at each place of these rings the maps hold what the view has learned there
abbrev pub Agree : View → List RingId → List (List (ℕ × Value)) → Type 0
Agree view rings maps = (place : RingId × ℕ) → has_ring rings place.0.0 ≡ true → value_at_place view place ≡ learned_at rings maps place

-- a step on its way whose replica is ready at a tuple
abbrev pub stands_at : Service → Standing → List (RingId × ℕ) → StepSoFar → StepSoFar
stands_at service standing tuple a = with_stage service (Ready (record standing { tuple = tuple })) a
