-- What the learners of some rings hold.
use Rattle.std.specs.Prelude.{ℕ, List, map}
use Rattle.mrp_types.specs.declared.value.Value.{Value}
use Rattle.protocol.specs.Parts.{Learner}

-- a map for each learner
abbrev pub maps_of : List Learner → List (List (ℕ × Value))
maps_of learners = map (λ (l : Learner). l.held) learners
