-- Seats: nodes in the order of their positions.
use Rattle.std.specs.Prelude.{ℕ, ◌≡◌, ◌==◌, Bool, true, false, if◌then◌else◌, List, [], ◌∷◌, ◌++◌, map, take, replicate, position, Option}
use Rattle.mrp_types.specs.declared.id.NodeId.{NodeId}

-- the first position of a node
abbrev pub seat_of : NodeId → List NodeId → Option ℕ
seat_of node nodes = position (λ (other : NodeId). other.0 == node.0) nodes

-- seven nodes, of which the last stand for none
abbrev pub padded : List NodeId → List NodeId
padded nodes = take 7 (nodes ++ replicate 7 (record { 0 = 0 }))

abbrev pub numbers_of_nodes : List NodeId → List ℕ
numbers_of_nodes nodes = map (λ (n : NodeId). n.0) nodes

-- whether a number is one of these
abbrev pub is_among : ℕ → List ℕ → Bool
is_among n [] = false
is_among n (m ∷ ms) = if m == n then true else is_among n ms

-- none stands twice
abbrev pub AreDifferent : List ℕ → Type 0
AreDifferent [] = Unit {0}
AreDifferent (n ∷ ns) = (is_among n ns ≡ false) × AreDifferent ns
