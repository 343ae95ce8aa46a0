-- Answers of different nodes, and two groups of nodes that share one.
use Rattle.std.specs.Prelude.{◌≡◌, Bool, true, false, List, [], ◌∷◌}
use Rattle.mrp_types.specs.declared.id.NodeId.{NodeId}
use Rattle.quorums.specs.Groups.{Has}
use Rattle.protocol.specs.Trimming.{has_answered}

-- no node answered twice
abbrev pub AreDifferent : {T : Type 0} → List (NodeId × T) → Type 0
AreDifferent [] = Unit {0}
AreDifferent (answer ∷ answers) = (has_answered answer.0 answers ≡ false) × AreDifferent answers

-- one node passes both tests
pub record Both (f g : NodeId → Bool) (nodes : List NodeId) : Type 0 where
  pub node : NodeId
  pub there : Has nodes node
  pub in_first : f node ≡ true
  pub in_second : g node ≡ true
