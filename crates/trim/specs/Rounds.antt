-- A round as it is kept, and the rounds of the protocol for which it stands.
use Rattle.std.specs.Prelude.{ℕ, ◌≡◌, min, Bool, false, List, [], ◌∷◌, map, Option, Some, None}
use Rattle.std.specs.List.{AllByRecursion}
use Rattle.mrp_types.specs.declared.id.NodeId.{NodeId}
use Rattle.mrp_types.specs.Members.{is_member}
use Rattle.mrp_types.specs.Seats.{AreDifferent, numbers_of_nodes}
use Rattle.mrp_config.specs.declared.tables.PartitionTable.{PartitionTable}
use Rattle.protocol.specs.Parts.{Ring, Round}
use Rattle.protocol.specs.Trimming.{has_answered, least_of}
use Rattle.trim.specs.declared.subscribers.Subscriber.{Subscriber}
use Rattle.trim.specs.Quorums.{subscriber_of}

-- who has answered, and the least answer
pub record Trimming : Type 0 where
  pub number : ℕ
  pub last : ℕ
  pub answered : List Bool
  pub lowest : Option ℕ
  pub subscribers : List Subscriber

abbrev pub lowest_of : List (NodeId × ℕ) → Option ℕ
lowest_of [] = None
lowest_of (answer ∷ answers) = Some (least_of answer.1 answers)

-- the least with one more
abbrev pub lower : Option ℕ → ℕ → ℕ
lower None inst = inst
lower (Some lowest) inst = min lowest inst

-- each node has answered once at most
abbrev pub AreOnce : List (NodeId × ℕ) → Type 0
AreOnce [] = Unit {0}
AreOnce (answer ∷ answers) = (has_answered answer.0 answers ≡ false) × AreOnce answers

-- a round of the ring of one who asks
pub record StandsFor (t : Trimming) (asker : Ring) (round : Round) : Type 0 where
  pub number : t.number ≡ round.number
  pub last : t.last ≡ round.last
  pub answered : (node : NodeId) → is_member t.answered node.0 ≡ has_answered node round.answers
  pub lowest : t.lowest ≡ lowest_of round.answers
  pub once : AreOnce round.answers
  pub subscribers : t.subscribers ≡ map subscriber_of asker.subscribers
  -- the replicas of a partition are different nodes
  pub different : AllByRecursion (λ (p : PartitionTable). AreDifferent (numbers_of_nodes p.replicas)) asker.subscribers
