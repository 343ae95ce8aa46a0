-- What the words of the tables stand for, as plain relations.
use Rattle.std.specs.Prelude.{◌≡◌, ◌⊎◌, ℕ, suc, ◌+◌, ◌%◌, ◌<◌, ◌≤◌, ◌==◌, nat_eq, nat_lt, nat_le, ◌&&◌, if◌then◌else◌, true, false, List, [], ◌∷◌, count_by, Option, Some, None, IsSome}
use Rattle.std.specs.List.{AllByRecursion}
use Rattle.mrp_types.specs.declared.id.NodeId.{NodeId}
use Rattle.mrp_types.specs.declared.id.RingId.{RingId}
use Rattle.mrp_types.specs.declared.value.Value.{Value}
use Rattle.mrp_types.specs.declared.voted.Decided.{Decided}
use Rattle.mrp_types.specs.declared.value.Value.TheVariants.{Skip}
use Rattle.mrp_types.specs.Values.{is_skip}
use Rattle.range_map.specs.Entries.{value_at, IsIncreasingFrom}
use Rattle.mrp_config.specs.declared.tables.PartitionTable.{PartitionTable}
use Rattle.plain_model.specs.Tuples.{is_at_or_after}
use Rattle.protocol.specs.Parts.{Ring, Campaign, Round}
use Rattle.protocol.specs.Rings.{acceptor_at, owner_of, majority_of}
use Rattle.protocol.specs.Proposing.{due_at}
use Rattle.protocol.specs.Trimming.{answered_of}

-- ---- nodes by id

-- how often a node stands in a list
abbrev pub times : NodeId → List NodeId → ℕ
times node [] = 0
times node (other ∷ nodes) = (if other.0 == node.0 then 1 else 0) + times node nodes

-- the nodes stand by id, from k on
abbrev pub AreByIdFrom : ℕ → List NodeId → Type 0
AreByIdFrom k [] = Unit {0}
AreByIdFrom k (node ∷ nodes) = (k ≤ node.0) × AreByIdFrom node.0 nodes

-- and none of them stands twice
abbrev pub AreIncreasingFrom : ℕ → List NodeId → Type 0
AreIncreasingFrom k [] = Unit {0}
AreIncreasingFrom k (node ∷ nodes) = (k ≤ node.0) × AreIncreasingFrom (suc node.0) nodes

-- ---- entries at instances

-- each instance of the range holds what `met` makes of what was held there and of v, all others what they held
pub record Meets {T : Type 0} (met : Option T → T → T) (lo hi : ℕ) (v : T) (old new : List (ℕ × T)) : Type 0 where
  pub in_order : IsIncreasingFrom 0 new
  pub within : (i : ℕ) → lo ≤ i → i < hi → value_at i new ≡ Some (met (value_at i old) v)
  pub below : (i : ℕ) → i < lo → value_at i new ≡ value_at i old
  pub above : (i : ℕ) → hi ≤ i → value_at i new ≡ value_at i old

-- each instance of the range is held
abbrev pub AreHeld : {T : Type 0} → ℕ → ℕ → List (ℕ × T) → Type 0
AreHeld lo hi es = (i : ℕ) → lo ≤ i → i < hi → IsSome (value_at i es)

-- ---- ballots

-- the least number above a floor that leaves this rest by n
pub record IsLeastAbove (floor n rest number : ℕ) : Type 0 where
  pub above : floor < number
  pub leaves : number % n ≡ rest
  pub least : (other : ℕ) → floor < other → other % n ≡ rest → number ≤ other

-- the own node has one position alone
abbrev pub HasOnePosition : Ring → Type 0
HasOnePosition ring = (i j : ℕ) → acceptor_at ring i ≡ Some ring.own → acceptor_at ring j ≡ Some ring.own → i ≡ j

-- the least ballot above a floor that the own node owns
pub record IsLeastOwned (ring : Ring) (floor ballot : ℕ) : Type 0 where
  pub above : floor < ballot
  pub owned : owner_of ring ballot ≡ Some ring.own
  pub least : (other : ℕ) → floor < other → owner_of ring other ≡ Some ring.own → ballot ≤ other

-- ---- coverage

-- how many positions are covered past an instance
abbrev pub covered_past : ℕ → List ℕ → ℕ
covered_past inst covered = count_by (λ c. nat_lt inst c) covered

-- a majority of positions is covered past an instance
abbrev pub IsCovered : Ring → List ℕ → ℕ → Type 0
IsCovered ring covered inst = majority_of ring ≤ covered_past inst covered

-- ---- runs of due Skips

-- the instance is covered by a majority and not learned, and Skip is due there
pub record IsDueSkip (ring : Ring) (campaign : Campaign) (held : List (ℕ × Value)) (inst : ℕ) : Type 0 where
  pub covered : IsCovered ring campaign.covered inst
  pub unlearned : value_at inst held ≡ None
  pub due : due_at ring campaign inst ≡ Some Skip

-- From next on each instance of the run is a due Skip, the one at next among them where it is one; the one behind the run isn't,
-- or the run has 65,536 instances.
pub record IsLongestRun (ring : Ring) (campaign : Campaign) (held : List (ℕ × Value)) (end : ℕ) : Type 0 where
  pub begins : IsDueSkip ring campaign held campaign.next → campaign.next < end
  pub each : (i : ℕ) → campaign.next ≤ i → i < end → IsDueSkip ring campaign held i
  pub few : end ≤ campaign.next + 65536
  pub longest : (end ≡ campaign.next + 65536) ⊎ (IsDueSkip ring campaign held end → ⊥)

-- ---- learned values as ranges

-- the value of the first range that has the instance
abbrev pub decided_at : ℕ → List Decided → Option Value
decided_at inst [] = None
decided_at inst (range ∷ ranges) = if nat_le range.lo inst && nat_lt inst range.hi then Some range.value else decided_at inst ranges

-- the ranges are in order from k on, none is empty, and none reaches into the next
abbrev pub AreInTurnFrom : ℕ → List Decided → Type 0
AreInTurnFrom k [] = Unit {0}
AreInTurnFrom k (range ∷ ranges) = (k ≤ range.lo) × (range.lo < range.hi) × AreInTurnFrom range.hi ranges

-- the next range couldn't be joined to this one: they don't touch, or aren't both Skip
abbrev pub IsUnjoined : Decided → List Decided → Type 0
IsUnjoined range [] = Unit {0}
IsUnjoined range (next ∷ ranges) = (nat_eq range.hi next.lo && (is_skip range.value && is_skip next.value)) ≡ false

abbrev pub AreUnjoined : List Decided → Type 0
AreUnjoined [] = Unit {0}
AreUnjoined (range ∷ ranges) = IsUnjoined range ranges × AreUnjoined ranges

-- a batch has a range of one instance
abbrev pub AreSingle : List Decided → Type 0
AreSingle [] = Unit {0}
AreSingle (range ∷ ranges) = (is_skip range.value ≡ false → range.hi ≡ suc range.lo) × AreSingle ranges

-- Ranges in order, with exactly what is held; no two neighbours could be joined, and a batch has a range of its own.
pub record AreMaximal (held : List (ℕ × Value)) (ranges : List Decided) : Type 0 where
  pub in_turn : AreInTurnFrom 0 ranges
  pub same : (i : ℕ) → decided_at i ranges ≡ value_at i held
  pub unjoined : AreUnjoined ranges
  pub single : AreSingle ranges

-- ---- rounds of trimming

-- each of the partitions has as many answers as its trim quorum
abbrev pub HaveQuorums : List PartitionTable → List (NodeId × ℕ) → Type 0
HaveQuorums partitions answers = AllByRecursion (λ (p : PartitionTable). p.trim_quorum ≤ answered_of p answers) partitions

-- some replica answered so
abbrev pub IsGiven : ℕ → List (NodeId × ℕ) → Type 0
IsGiven inst [] = ⊥
IsGiven inst (answer ∷ answers) = (answer.1 ≡ inst) ⊎ IsGiven inst answers

-- The least of all answers of a round that has its quorums, above the trim when it was asked.
pub record IsLeastAnswer (ring : Ring) (round : Round) (inst : ℕ) : Type 0 where
  pub subscribed : ring.subscribers ≡ [] → ⊥
  pub quorums : HaveQuorums ring.subscribers round.answers
  pub given : IsGiven inst round.answers
  pub least : AllByRecursion (λ (answer : NodeId × ℕ). inst ≤ answer.1) round.answers
  pub above : round.last < inst

-- ---- the chosen answer

-- one of these answers
abbrev pub IsAnswer : NodeId × List (RingId × ℕ) → List (NodeId × List (RingId × ℕ)) → Type 0
IsAnswer answer [] = ⊥
IsAnswer answer (other ∷ answers) = (answer ≡ other) ⊎ IsAnswer answer answers

-- of two nodes with the same tuple the own one comes first, and of two others the lesser
abbrev pub IsPreferred : NodeId → NodeId → NodeId → Type 0
IsPreferred own best other = (best.0 ≡ own.0) ⊎ ((other.0 ≡ own.0 → ⊥) × (best.0 ≤ other.0))

-- One of the answers, whose tuple is at or after that of each of them. Among those with this tuple it is the own node's, where
-- the own node has it, else that of the least id.
pub record IsBestAnswer (own : NodeId) (answers : List (NodeId × List (RingId × ℕ))) (best : NodeId × List (RingId × ℕ)) : Type 0 where
  pub given : IsAnswer best answers
  pub greatest : AllByRecursion (λ (answer : NodeId × List (RingId × ℕ)). is_at_or_after best.1 answer.1 ≡ true) answers
  pub preferred : AllByRecursion (λ (answer : NodeId × List (RingId × ℕ)). answer.1 ≡ best.1 → IsPreferred own best.0 answer.0) answers
