-- Rounds by hand.
use Rattle.std.specs.Prelude.{ℕ, List, [], ◌∷◌}
use Rattle.mrp_types.specs.declared.id.NodeId.{NodeId}
use Rattle.mrp_config.specs.declared.tables.PartitionTable.{PartitionTable}
use Rattle.protocol.specs.Parts.{Ring, Round}
use Rattle.protocol.specs.Trimming.{with_answer}

abbrev pub node : ℕ → NodeId
node n = record { 0 = n }

-- a partition of some replicas and a trim quorum
abbrev pub partition : ℕ → List NodeId → ℕ → PartitionTable
partition id replicas quorum = record {
  id = record { 0 = id };
  replicas = replicas;
  rings = record { 0 = 0 } ∷ [];
  home = record { 0 = 0 };
  from = [];
  to = [];
  logs = [];
  trim_quorum = quorum;
  recovery_quorum = 2;
}

abbrev pub asker : List PartitionTable → Ring
asker subscribers = record {
  id = record { 0 = 0 };
  own = node 0;
  acceptors = node 0 ∷ node 1 ∷ node 2 ∷ [];
  members = node 0 ∷ node 1 ∷ node 2 ∷ [];
  subscribers = subscribers;
  window = 16;
  lambda = 0;
  delta = 1;
}

-- three replicas, of which so many have to answer
abbrev pub three : ℕ → Ring
three quorum = asker (partition 0 (node 0 ∷ node 1 ∷ node 2 ∷ []) quorum ∷ [])

-- two partitions of two replicas, of which each has to answer
abbrev pub two : Ring
two = asker (partition 0 (node 0 ∷ node 1 ∷ []) 2 ∷ partition 1 (node 2 ∷ node 3 ∷ []) 2 ∷ [])

abbrev pub answered : Ring → List (NodeId × ℕ) → Round → Round
answered ring [] round = round
answered ring (answer ∷ answers) round = answered ring answers (with_answer ring answer.0 answer.1 round)

-- a round with these answers, asked at a trim
abbrev pub round_of : Ring → ℕ → List (NodeId × ℕ) → Round
round_of ring last answers = answered ring answers (record { number = 1; last = last; answers = [] })
