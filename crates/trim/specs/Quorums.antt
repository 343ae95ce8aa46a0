-- The subscribers of a ring, by their replicas and quorums.
use Rattle.std.specs.Prelude.{nat_le, Bool, false, List, [], ◌∷◌, count_by}
use Rattle.std.specs.List.{list_any, list_all}
use Rattle.mrp_types.specs.declared.id.NodeId.{NodeId}
use Rattle.mrp_types.specs.Members.{is_member}
use Rattle.mrp_types.specs.Seats.{numbers_of_nodes}
use Rattle.mrp_config.specs.declared.tables.PartitionTable.{PartitionTable}
use Rattle.mrp_config.specs.Config.{has_node}
use Rattle.mrp_config.specs.Valid.{AreAtMost}
use Rattle.trim.specs.declared.subscribers.Subscriber.{Subscriber}

abbrev pub subscriber_of : PartitionTable → Subscriber
subscriber_of p = record { replicas = p.replicas; quorum = p.trim_quorum }

-- its replicas are different nodes with numbers below 32
pub record IsOfNodes (s : Subscriber) : Type 0 where
  pub low : AreAtMost 31 (numbers_of_nodes s.replicas)

-- whether a node is a replica of one of them
abbrev pub is_of_one : NodeId → List Subscriber → Bool
is_of_one node subscribers = list_any (λ (s : Subscriber). has_node s.replicas node.0) subscribers

-- whether as many replicas are members of what has answered as the quorum asks
abbrev pub has_quorum_of : List Bool → Subscriber → Bool
has_quorum_of answered s = nat_le s.quorum (count_by (λ (node : NodeId). is_member answered node.0) s.replicas)

-- whether there is one, and each has its quorum
abbrev pub have_quorums_of : List Bool → List Subscriber → Bool
have_quorums_of answered [] = false
have_quorums_of answered (s ∷ subscribers) = list_all (has_quorum_of answered) (s ∷ subscribers)
