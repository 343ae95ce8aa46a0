-- What a deployment is: one record of numbers and lists.
use Rattle.std.specs.Prelude.{ℕ, ◌==◌, Bool, true, false, if◌then◌else◌, List, [], ◌∷◌, Option, Some, None}
use Rattle.std.specs.List.{find, filter}
use Rattle.mrp_types.specs.declared.id.NodeId.{NodeId}
use Rattle.mrp_types.specs.declared.id.RingId.{RingId}
use Rattle.mrp_types.specs.declared.id.LogId.{LogId}
use Rattle.mrp_config.specs.declared.deployment.Numbers.{Numbers}
use Rattle.mrp_config.specs.declared.tables.NodeTable.{NodeTable}
use Rattle.mrp_config.specs.declared.tables.ClientTable.{ClientTable}
use Rattle.mrp_config.specs.declared.tables.RingTable.{RingTable}
use Rattle.mrp_config.specs.declared.tables.PartitionTable.{PartitionTable}

pub record Config : Type 0 where
  pub m : ℕ
  pub lambda : ℕ
  pub delta : ℕ
  pub resend : ℕ
  pub suspect : ℕ
  pub attempt : ℕ
  pub checkpoint : ℕ
  pub trim : ℕ
  pub window : ℕ
  pub journal : ℕ
  pub nodes : List NodeTable
  pub clients : List ClientTable
  pub rings : List RingTable
  pub partitions : List PartitionTable

-- these numbers and lists
abbrev pub config_with : Numbers → List NodeTable → List ClientTable → List RingTable → List PartitionTable → Config
config_with numbers nodes clients rings partitions = record {
  m = numbers.m;
  lambda = numbers.lambda;
  delta = numbers.delta;
  resend = numbers.resend;
  suspect = numbers.suspect;
  attempt = numbers.attempt;
  checkpoint = numbers.checkpoint;
  trim = numbers.trim;
  window = numbers.window;
  journal = numbers.journal;
  nodes = nodes;
  clients = clients;
  rings = rings;
  partitions = partitions;
}

-- ---- look-ups: the entry with this id

abbrev pub node_at : List NodeTable → ℕ → Option NodeTable
node_at nodes id = find (λ (node : NodeTable). node.id.0 == id) nodes

abbrev pub client_at : List ClientTable → ℕ → Option ClientTable
client_at clients id = find (λ (client : ClientTable). client.id.0 == id) clients

abbrev pub ring_at : List RingTable → ℕ → Option RingTable
ring_at rings id = find (λ (ring : RingTable). ring.id.0 == id) rings

abbrev pub partition_at : List PartitionTable → ℕ → Option PartitionTable
partition_at partitions id = find (λ (p : PartitionTable). p.id.0 == id) partitions

-- ---- the sizes of rounds

-- the size of the ring's round, or the usual one where there is no ring
abbrev pub size_or : ℕ → Option RingTable → ℕ
size_or usual None = usual
size_or usual (Some ring) = ring.m

-- how many instances of a ring a round holds; of a ring that isn't there as many as the top says
abbrev pub round_of : Config → RingId → ℕ
round_of config ring = size_or config.m (ring_at config.rings ring.0)

-- ---- membership, as tests

abbrev pub has_ring : List RingId → ℕ → Bool
has_ring [] id = false
has_ring (ring ∷ rings) id = if ring.0 == id then true else has_ring rings id

abbrev pub has_log : List LogId → ℕ → Bool
has_log [] id = false
has_log (log ∷ logs) id = if log.0 == id then true else has_log logs id

abbrev pub has_node : List NodeId → ℕ → Bool
has_node [] id = false
has_node (node ∷ nodes) id = if node.0 == id then true else has_node nodes id

-- ---- who is where

-- the partition of which a node is a replica
abbrev pub partition_of : List PartitionTable → NodeId → Option PartitionTable
partition_of partitions node = find (λ (p : PartitionTable). has_node p.replicas node.0) partitions

-- the partitions that subscribe to a ring, in order
abbrev pub subscribers_of : List PartitionTable → RingId → List PartitionTable
subscribers_of partitions ring = filter (λ (p : PartitionTable). has_ring p.rings ring.0) partitions
