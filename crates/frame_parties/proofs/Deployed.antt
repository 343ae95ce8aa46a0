-- Each node that the lists of a valid deployment name is there, and so is each that a ring of it names.
use Rattle.std.proofs.Common.{◌≡◌, ℕ, Bool, true, false, List, [], ◌∷◌, Some, refl, sym, true≢false}
use Rattle.std.specs.Prelude.{◌==◌, if◌then◌else◌, filter, not}
use Rattle.std.specs.List.{AllByRecursion}
use Rattle.mrp_types.specs.declared.id.NodeId.{NodeId}
use Rattle.mrp_types.specs.Seats.{is_among, numbers_of_nodes}
use Rattle.mrp_config.specs.declared.tables.NodeTable.{NodeTable}
use Rattle.mrp_config.specs.declared.tables.RingTable.{RingTable}
use Rattle.mrp_config.specs.declared.tables.PartitionTable.{PartitionTable}
use Rattle.mrp_config.specs.Config.{Config, node_at, has_node, has_ring, subscribers_of}
use Rattle.mrp_config.specs.Walk.{node_ids, ring_ids}
use Rattle.mrp_config.specs.Valid.{IsValid, IsPartition, AreAmong, AreSeats}
use Rattle.vote_state.proofs.StateLemmas.{filter_all}
use Rattle.protocol.specs.Rings.{replicas_of, by_id, members_of, ring_of}
use Rattle.line_rules.specs.Rules.{HasNode}
use Rattle.line_rules.proofs.Growing.{same_number}
use Rattle.quorums.proofs.Each.{mapped, appended}
use Rattle.frame_parties.proofs.Invariant.{AreThere, IsClosed, RingNamed}
use Rattle.frame_parties.proofs.Lists.{flat_all}
use Rattle.frame_parties.proofs.Words.{by_id_there}

table_there : (tables : List NodeTable) (x : ℕ) → is_among x (node_ids tables) ≡ true → (table : NodeTable) × (node_at tables x ≡ Some table)
table_there [] x h = absurd (true≢false (sym h))
table_there (table ∷ tables) x h = go (table.id.0 == x) h (λ later. table_there tables x later)
  where
    go : (b : Bool) → (if b then true else is_among x (node_ids tables)) ≡ true → (is_among x (node_ids tables) ≡ true → (t : NodeTable) × (node_at tables x ≡ Some t))
        → (t : NodeTable) × ((if b then Some table else node_at tables x) ≡ Some t)
    go true h later = (table, refl)
    go false h later = later h

-- each of a list is among it
among_more : (ids : List ℕ) (x : ℕ) (ns : List ℕ) → AreAmong ids ns → AreAmong (x ∷ ids) ns
among_more ids x [] all = tt
among_more ids x (n ∷ ns) all = (go (x == n), among_more ids x ns all.1)
  where
    go : (b : Bool) → (if b then true else is_among n ids) ≡ true
    go true = refl
    go false = all.0

all_among : (ids : List ℕ) → AreAmong ids ids
all_among [] = tt
all_among (x ∷ ids) = (rw (same_number x) refl, among_more ids x ids (all_among ids))

module _ (c : Config) where
  nodes_there : (nodes : List NodeId) → AreAmong (node_ids c.nodes) (numbers_of_nodes nodes) → AreThere c nodes
  nodes_there [] all = tt
  nodes_there (node ∷ nodes) all = (table_there c.nodes node.0 all.0, nodes_there nodes all.1)

  tables_there : (tables : List NodeTable) → AreAmong (node_ids c.nodes) (node_ids tables) → AllByRecursion (λ (t : NodeTable). HasNode c t.id) tables
  tables_there [] all = tt
  tables_there (table ∷ tables) all = (table_there c.nodes table.id.0 all.0, tables_there tables all.1)

  pub valid_closed : IsValid c → IsClosed c
  valid_closed valid = record {
    nodes = tables_there c.nodes (all_among (node_ids c.nodes));
    acceptors = mapped (λ (t : RingTable). AreSeats (node_ids c.nodes) (numbers_of_nodes t.acceptors)) (λ (t : RingTable). AreThere c t.acceptors) (λ t is. nodes_there t.acceptors is.known) c.rings valid.rings.acceptors;
    replicas = mapped (IsPartition (node_ids c.nodes) (ring_ids c.rings)) (λ (p : PartitionTable). AreThere c p.replicas) (λ p is. nodes_there p.replicas is.replicas.known) c.partitions valid.partitions.each;
  }

  module _ (closed : IsClosed c) where
    members_there : (acceptors : List NodeId) (subscribers : List PartitionTable) → AreThere c acceptors → AreThere c (replicas_of subscribers) → AreThere c (members_of acceptors subscribers)
    unfolding members_of
    members_there acceptors subscribers first second =
        appended (HasNode c) acceptors (by_id (filter (λ (node : NodeId). not (has_node acceptors node.0)) (replicas_of subscribers))) first
        (by_id_there c (filter (λ (node : NodeId). not (has_node acceptors node.0)) (replicas_of subscribers))
        (filter_all (HasNode c) (λ (node : NodeId). not (has_node acceptors node.0)) (replicas_of subscribers) second))

    replicas_there : (table : RingTable) → AreThere c (replicas_of (subscribers_of c.partitions table.id))
    replicas_there table =
        flat_all (λ (p : PartitionTable). AreThere c p.replicas) (HasNode c) (λ (p : PartitionTable). p.replicas) (λ p all. all) (subscribers_of c.partitions table.id)
        (filter_all (λ (p : PartitionTable). AreThere c p.replicas) (λ (p : PartitionTable). has_ring p.rings table.id.0) c.partitions closed.replicas)

    pub ring_members_there : (table : RingTable) → AreThere c table.acceptors → AreThere c (members_of table.acceptors (subscribers_of c.partitions table.id))
    ring_members_there table acceptors = members_there table.acceptors (subscribers_of c.partitions table.id) acceptors (replicas_there table)

    pub ring_named : (id : NodeId) → HasNode c id → (table : RingTable) → AreThere c table.acceptors → RingNamed c (ring_of c id table)
    ring_named id own table acceptors = record { own = own; acceptors = acceptors; members = ring_members_there table acceptors; replicas = replicas_there table }
