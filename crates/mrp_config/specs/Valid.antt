-- What a valid deployment is, in terms of its lists alone.
use Rattle.std.specs.Prelude.{ℕ, ◌≡◌, ◌+◌, ◌<◌, ◌≤◌, true, false, if◌then◌else◌, List, [], ◌∷◌, length, map, filter, Option, Some, None, Result, Ok, Err}
use Rattle.std.specs.List.{AllByRecursion}
use Rattle.mrp_types.specs.declared.id.RingId.{RingId}
pub use Rattle.mrp_types.specs.Rings.{IncreasesFrom, numbers_of_rings}
pub use Rattle.mrp_types.specs.Seats.{AreDifferent}
pub use Rattle.config_walk.specs.Numbers.{IsBetween, AreAtMost, AreAmong, AreApart, AreSeats, IsKey}
use Rattle.mrp_types.specs.declared.id.LogId.{LogId}
use Rattle.mrp_config.specs.declared.tables.NodeTable.{NodeTable}
use Rattle.mrp_config.specs.declared.tables.ClientTable.{ClientTable}
use Rattle.mrp_config.specs.declared.tables.RingTable.{RingTable}
use Rattle.mrp_config.specs.declared.tables.PartitionTable.{PartitionTable}
use Rattle.config_walk.specs.Address.{IsAddress}
use Rattle.mrp_config.specs.Config.{Config, has_ring}
use Rattle.mrp_config.specs.Routing.{is_before, is_within, is_concerned, all_have, no_group}
use Rattle.mrp_config.specs.declared.routing.NoGroup.{NoGroup}
use Rattle.command_codec.specs.declared.command.Command.{Command}
use Rattle.mrp_config.specs.Walk.{is_among, numbers_of_nodes, node_ids, ring_ids}

-- ---- the parts

-- no number is in two of the lists
abbrev pub AreAllApart : List (List ℕ) → Type 0
AreAllApart [] = Unit {0}
AreAllApart (xs ∷ xss) = AllByRecursion (AreApart xs) xss × AreAllApart xss

pub record AreNodes (nodes : List NodeTable) : Type 0 where
  pub few : IsBetween 1 32 (length nodes)
  pub ids : IncreasesFrom 0 (node_ids nodes)
  pub numbers : AreAtMost 31 (node_ids nodes)
  pub addresses : AllByRecursion (λ (n : NodeTable). IsAddress n.address) nodes

abbrev pub client_ids : List ClientTable → List ℕ
client_ids clients = map (λ (c : ClientTable). c.id.0) clients

pub record AreClients (clients : List ClientTable) : Type 0 where
  pub few : length clients ≤ 256
  pub ids : IncreasesFrom 0 (client_ids clients)
  pub numbers : AreAtMost 255 (client_ids clients)
  pub addresses : AllByRecursion (λ (c : ClientTable). IsAddress c.address) clients

pub record AreRings (nodes : List ℕ) (rings : List RingTable) : Type 0 where
  pub few : IsBetween 1 16 (length rings)
  pub ids : IncreasesFrom 0 (ring_ids rings)
  pub numbers : AreAtMost 15 (ring_ids rings)
  pub acceptors : AllByRecursion (λ (r : RingTable). AreSeats nodes (numbers_of_nodes r.acceptors)) rings
  pub rounds : AllByRecursion (λ (r : RingTable). IsBetween 1 1024 r.m) rings

abbrev pub numbers_of_logs : List LogId → List ℕ
numbers_of_logs logs = map (λ (l : LogId). l.0) logs

-- both quorums can be had of n replicas, and any two of them share a replica
pub record AreQuorums (n trim recovery : ℕ) : Type 0 where
  pub trims : IsBetween 1 n trim
  pub recovers : IsBetween 1 n recovery
  pub meet : n < trim + recovery

pub record IsPartition (nodes rings : List ℕ) (p : PartitionTable) : Type 0 where
  pub replicas : AreSeats nodes (numbers_of_nodes p.replicas)
  pub some : IsBetween 1 16 (length p.rings)
  pub increase : IncreasesFrom 0 (numbers_of_rings p.rings)
  pub numbers : AreAtMost 15 (numbers_of_rings p.rings)
  pub known : AreAmong rings (numbers_of_rings p.rings)
  pub home : is_among p.home.0 (numbers_of_rings p.rings) ≡ true
  pub from : IsKey p.from
  pub to : IsKey p.to
  pub few_logs : length p.logs ≤ 64
  pub logs : IncreasesFrom 0 (numbers_of_logs p.logs)
  pub low_logs : AreAtMost 63 (numbers_of_logs p.logs)

abbrev pub partition_ids : List PartitionTable → List ℕ
partition_ids ps = map (λ (p : PartitionTable). p.id.0) ps

abbrev pub replicas_of : List PartitionTable → List (List ℕ)
replicas_of ps = map (λ (p : PartitionTable). numbers_of_nodes p.replicas) ps

abbrev pub logs_of : List PartitionTable → List (List ℕ)
logs_of ps = map (λ (p : PartitionTable). numbers_of_logs p.logs) ps

-- The ranges of keys stand end to end: the first begins at `start`, each next one where the one before it ends,
-- none is empty, and the last has no end.
abbrev pub AreEndToEnd : List ℕ → List PartitionTable → Type 0
AreEndToEnd start [] = Unit {0}
AreEndToEnd start (p ∷ []) = (p.from ≡ start) × (p.to ≡ [])
AreEndToEnd start (p ∷ q ∷ ps) = (p.from ≡ start) × (is_before p.from p.to ≡ true) × AreEndToEnd p.to (q ∷ ps)

pub record ArePartitions (nodes rings : List ℕ) (ps : List PartitionTable) : Type 0 where
  pub few : IsBetween 1 16 (length ps)
  pub ids : IncreasesFrom 0 (partition_ids ps)
  pub numbers : AreAtMost 15 (partition_ids ps)
  pub each : AllByRecursion (IsPartition nodes rings) ps
  pub quorums : AllByRecursion (λ (p : PartitionTable). AreQuorums (length p.replicas) p.trim_quorum p.recovery_quorum) ps
  -- a node is a replica of at most one
  pub replicas : AreAllApart (replicas_of ps)
  -- a log is in at most one
  pub logs : AreAllApart (logs_of ps)
  pub ranges : AreEndToEnd [] ps

-- ---- the whole

pub record IsValid (c : Config) : Type 0 where
  pub m : IsBetween 1 1024 c.m
  pub lambda : c.lambda ≤ 256
  pub delta : IsBetween 1 256 c.delta
  pub resend : IsBetween 1 1000 c.resend
  pub suspect : IsBetween 1 10000 c.suspect
  pub attempt : IsBetween 1 10000 c.attempt
  pub checkpoint : IsBetween 1 1000000 c.checkpoint
  pub trim : IsBetween 1 1000000 c.trim
  pub window : IsBetween 1 64 c.window
  pub journal : IsBetween 1048576 4294967295 c.journal
  pub nodes : AreNodes c.nodes
  pub clients : AreClients c.clients
  pub rings : AreRings (node_ids c.nodes) c.rings
  pub partitions : ArePartitions (node_ids c.nodes) (ring_ids c.rings) c.partitions

-- ---- what follows

-- the partitions that hold a key
abbrev pub holders : List ℕ → List PartitionTable → List PartitionTable
holders key ps = filter (λ (p : PartitionTable). is_within p.from p.to key) ps

-- 1 where there is a partition and the command concerns it
abbrev pub concerns_at : Command → Option PartitionTable → ℕ
concerns_at command None = 0
concerns_at command (Some p) = if is_concerned command p then 1 else 0

-- each of the partitions subscribes to the ring, and each other such ring has a greater number
pub record IsLeastCommon (ps : List PartitionTable) (ring : RingId) : Type 0 where
  pub common : all_have ps ring.0 ≡ true
  pub least : (other : ℕ) → all_have ps other ≡ true → ring.0 ≤ other

-- What orders a command, by the partitions that it concerns: nothing where there is none, of one its home ring, to
-- which it subscribes, and of several the least ring to which all of them subscribe, or nothing where there is none.
abbrev pub IsRouteOf : List PartitionTable → Result RingId NoGroup → Type 0
IsRouteOf [] route = route ≡ Err no_group
IsRouteOf (p ∷ []) route = (route ≡ Ok p.home) × (has_ring p.rings p.home.0 ≡ true)
IsRouteOf (p ∷ q ∷ ps) (Ok ring) = IsLeastCommon (p ∷ q ∷ ps) ring
IsRouteOf (p ∷ q ∷ ps) (Err none) = (ring : ℕ) → all_have (p ∷ q ∷ ps) ring ≡ false
