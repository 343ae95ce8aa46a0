-- The tables of valid nodes, clients, rings and partitions are accepted.
use Rattle.std.proofs.Common.{◌≡◌, ℕ, ◌+◌, ◌≤◌, List, [], ◌∷◌, map, refl, Some, Ok, codes}
use Rattle.std.specs.List.{AllByRecursion}
use Rattle.toml.specs.Data.{string}
use Rattle.mrp_config.specs.declared.tables.NodeTable.{NodeTable}
use Rattle.mrp_config.specs.declared.tables.ClientTable.{ClientTable}
use Rattle.mrp_config.specs.declared.tables.RingTable.{RingTable}
use Rattle.config_walk.specs.Address.{IsAddress}
use Rattle.mrp_types.specs.Seats.{numbers_of_nodes}
use Rattle.config_walk.specs.Values.{address_of, id_of, seats_of}
use Rattle.mrp_config.specs.Walk.{node_of, nodes_of, client_of, clients_of, ring_of, size_of, rings_of, node_ids, ring_ids}
use Rattle.config_laws.specs.Tables.{number, numbers, node_table, client_table, ring_table}
use Rattle.mrp_config.specs.Valid.{IncreasesFrom, AreAtMost, IsBetween, AreSeats, client_ids}
use Rattle.mrp_config.proofs.Steps.{step}
use Rattle.config_laws.proofs.Spelled.{apart_from_none, number_back, id_back, address_back, seats_back}

-- ---- nodes and clients

node_back : (start : ℕ) (n : NodeTable) → start ≤ n.id.0 → n.id.0 ≤ 31 → IsAddress n.address → node_of start (node_table n) ≡ Ok n
unfolding node_of node_table
node_back start n low high good =
    step (id_of (codes "node.id") 31 start (Some (number n.id.0))) _ n.id.0 _ (id_back (codes "node.id") 31 start n.id.0 low high)
    (step (address_of (codes "node.address") (Some (string n.address))) _ n.address _ (address_back (codes "node.address") n.address good) refl)

pub nodes_back : (start : ℕ) (ns : List NodeTable) → IncreasesFrom start (node_ids ns) → AreAtMost 31 (node_ids ns) → AllByRecursion (λ (n : NodeTable). IsAddress n.address) ns → nodes_of start (map node_table ns) ≡ Ok ns
nodes_back start [] low high good = refl
nodes_back start (n ∷ ns) low high good =
    step (node_of start (node_table n)) _ n _ (node_back start n low.0 high.0 good.0)
    (step (nodes_of (n.id.0 + 1) (map node_table ns)) _ ns _ (nodes_back (n.id.0 + 1) ns low.1 high.1 good.1) refl)

client_back : (start : ℕ) (n : ClientTable) → start ≤ n.id.0 → n.id.0 ≤ 255 → IsAddress n.address → client_of start (client_table n) ≡ Ok n
unfolding client_of client_table
client_back start n low high good =
    step (id_of (codes "client.id") 255 start (Some (number n.id.0))) _ n.id.0 _ (id_back (codes "client.id") 255 start n.id.0 low high)
    (step (address_of (codes "client.address") (Some (string n.address))) _ n.address _ (address_back (codes "client.address") n.address good) refl)

pub clients_back : (start : ℕ) (ns : List ClientTable) → IncreasesFrom start (client_ids ns) → AreAtMost 255 (client_ids ns) → AllByRecursion (λ (n : ClientTable). IsAddress n.address) ns → clients_of start (map client_table ns) ≡ Ok ns
clients_back start [] low high good = refl
clients_back start (n ∷ ns) low high good =
    step (client_of start (client_table n)) _ n _ (client_back start n low.0 high.0 good.0)
    (step (clients_of (n.id.0 + 1) (map client_table ns)) _ ns _ (clients_back (n.id.0 + 1) ns low.1 high.1 good.1) refl)

-- ---- rings

ring_back : (usual : ℕ) (nodes : List ℕ) (start : ℕ) (r : RingTable) → start ≤ r.id.0 → r.id.0 ≤ 15 → AreSeats nodes (numbers_of_nodes r.acceptors) → IsBetween 1 1024 r.m
    → ring_of usual nodes start (ring_table r) ≡ Ok r
unfolding ring_of ring_table
ring_back usual nodes start r low high seats m =
    step (id_of (codes "ring.id") 15 start (Some (number r.id.0))) _ r.id.0 _ (id_back (codes "ring.id") 15 start r.id.0 low high)
    (step (seats_of (codes "ring.acceptors") [] nodes (Some (numbers (numbers_of_nodes r.acceptors)))) _ r.acceptors _ (seats_back (codes "ring.acceptors") [] nodes r.acceptors seats (apart_from_none (numbers_of_nodes r.acceptors)))
    (step (size_of usual (Some (number r.m))) _ r.m _ (number_back (codes "ring.m") 1 1024 r.m m) refl))

pub rings_back : (usual : ℕ) (nodes : List ℕ) (start : ℕ) (rs : List RingTable) → IncreasesFrom start (ring_ids rs) → AreAtMost 15 (ring_ids rs)
    → AllByRecursion (λ (r : RingTable). AreSeats nodes (numbers_of_nodes r.acceptors)) rs → AllByRecursion (λ (r : RingTable). IsBetween 1 1024 r.m) rs
    → rings_of usual nodes start (map ring_table rs) ≡ Ok rs
rings_back usual nodes start [] low high seats rounds = refl
rings_back usual nodes start (r ∷ rs) low high seats rounds =
    step (ring_of usual nodes start (ring_table r)) _ r _ (ring_back usual nodes start r low.0 high.0 seats.0 rounds.0)
    (step (rings_of usual nodes (r.id.0 + 1) (map ring_table rs)) _ rs _ (rings_back usual nodes (r.id.0 + 1) rs low.1 high.1 seats.1 rounds.1) refl)
