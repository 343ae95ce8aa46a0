-- What is accepted is valid.
use Rattle.std.proofs.Common.{arith, ◌≡◌, ℕ, ◌+◌, ◌≤◌, ◌==◌, true, List, [], ◌∷◌, length, nat_le, subst, Option, Some, None, Ok, codes}
use Rattle.std.proofs.lemmas.Bool.{leb-true}
use Rattle.std.specs.List.{AllByRecursion}
use Rattle.toml.specs.Data.{Data, Members, get_member}
use Rattle.config_walk.specs.declared.fault.ConfigFault.TheVariants.{Missing}
use Rattle.mrp_config.specs.declared.tables.NodeTable.{NodeTable}
use Rattle.mrp_config.specs.declared.tables.ClientTable.{ClientTable}
use Rattle.mrp_config.specs.declared.tables.RingTable.{RingTable}
use Rattle.config_walk.specs.Address.{IsAddress}
use Rattle.mrp_types.specs.Seats.{numbers_of_nodes}
use Rattle.config_walk.specs.Values.{unless, address_of, id_of, all_known, tables_in, some_tables, tables_of, entries_in, seats_of}
use Rattle.mrp_config.specs.Walk.{node_of, client_of, ring_of, size_of, nodes_of, clients_of, rings_of, top_nodes, top_clients, top_rings, node_ids, ring_ids}
use Rattle.mrp_config.specs.Valid.{IncreasesFrom, AreAtMost, IsBetween, AreSeats, AreNodes, AreClients, AreRings, client_ids}
use Rattle.config_walk.proofs.Seen.{bound, ok_is, tested, then_was, Chained, chain_saw, as_many, number_saw, id_saw, address_saw, seats_saw}

-- ---- lists of tables

is_zero : (n : ℕ) → (n == 0) ≡ true → n ≤ 0
is_zero n h = grind arith

pub tables_saw : (name : List ℕ) (fewest most : ℕ) (found : Option Data) (ts : List Members) → tables_of name fewest most found ≡ Ok ts → IsBetween fewest most (length ts)
unfolding tables_of
tables_saw name fewest most None ts h =
    let t = then_was (fewest == 0) (Missing name) (Ok []) ts h in
    let same : [] ≡ ts = ok_is [] ts t.1 in
    subst (λ (l : List Members). IsBetween fewest most (length l)) same (is_zero fewest t.0, omega arith)
tables_saw name fewest most (Some value) ts h =
    let a = bound (entries_in name value) _ ts h in
    let b = bound (tables_in name a.0) (some_tables name fewest most) ts a.2 in
    let c = bound (unless (nat_le fewest (length b.0)) _) _ ts b.2 in
    let d = bound (unless (nat_le (length b.0) most) _) (λ u. Ok b.0) ts c.2 in
    let same : b.0 ≡ ts = ok_is b.0 ts d.2 in
    subst (λ (l : List Members). IsBetween fewest most (length l)) same (leb-true _ _ (tested _ _ c.0 c.1), leb-true _ _ (tested _ _ d.0 d.1))

-- ---- nodes

-- an id in its place: not below `least`, at most `most`
abbrev pub IsId : ℕ → ℕ → ℕ → Type 0
IsId least most id = (least ≤ id) × (id ≤ most)

node_saw : (least : ℕ) (t : Members) (node : NodeTable) → node_of least t ≡ Ok node → IsId least 31 node.id.0 × IsAddress node.address
unfolding node_of
node_saw least t node h =
    let a = bound (id_of (codes "node.id") 31 least (get_member (codes "id") t)) _ node h in
    let b = bound (address_of (codes "node.address") (get_member (codes "address") t)) _ node a.2 in
    let c = bound (all_known (codes "node.") (codes "id" ∷ codes "address" ∷ []) t) _ node b.2 in
    let id = id_saw (codes "node.id") 31 least (get_member (codes "id") t) a.0 a.1 in
    let address = address_saw (codes "node.address") (get_member (codes "address") t) b.0 b.1 in
    subst (λ (n : NodeTable). IsId least 31 n.id.0 × IsAddress n.address) (ok_is (record { id = record { 0 = a.0 }; address = b.0 }) node c.2) (id, address)

record AreNodesFrom (start : ℕ) (nodes : List NodeTable) : Type 0 where
  ids : IncreasesFrom start (node_ids nodes)
  numbers : AreAtMost 31 (node_ids nodes)
  addresses : AllByRecursion (λ (n : NodeTable). IsAddress n.address) nodes

nodes_saw : (start : ℕ) (ts : List Members) (nodes : List NodeTable) → Chained node_of (λ (least : ℕ) (node : NodeTable). node.id.0 + 1) start ts nodes → AreNodesFrom start nodes
nodes_saw start [] [] h = record { ids = tt; numbers = tt; addresses = tt }
nodes_saw start [] (n ∷ ns) h = absurd h
nodes_saw start (t ∷ ts) [] h = absurd h
nodes_saw start (t ∷ ts) (n ∷ ns) h =
    let one = node_saw start t n h.0 in
    let rest = nodes_saw (n.id.0 + 1) ts ns h.1 in
    record { ids = (one.0.0, rest.ids); numbers = (one.0.1, rest.numbers); addresses = (one.1, rest.addresses) }

pub top_nodes_saw : (t : Members) (nodes : List NodeTable) → top_nodes t ≡ Ok nodes → AreNodes nodes
top_nodes_saw t nodes h =
    let a = bound (tables_of (codes "node") 1 32 (get_member (codes "node") t)) (nodes_of 0) nodes h in
    let few = tables_saw (codes "node") 1 32 (get_member (codes "node") t) a.0 a.1 in
    let each = chain_saw node_of (λ (least : ℕ) (node : NodeTable). node.id.0 + 1) 0 a.0 nodes a.2 in
    let many : length nodes ≡ length a.0 = as_many node_of (λ (least : ℕ) (node : NodeTable). node.id.0 + 1) 0 a.0 nodes each in
    let all = nodes_saw 0 a.0 nodes each in
    record { few = (rw many few.0, rw many few.1); ids = all.ids; numbers = all.numbers; addresses = all.addresses }

-- ---- clients

client_saw : (least : ℕ) (t : Members) (client : ClientTable) → client_of least t ≡ Ok client → IsId least 255 client.id.0 × IsAddress client.address
unfolding client_of
client_saw least t client h =
    let a = bound (id_of (codes "client.id") 255 least (get_member (codes "id") t)) _ client h in
    let b = bound (address_of (codes "client.address") (get_member (codes "address") t)) _ client a.2 in
    let c = bound (all_known (codes "client.") (codes "id" ∷ codes "address" ∷ []) t) _ client b.2 in
    let id = id_saw (codes "client.id") 255 least (get_member (codes "id") t) a.0 a.1 in
    let address = address_saw (codes "client.address") (get_member (codes "address") t) b.0 b.1 in
    subst (λ (n : ClientTable). IsId least 255 n.id.0 × IsAddress n.address) (ok_is (record { id = record { 0 = a.0 }; address = b.0 }) client c.2) (id, address)

record AreClientsFrom (start : ℕ) (clients : List ClientTable) : Type 0 where
  ids : IncreasesFrom start (client_ids clients)
  numbers : AreAtMost 255 (client_ids clients)
  addresses : AllByRecursion (λ (n : ClientTable). IsAddress n.address) clients

clients_saw : (start : ℕ) (ts : List Members) (clients : List ClientTable) → Chained client_of (λ (least : ℕ) (client : ClientTable). client.id.0 + 1) start ts clients → AreClientsFrom start clients
clients_saw start [] [] h = record { ids = tt; numbers = tt; addresses = tt }
clients_saw start [] (n ∷ ns) h = absurd h
clients_saw start (t ∷ ts) [] h = absurd h
clients_saw start (t ∷ ts) (n ∷ ns) h =
    let one = client_saw start t n h.0 in
    let rest = clients_saw (n.id.0 + 1) ts ns h.1 in
    record { ids = (one.0.0, rest.ids); numbers = (one.0.1, rest.numbers); addresses = (one.1, rest.addresses) }

pub top_clients_saw : (t : Members) (clients : List ClientTable) → top_clients t ≡ Ok clients → AreClients clients
top_clients_saw t clients h =
    let a = bound (tables_of (codes "client") 0 256 (get_member (codes "client") t)) (clients_of 0) clients h in
    let few = tables_saw (codes "client") 0 256 (get_member (codes "client") t) a.0 a.1 in
    let each = chain_saw client_of (λ (least : ℕ) (client : ClientTable). client.id.0 + 1) 0 a.0 clients a.2 in
    let many : length clients ≡ length a.0 = as_many client_of (λ (least : ℕ) (client : ClientTable). client.id.0 + 1) 0 a.0 clients each in
    let all = clients_saw 0 a.0 clients each in
    record { few = rw many few.1; ids = all.ids; numbers = all.numbers; addresses = all.addresses }

-- ---- rings

-- what a ring's table has to be
abbrev IsIn : List ℕ → ℕ → RingTable → Type 0
IsIn ids least ring = IsId least 15 ring.id.0 × (AreSeats ids (numbers_of_nodes ring.acceptors) × IsBetween 1 1024 ring.m)

size_saw : (usual : ℕ) (found : Option Data) (m : ℕ) → IsBetween 1 1024 usual → size_of usual found ≡ Ok m → IsBetween 1 1024 m
size_saw usual None m good h = subst (IsBetween 1 1024) (ok_is usual m h) good
size_saw usual (Some value) m good h = number_saw (codes "ring.m") 1 1024 (Some value) m h

ring_saw : (usual : ℕ) (ids : List ℕ) (least : ℕ) (t : Members) (ring : RingTable) → IsBetween 1 1024 usual → ring_of usual ids least t ≡ Ok ring → IsIn ids least ring
unfolding ring_of
ring_saw usual ids least t ring good h =
    let a = bound (id_of (codes "ring.id") 15 least (get_member (codes "id") t)) _ ring h in
    let b = bound (seats_of (codes "ring.acceptors") [] ids (get_member (codes "acceptors") t)) _ ring a.2 in
    let m = bound (size_of usual (get_member (codes "m") t)) _ ring b.2 in
    let c = bound (all_known (codes "ring.") (codes "id" ∷ codes "acceptors" ∷ codes "m" ∷ []) t) _ ring m.2 in
    let id = id_saw (codes "ring.id") 15 least (get_member (codes "id") t) a.0 a.1 in
    let seats = seats_saw (codes "ring.acceptors") [] ids (get_member (codes "acceptors") t) b.0 b.1 in
    subst (IsIn ids least) (ok_is (record { id = record { 0 = a.0 }; acceptors = b.0; m = m.0 }) ring c.2) (id, (seats.0, size_saw usual (get_member (codes "m") t) m.0 good m.1))

record AreRingsFrom (nodes : List ℕ) (start : ℕ) (rings : List RingTable) : Type 0 where
  ids : IncreasesFrom start (ring_ids rings)
  numbers : AreAtMost 15 (ring_ids rings)
  acceptors : AllByRecursion (λ (r : RingTable). AreSeats nodes (numbers_of_nodes r.acceptors)) rings
  rounds : AllByRecursion (λ (r : RingTable). IsBetween 1 1024 r.m) rings

rings_saw : (usual : ℕ) (nodes : List ℕ) (start : ℕ) (ts : List Members) (rings : List RingTable) → IsBetween 1 1024 usual
    → Chained (ring_of usual nodes) (λ (least : ℕ) (ring : RingTable). ring.id.0 + 1) start ts rings → AreRingsFrom nodes start rings
rings_saw usual nodes start [] [] good h = record { ids = tt; numbers = tt; acceptors = tt; rounds = tt }
rings_saw usual nodes start [] (n ∷ ns) good h = absurd h
rings_saw usual nodes start (t ∷ ts) [] good h = absurd h
rings_saw usual nodes start (t ∷ ts) (n ∷ ns) good h =
    let one = ring_saw usual nodes start t n good h.0 in
    let rest = rings_saw usual nodes (n.id.0 + 1) ts ns good h.1 in
    record { ids = (one.0.0, rest.ids); numbers = (one.0.1, rest.numbers); acceptors = (one.1.0, rest.acceptors); rounds = (one.1.1, rest.rounds) }

pub top_rings_saw : (usual : ℕ) (nodes : List ℕ) (t : Members) (rings : List RingTable) → IsBetween 1 1024 usual → top_rings usual nodes t ≡ Ok rings → AreRings nodes rings
top_rings_saw usual nodes t rings good h =
    let a = bound (tables_of (codes "ring") 1 16 (get_member (codes "ring") t)) (rings_of usual nodes 0) rings h in
    let few = tables_saw (codes "ring") 1 16 (get_member (codes "ring") t) a.0 a.1 in
    let each = chain_saw (ring_of usual nodes) (λ (least : ℕ) (ring : RingTable). ring.id.0 + 1) 0 a.0 rings a.2 in
    let many : length rings ≡ length a.0 = as_many (ring_of usual nodes) (λ (least : ℕ) (ring : RingTable). ring.id.0 + 1) 0 a.0 rings each in
    let all = rings_saw usual nodes 0 a.0 rings good each in
    record { few = (rw many few.0, rw many few.1); ids = all.ids; numbers = all.numbers; acceptors = all.acceptors; rounds = all.rounds }
