-- The ring that orders a command has acceptors.
use Rattle.std.proofs.Common.{arith, ◌≡◌, ℕ, suc, ◌≤◌, ◌==◌, Bool, true, false, true≢false, if◌then◌else◌, List, [], ◌∷◌, length, refl, sym, ap, subst, Result, Ok, Some}
use Rattle.std.specs.List.{AllByRecursion}
use Rattle.mrp_types.specs.declared.id.RingId.{RingId}
use Rattle.mrp_types.specs.declared.id.NodeId.{NodeId}
use Rattle.mrp_types.specs.Seats.{is_among, numbers_of_nodes}
use Rattle.command_codec.specs.declared.command.Command.{Command}
use Rattle.mrp_config.specs.declared.tables.RingTable.{RingTable}
use Rattle.mrp_config.specs.declared.tables.PartitionTable.{PartitionTable}
use Rattle.mrp_config.specs.declared.routing.NoGroup.{NoGroup}
use Rattle.mrp_config.specs.Walk.{ring_ids, node_ids}
use Rattle.mrp_config.specs.Config.{Config, ring_at, has_ring}
use Rattle.mrp_config.specs.Valid.{AreAmong, AreSeats, IsPartition, IsRouteOf, IsValid, numbers_of_rings}
use Rattle.mrp_config.specs.Routing.{concerned_of, all_have, route_of}
use Rattle.config_laws.proofs.Routes.{concerned_are, route_of_concerned}
use Rattle.protocol.specs.Client.{acceptors_of}
use Rattle.client_core.proofs.Joining.{first_true}

known : (ids : List ℕ) (n : ℕ) (rings : List RingId) → AreAmong ids (numbers_of_rings rings) → has_ring rings n ≡ true → is_among n ids ≡ true
known ids n [] among has = absurd (true≢false (sym has))
known ids n (ring ∷ rings) among has = by_test (ring.0 == n) refl has (known ids n rings among.1)
  where
    by_test : (t : Bool) → (ring.0 == n) ≡ t → (if t then true else has_ring rings n) ≡ true → (has_ring rings n ≡ true → is_among n ids ≡ true) → is_among n ids ≡ true
    by_test true is has later = let same : ring.0 ≡ n = grind arith in subst (λ k. is_among k ids ≡ true) same among.0
    by_test false is has later = later has

seats_long : (nodes : List NodeId) → length (numbers_of_nodes nodes) ≡ length nodes
seats_long [] = refl
seats_long (node ∷ nodes) = ap suc (seats_long nodes)

seated : (nodes : List ℕ) (n : ℕ) (rings : List RingTable) → AllByRecursion (λ (r : RingTable). AreSeats nodes (numbers_of_nodes r.acceptors)) rings → is_among n (ring_ids rings) ≡ true →
    1 ≤ length (acceptors_of (ring_at rings n))
seated nodes n [] each among = absurd (true≢false (sym among))
seated nodes n (ring ∷ rings) each among = by_test (ring.id.0 == n) among (seated nodes n rings each.1)
  where
    by_test : (t : Bool) → (if t then true else is_among n (ring_ids rings)) ≡ true → (is_among n (ring_ids rings) ≡ true → 1 ≤ length (acceptors_of (ring_at rings n))) →
        1 ≤ length (acceptors_of (if t then Some ring else ring_at rings n))
    by_test true among later = omega (arith, each.0.few.0, seats_long ring.acceptors)
    by_test false among later = later among

first_has : (nodes rings : List ℕ) (ps : List PartitionTable) (ring : RingId) → AllByRecursion (IsPartition nodes rings) ps → IsRouteOf ps (Ok ring) → is_among ring.0 rings ≡ true
first_has nodes rings [] ring each is = absurd cc
first_has nodes rings (p ∷ []) ring each is =
    let same : ring ≡ p.home = cc in
    subst (λ (r : RingId). is_among r.0 rings ≡ true) (sym same) (known rings p.home.0 p.rings each.0.known is.1)
first_has nodes rings (p ∷ q ∷ ps) ring each is = known rings ring.0 p.rings each.0.known (first_true (has_ring p.rings ring.0) (all_have (q ∷ ps) ring.0) is.common)

pub routed_to_acceptors : (config : Config) (command : Command) (ring : RingId) → IsValid config → route_of (concerned_of command config.partitions) ≡ Ok ring →
    1 ≤ length (acceptors_of (ring_at config.rings ring.0))
routed_to_acceptors config command ring valid routed =
    let nodes = node_ids config.nodes in
    let rings = ring_ids config.rings in
    let are = concerned_are nodes rings command config.partitions valid.partitions.each in
    let is : IsRouteOf (concerned_of command config.partitions) (Ok ring) =
    subst (λ (r : Result RingId NoGroup). IsRouteOf (concerned_of command config.partitions) r) routed (route_of_concerned nodes rings command config.partitions valid.partitions.each) in
    seated nodes ring.0 config.rings valid.rings.acceptors (first_has nodes rings (concerned_of command config.partitions) ring are is)
