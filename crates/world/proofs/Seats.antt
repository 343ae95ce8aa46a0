-- Where acceptors sit.
use Rattle.std.proofs.Common.{arith, ◌≡◌, ◌<◌, ℕ, zero, suc, List, [], ◌∷◌, length, get_or, Option, Some, None, refl, sym, ap, ◌∙◌, subst, true, ◌==◌}
use Rattle.std.specs.Prelude.{is_some}
use Rattle.std.specs.List.{AllByRecursion}
use Rattle.std.specs.Option.{option_map}
use Rattle.std.proofs.lemmas.Bool.{eqb-true}
use Rattle.std.proofs.lemmas.List.Quantifiers.{position-Some}
use Rattle.mrp_types.specs.declared.id.NodeId.{NodeId}
use Rattle.mrp_types.specs.declared.id.Party.{Party}
use Rattle.mrp_types.specs.declared.id.Party.TheVariants.{Node, Client}
use Rattle.mrp_types.specs.Seats.{seat_of}
use Rattle.mrp_types.proofs.TestLemmas.{some_is}
use Rattle.mrp_config.specs.declared.tables.RingTable.{RingTable}
use Rattle.world.specs.declared.seat.Seat.{Seat}
use Rattle.world.specs.Ring.{seat_at, IsRing, IsSeat}

-- a node sits at its first position
abbrev pub Sits : RingTable → Seat → Type 0
Sits table seat = seat_of seat.node table.acceptors ≡ Some seat.position

-- a node is one of the ring's acceptors
abbrev pub IsMember : RingTable → NodeId → Type 0
IsMember table node = is_some (seat_of node table.acceptors) ≡ true

abbrev pub nobody : NodeId
nobody = record { 0 = 0 }

pub found : (table : RingTable) (node : NodeId) (k : ℕ) → seat_of node table.acceptors ≡ Some k → (get_or table.acceptors k nobody).0 ≡ node.0
found table node k is = eqb-true _ _ (position-Some (λ (other : NodeId). other.0 == node.0) table.acceptors k nobody is).1

pub seat_below : (table : RingTable) (seat : Seat) → Sits table seat → seat.position < length table.acceptors
seat_below table seat is = (position-Some (λ (other : NodeId). other.0 == seat.node.0) table.acceptors seat.position nobody is).0

-- two nodes at one position are one
pub same_seat : (table : RingTable) (a b : NodeId) (k : ℕ) → seat_of a table.acceptors ≡ Some k → seat_of b table.acceptors ≡ Some k → a.0 ≡ b.0
same_seat table a b k first second = sym (found table a k first) ∙ found table b k second

-- one node has one position
pub one_seat : (table : RingTable) (a b : Seat) → Sits table a → Sits table b → a.node.0 ≡ b.node.0 → a.position ≡ b.position
one_seat table a b first second same =
    let made : ℕ → Option ℕ = λ n. seat_of (record { 0 = n }) table.acceptors in
    some_is a.position b.position (sym first ∙ ap made same ∙ second)

by_seat : (table : RingTable) (node : NodeId) (place : Option ℕ) (seat : Seat) → seat_of node table.acceptors ≡ place →
    option_map (λ (position : ℕ). record { node = node; position = position }) place ≡ Some seat → Sits table seat
by_seat table node None seat is at = absurd cc
by_seat table node (Some k) seat is at =
    let there = some_is (record { node = node; position = k }) seat at in
    subst (λ (s : Seat). Sits table s) there is

-- who is found at a seat sits there
pub seat_sits : (table : RingTable) (party : Party) (seat : Seat) → seat_at table party ≡ Some seat → Sits table seat
seat_sits table (Node node) seat is = by_seat table node (seat_of node table.acceptors) seat refl is
seat_sits table (Client client) seat is = absurd cc

low_node : (nodes : List NodeId) (k : ℕ) (node : NodeId) → AllByRecursion (λ (n : NodeId). n.0 < 32) nodes → k < length nodes → (get_or nodes k nobody).0 ≡ node.0 → node.0 < 32
low_node [] k node are inside is = absurd (grind arith)
low_node (n ∷ nodes) zero node are inside is = omega (arith, are.0, is)
low_node (n ∷ nodes) (suc k) node are inside is = low_node nodes k node are.1 (omega (arith, shorter n nodes inside)) is
  where
    shorter : (n : NodeId) (ns : List NodeId) → suc k < length (n ∷ ns) → k < length ns
    shorter n ns inside = grind arith

-- who sits in a ring has a seat of it
pub is_seat : (ring : RingTable) (seat : Seat) → IsRing ring → Sits ring seat → IsSeat seat ring
is_seat ring seat is sits =
    let below = seat_below ring seat sits in
    record {
      below = below;
      few = omega (arith, below, is.few);
      low = low_node ring.acceptors seat.position seat.node is.low below (found ring seat.node seat.position sits);
    }

-- who sits in a ring is one of its acceptors
pub seat_fits : (table : RingTable) (seat : Seat) → Sits table seat → IsMember table seat.node
seat_fits table seat sits = ap is_some sits
