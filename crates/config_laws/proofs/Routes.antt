-- Which ring orders a command, in a valid deployment.
use Rattle.std.proofs.Common.{arith, ◌≡◌, ℕ, ◌+◌, ◌≤◌, ◌==◌, ◌&&◌, Bool, true, false, true≢false, if◌then◌else◌, List, [], ◌∷◌, refl, sym, ◌∙◌, subst, Result, Ok, Err}
use Rattle.std.specs.List.{AllByRecursion}
use Rattle.command_codec.specs.declared.command.Command.{Command}
use Rattle.mrp_types.specs.declared.id.RingId.{RingId}
use Rattle.mrp_config.specs.declared.routing.NoGroup.{NoGroup}
use Rattle.mrp_config.specs.declared.tables.PartitionTable.{PartitionTable}
use Rattle.mrp_config.specs.Config.{has_ring}
use Rattle.mrp_config.specs.Routing.{is_concerned, concerned_of, all_have, common, route_of}
use Rattle.mrp_config.proofs.Members.{has_is_among}
use Rattle.mrp_config.specs.Valid.{IncreasesFrom, IsPartition, IsRouteOf, numbers_of_rings}

-- the ring is the first, or one of the others
first_or_later : (t : Bool) (rest : Bool) → (if t then true else rest) ≡ true → (rest ≡ true → t ≡ false → ⊥) → t ≡ true
first_or_later true rest h no_later = refl
first_or_later false rest h no_later = absurd (no_later h refl)

from_least : (least n : ℕ) (rings : List RingId) → IncreasesFrom least (numbers_of_rings rings) → has_ring rings n ≡ true → least ≤ n
from_least least n [] rise h = absurd cc
from_least least n (ring ∷ rings) rise h = by_test (ring.0 == n) refl h (from_least (ring.0 + 1) n rings rise.1)
  where
    by_test : (t : Bool) → (ring.0 == n) ≡ t → (if t then true else has_ring rings n) ≡ true → (has_ring rings n ≡ true → ring.0 + 1 ≤ n) → least ≤ n
    by_test true is h later = let same : ring.0 ≡ n = grind arith in omega (arith, rise.0, same)
    by_test false is h later = omega (arith, rise.0, later h)

-- what `common` finds among rings that increase
abbrev Finds : List PartitionTable → List RingId → Result RingId NoGroup → Type 0
Finds ps rings (Ok ring) = (has_ring rings ring.0 ≡ true) × (all_have ps ring.0 ≡ true) × ((other : ℕ) → has_ring rings other ≡ true → all_have ps other ≡ true → ring.0 ≤ other)
Finds ps rings (Err none) = (other : ℕ) → has_ring rings other ≡ true → all_have ps other ≡ false

found_later : (ps : List PartitionTable) (ring : RingId) (rings : List RingId) → all_have ps ring.0 ≡ false → (r : Result RingId NoGroup) → Finds ps rings r → Finds ps (ring ∷ rings) r
found_later ps ring rings out (Ok found) h = (later_has (ring.0 == found.0) h.0, h.1, least)
  where
    later_has : (t : Bool) → has_ring rings found.0 ≡ true → (if t then true else has_ring rings found.0) ≡ true
    later_has true k = refl
    later_has false k = k

    by_test : (other : ℕ) (t : Bool) → (ring.0 == other) ≡ t → (if t then true else has_ring rings other) ≡ true → all_have ps other ≡ true → found.0 ≤ other
    by_test other true is k all = let same : ring.0 ≡ other = grind arith in absurd (true≢false (sym all ∙ subst (λ n. all_have ps n ≡ false) same out))
    by_test other false is k all = h.2 other k all

    least : (other : ℕ) → has_ring (ring ∷ rings) other ≡ true → all_have ps other ≡ true → found.0 ≤ other
    least other k all = by_test other (ring.0 == other) refl k all
found_later ps ring rings out (Err none) h = λ other k. by_test other (ring.0 == other) refl k
  where
    by_test : (other : ℕ) (t : Bool) → (ring.0 == other) ≡ t → (if t then true else has_ring rings other) ≡ true → all_have ps other ≡ false
    by_test other true is k = let same : ring.0 ≡ other = grind arith in subst (λ n. all_have ps n ≡ false) same out
    by_test other false is k = h other k

is_itself : (n : ℕ) → (n == n) ≡ true
is_itself n = grind arith

common_finds : (ps : List PartitionTable) (least : ℕ) (rings : List RingId) → IncreasesFrom least (numbers_of_rings rings) → Finds ps rings (common ps rings)
common_finds ps least [] rise = λ other h. absurd cc
common_finds ps least (ring ∷ rings) rise = by_test (all_have ps ring.0) refl (common_finds ps (ring.0 + 1) rings rise.1)
  where
    now : all_have ps ring.0 ≡ true → Finds ps (ring ∷ rings) (Ok ring)
    now all = (rw (is_itself ring.0) refl, all, λ other h k. from_least ring.0 other (ring ∷ rings) (omega arith, rise.1) h)

    by_test : (t : Bool) → all_have ps ring.0 ≡ t → Finds ps rings (common ps rings) → Finds ps (ring ∷ rings) (if t then Ok ring else common ps rings)
    by_test true all later = now all
    by_test false out later = found_later ps ring rings out (common ps rings) later

-- the ring that orders a command of several partitions
several : (nodes rings : List ℕ) (p q : PartitionTable) (ps : List PartitionTable) → IsPartition nodes rings p → (r : Result RingId NoGroup) → Finds (q ∷ ps) p.rings r → IsRouteOf (p ∷ q ∷ ps) r
several nodes rings p q ps good (Ok ring) h = record {
  common = rw h.0 h.1;
  least = λ other all. by_test other (has_ring p.rings other) refl all;
}
  where
    by_test : (other : ℕ) (t : Bool) → has_ring p.rings other ≡ t → (t && all_have (q ∷ ps) other) ≡ true → ring.0 ≤ other
    by_test other true has all = h.2 other has all
    by_test other false has all = absurd cc
several nodes rings p q ps good (Err none) h = λ other. by_test other (has_ring p.rings other) refl
  where
    by_test : (other : ℕ) (t : Bool) → has_ring p.rings other ≡ t → (t && all_have (q ∷ ps) other) ≡ false
    by_test other true has = h other has
    by_test other false has = refl

route_is : (nodes rings : List ℕ) (ps : List PartitionTable) → AllByRecursion (IsPartition nodes rings) ps → IsRouteOf ps (route_of ps)
route_is nodes rings [] each = refl
route_is nodes rings (p ∷ []) each = (refl, has_is_among p.rings p.home.0 ∙ each.0.home)
route_is nodes rings (p ∷ q ∷ ps) each = several nodes rings p q ps each.0 (common (q ∷ ps) p.rings) (common_finds (q ∷ ps) 0 p.rings each.0.increase)

pub concerned_are : (nodes rings : List ℕ) (command : Command) (ps : List PartitionTable) → AllByRecursion (IsPartition nodes rings) ps → AllByRecursion (IsPartition nodes rings) (concerned_of command ps)
concerned_are nodes rings command [] each = tt
concerned_are nodes rings command (p ∷ ps) each = by_test (is_concerned command p) (concerned_are nodes rings command ps each.1)
  where
    by_test : (t : Bool) → AllByRecursion (IsPartition nodes rings) (concerned_of command ps) → AllByRecursion (IsPartition nodes rings) (if t then p ∷ concerned_of command ps else concerned_of command ps)
    by_test true later = (each.0, later)
    by_test false later = later

pub route_of_concerned : (nodes rings : List ℕ) (command : Command) (ps : List PartitionTable) → AllByRecursion (IsPartition nodes rings) ps → IsRouteOf (concerned_of command ps) (route_of (concerned_of command ps))
route_of_concerned nodes rings command ps each = route_is nodes rings (concerned_of command ps) (concerned_are nodes rings command ps each)
