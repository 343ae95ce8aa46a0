-- The ring of a valid deployment.
use Rattle.std.proofs.Common.{arith, inl, inr, zero, suc, Contains, ◌≡◌, ◌<◌, ◌≤◌, ℕ, ◌+◌, List, [], ◌∷◌, length, get_or, refl, sym, ap, ◌∙◌, subst, Bool, false, IsTrue}
use Rattle.std.specs.List.{AllByRecursion}
use Rattle.std.proofs.lemmas.Grind.{common_steps}
use Rattle.std.proofs.lemmas.Bool.{cases_eq}
use Rattle.mrp_types.specs.declared.id.NodeId.{NodeId}
use Rattle.mrp_config.specs.declared.tables.RingTable.{RingTable}
use Rattle.mrp_config.specs.Config.{Config}
use Rattle.mrp_config.specs.Walk.{node_ids, numbers_of_nodes}
use Rattle.mrp_config.specs.Valid.{IsValid, AreRings, AreAtMost}
use Rattle.mrp_config.specs.declared.tables.PartitionTable.{PartitionTable}
use Rattle.world.specs.Built.{IsBuilt, IsBuiltRing, AreSame}
use Rattle.world.specs.Ring.{IsRing}

low_nodes : (nodes : List NodeId) → AreAtMost 31 (numbers_of_nodes nodes) → AllByRecursion (λ (node : NodeId). node.0 < 32) nodes
low_nodes [] are = tt
low_nodes (node ∷ nodes) are = (omega (arith, are.0), low_nodes nodes are.1)

same_length : (nodes : List NodeId) → length (numbers_of_nodes nodes) ≡ length nodes
same_length nodes = grind (arith, common_steps)

only_ring : (nodes : List ℕ) (ring : RingTable) → AreRings nodes (ring ∷ []) → IsRing ring
only_ring nodes ring are =
    let seats = are.acceptors.0 in
    record {
      id = omega (arith, are.numbers.0);
      some = omega (arith, same_length ring.acceptors, seats.few.0);
      few = omega (arith, same_length ring.acceptors, seats.few.1);
      low = low_nodes ring.acceptors seats.numbers;
      different = seats.different;
    }

pub built_ring_is : (config : Config) (ring : RingTable) → IsValid config → IsBuiltRing config ring → IsRing ring
built_ring_is config ring valid built = only_ring (node_ids config.nodes) ring (subst (λ (rings : List RingTable). AreRings (node_ids config.nodes) rings) built.alone valid.rings)

-- ---- which deployments are built

pub only_one : {X : Type 0} (xs : List X) (x : X) → 1 ≤ length xs → length xs < 2 → x ≡ get_or xs 0 x → xs ≡ x ∷ []
only_one [] x some few is = absurd (grind arith)
only_one (y ∷ []) x some few is = ap (λ z. z ∷ []) (sym is)
only_one (y ∷ z ∷ rest) x some few is = absurd (grind (arith, common_steps))

pub is_built : (config : Config) (ring : RingTable) (p : PartitionTable) → config.rings ≡ ring ∷ [] → config.partitions ≡ p ∷ [] → config.lambda ≡ 0 →
    AreSame p.replicas ring.acceptors → IsBuiltRing config ring
is_built config ring p alone other level same = record { alone = alone; level = level; replicas = (p, other, same) }

first_of : {X : Type 0} (x y : X) (xs ys : List X) → x ∷ xs ≡ y ∷ ys → x ≡ y
first_of x y xs ys is = cc

pub not_built : (config : Config) (ring : RingTable) (p : PartitionTable) → config.rings ≡ ring ∷ [] → config.partitions ≡ p ∷ [] →
    (AreSame p.replicas ring.acceptors → ⊥) → IsBuilt config → ⊥
not_built config ring p alone other differ built =
    let rings : built.0 ≡ ring = first_of built.0 ring [] [] (sym built.1.alone ∙ alone) in
    let partitions : built.1.replicas.0 ≡ p = first_of built.1.replicas.0 p [] [] (sym built.1.replicas.1 ∙ other) in
    differ (subst (λ (q : PartitionTable). AreSame q.replicas ring.acceptors) partitions
    (subst (λ (r : RingTable). AreSame built.1.replicas.0.replicas r.acceptors) rings built.1.replicas.2))

pub not_so : (b : Bool) → b ≡ false → IsTrue b → ⊥
not_so b is so = cc

-- an item doesn't hang on what stands for none
same_item : (nodes : List NodeId) (n : ℕ) (d e : NodeId) → n < length nodes → get_or nodes n d ≡ get_or nodes n e
same_item [] n d e inside = absurd (grind arith)
same_item (x ∷ nodes) zero d e inside = refl
same_item (x ∷ nodes) (suc n) d e inside = same_item nodes n d e (omega (arith, shorter x nodes inside))
  where
    shorter : (x : NodeId) (xs : List NodeId) → suc n < length (x ∷ xs) → n < length xs
    shorter x xs inside = grind arith

pub one_more : (nodes others : List NodeId) (n : ℕ) (e : NodeId) → n < length nodes → ((k : ℕ) (d : NodeId) → k < n → Contains others (get_or nodes k d)) →
    Contains others (get_or nodes n e) → (k : ℕ) (d : NodeId) → k < n + 1 → Contains others (get_or nodes k d)
one_more nodes others n e inside are last k d below =
    elim (cases_eq k n) [
      | inl same ↦ subst (λ (x : NodeId). Contains others x) (same_item nodes n e d inside ∙ ap (λ i. get_or nodes i d) (sym same)) last
      | inr other ↦ are k d (omega (arith, below, other))
    ]
