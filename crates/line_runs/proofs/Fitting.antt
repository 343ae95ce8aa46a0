-- A valid deployment is fit.
use Rattle.std.proofs.Common.{◌≡◌, ℕ, inl, inr, Bool, true, false, List, [], ◌∷◌, Some, refl, sym, ◌∙◌, ap, subst, arith, true≢false}
use Rattle.std.specs.Prelude.{◌==◌, length, if◌then◌else◌}
use Rattle.std.specs.List.{AllByRecursion}
use Rattle.std.proofs.lemmas.Bool.Decides.{nat_tests}
use Rattle.mrp_types.specs.declared.id.NodeId.{NodeId}
use Rattle.mrp_config.specs.Config.{Config, has_node, partition_of}
use Rattle.mrp_config.specs.Walk.{is_among, numbers_of_nodes, node_ids, ring_ids}
use Rattle.mrp_config.specs.Valid.{IsValid, IsPartition, AreQuorums, AreApart, AreAllApart, replicas_of}
use Rattle.mrp_config.proofs.Rounds.{round_in_range}
use Rattle.mrp_config.specs.declared.tables.PartitionTable.{PartitionTable}
use Rattle.quorums.specs.Groups.{Has}
use Rattle.faithful.proofs.Quorum.{all_has}
use Rattle.recovery_lines.specs.Ties.{IsFit}

node_among : (nodes : List NodeId) (n : ℕ) → is_among n (numbers_of_nodes nodes) ≡ has_node nodes n
node_among [] n = refl
node_among (node ∷ nodes) n = ap (λ (b : Bool). if node.0 == n then true else b) (node_among nodes n)

one_apart : (xs : List ℕ) (nodes : List NodeId) (n : ℕ) → AreApart xs (numbers_of_nodes nodes) → has_node nodes n ≡ true → is_among n xs ≡ false
one_apart xs [] n apart h = absurd (true≢false (sym h))
one_apart xs (node ∷ nodes) n apart h = go (node.0 == n) refl h (λ g. one_apart xs nodes n apart.1 g)
  where
    same : (i j : ℕ) → (i == j) ≡ true → i ≡ j
    same i j e = grind (arith, nat_tests)

    go : (b : Bool) → (node.0 == n) ≡ b → (if b then true else has_node nodes n) ≡ true → (has_node nodes n ≡ true → is_among n xs ≡ false) → is_among n xs ≡ false
    go true e h rest = subst (λ (k : ℕ). is_among k xs ≡ false) (same node.0 n e) apart.0
    go false e h rest = rest h

apart_from : (xs : List ℕ) (ps : List PartitionTable) (p : PartitionTable) → AllByRecursion (AreApart xs) (replicas_of ps) → Has ps p → AreApart xs (numbers_of_nodes p.replicas)
apart_from xs [] p all h = absurd h
apart_from xs (q ∷ ps) p all (inl e) = subst (λ (r : PartitionTable). AreApart xs (numbers_of_nodes r.replicas)) (sym e) all.0
apart_from xs (q ∷ ps) p all (inr h) = apart_from xs ps p all.1 h

found : (ps : List PartitionTable) (p : PartitionTable) (node : NodeId) → AreAllApart (replicas_of ps) → Has ps p → has_node p.replicas node.0 ≡ true → partition_of ps node ≡ Some p
found [] p node apart h replica = absurd h
found (q ∷ ps) p node apart (inl e) replica = rw (subst (λ (r : PartitionTable). has_node r.replicas node.0 ≡ true) e replica) (ap (λ (r : PartitionTable). Some r) (sym e))
found (q ∷ ps) p node apart (inr h) replica =
    rw (sym (node_among q.replicas node.0) ∙ one_apart (numbers_of_nodes q.replicas) p.replicas node.0 (apart_from (numbers_of_nodes q.replicas) ps p apart.0 h) replica) (found ps p node apart.1 h replica)

pub valid_fits : (c : Config) → IsValid c → IsFit c
valid_fits c v = record {
  rounds = λ ring. (round_in_range c v (record { 0 = ring })).0;
  checkpoint = omega (arith, v.checkpoint.0);
  meet = λ p h. (all_has (λ (q : PartitionTable). AreQuorums (length q.replicas) q.trim_quorum q.recovery_quorum) c.partitions p v.partitions.quorums h).meet;
  some = λ p h. let s = (all_has (IsPartition (node_ids c.nodes) (ring_ids c.rings)) c.partitions p v.partitions.each h).some in omega (arith, s.0);
  quorum = λ p h. let s = (all_has (λ (q : PartitionTable). AreQuorums (length q.replicas) q.trim_quorum q.recovery_quorum) c.partitions p v.partitions.quorums h).recovers in omega (arith, s.0);
  alone = λ p node h replica. found c.partitions p node v.partitions.replicas h replica;
}
