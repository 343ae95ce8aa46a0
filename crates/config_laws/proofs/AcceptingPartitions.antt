-- The tables of valid partitions are accepted.
use Rattle.std.proofs.Common.{arith, ◌≡◌, ℕ, ◌+◌, ◌≤◌, ◌==◌, Bool, true, false, if◌then◌else◌, List, [], ◌∷◌, ◌++◌, length, map, refl, sym, ◌∙◌, ap, subst, Some, Ok, codes}
use Rattle.std.proofs.lemmas.Bool.{le-leb, lt-ltb}
use Rattle.std.proofs.lemmas.List.{length-map}
use Rattle.std.proofs.lemmas.Slice.Eq.{bytes_eq-Decides}
use Rattle.std.specs.List.{AllByRecursion}
use Rattle.toml.specs.Data.{string}
use Rattle.hex.specs.Hex.{encode_lower}
use Rattle.mrp_types.specs.declared.id.NodeId.{NodeId}
use Rattle.mrp_types.specs.declared.id.RingId.{RingId}
use Rattle.mrp_types.specs.declared.id.LogId.{LogId}
use Rattle.config_walk.specs.declared.fault.ConfigFault.TheVariants.{UnknownId}
use Rattle.mrp_config.specs.declared.tables.PartitionTable.{PartitionTable}
use Rattle.mrp_config.specs.Config.{has_ring}
use Rattle.mrp_types.specs.Seats.{is_among, numbers_of_nodes}
use Rattle.config_walk.specs.Values.{unless, number_of, numbers_of, each_rises, each_known, id_of, subscribed_of, logs_of, as_rings, as_logs, seats_of, hex_of, quorum_of}
use Rattle.mrp_config.specs.Walk.{home_of, partition_of, partitions_of, has_quorums, quorums_meet, ranges_follow, first_taken, logs_once, judged}
use Rattle.config_laws.specs.Tables.{number, numbers, partition_table}
use Rattle.mrp_config.specs.Valid.{IncreasesFrom, AreAtMost, AreAmong, AreApart, AreAllApart, IsBetween, AreQuorums, IsPartition, ArePartitions, AreEndToEnd, numbers_of_rings, numbers_of_logs, partition_ids, replicas_of, logs_of as lists_of_logs}
use Rattle.mrp_config.proofs.Steps.{step}
use Rattle.config_laws.proofs.Spelled.{passes, apart_from_none, number_back, id_back, hex_back, min_of, numbers_back, rises_back, known_back, seats_back, all_join}
use Rattle.mrp_config.proofs.Members.{has_is_among}
use Rattle.mrp_config.proofs.AcceptedPartitions.{as_many_rings, as_many_logs, not_empty, is_among_logs, joined_logs}

-- ---- the lists of one partition

rings_again : (rings : List RingId) → as_rings (numbers_of_rings rings) ≡ rings
rings_again [] = refl
rings_again (r ∷ rings) = ap (λ (l : List RingId). r ∷ l) (rings_again rings)

logs_again : (logs : List LogId) → as_logs (numbers_of_logs logs) ≡ logs
logs_again [] = refl
logs_again (l ∷ logs) = ap (λ (k : List LogId). l ∷ k) (logs_again logs)

as_many_nodes : (nodes : List NodeId) → length (numbers_of_nodes nodes) ≡ length nodes
as_many_nodes nodes = length-map nodes (λ (n : NodeId). n.0)

subscribed_back : (name rings : List ℕ) (own : List RingId) → IsBetween 1 16 (length own) → AreAtMost 15 (numbers_of_rings own) → IncreasesFrom 0 (numbers_of_rings own) → AreAmong rings (numbers_of_rings own) →
    subscribed_of name rings (Some (numbers (numbers_of_rings own))) ≡ Ok own
unfolding subscribed_of
subscribed_back name rings own few low increase known =
    let ns = numbers_of_rings own in
    let many = as_many_rings own in
    step (numbers_of name 1 16 15 (Some (numbers ns))) _ ns _ (numbers_back name 1 16 15 ns (rw many few.0, rw many few.1) low)
    (step (each_rises name 0 ns) _ tt _ (rises_back name 0 ns increase)
    (step (each_known name rings ns) _ tt _ (known_back name rings ns known) (ap Ok (rings_again own))))

-- a number that is one of several is at most the greatest that they may be
among_most : (most n : ℕ) (ns : List ℕ) → AreAtMost most ns → is_among n ns ≡ true → n ≤ most
among_most most n [] low h = absurd cc
among_most most n (m ∷ ns) low h = by_test (m == n) refl h (among_most most n ns low.1)
  where
    by_test : (t : Bool) → (m == n) ≡ t → (if t then true else is_among n ns) ≡ true → (is_among n ns ≡ true → n ≤ most) → n ≤ most
    by_test true is h later = let same : m ≡ n = grind arith in subst (λ k. k ≤ most) same low.0
    by_test false is h later = later h

home_back : (rings : List RingId) (home : RingId) → AreAtMost 15 (numbers_of_rings rings) → is_among home.0 (numbers_of_rings rings) ≡ true → home_of rings (Some (number home.0)) ≡ Ok home
unfolding home_of
home_back rings home low h =
    let known : has_ring rings home.0 ≡ true = has_is_among rings home.0 ∙ h in
    step (number_of (codes "partition.home") 0 15 (Some (number home.0))) _ home.0 _ (number_back (codes "partition.home") 0 15 home.0 (omega arith, among_most 15 home.0 (numbers_of_rings rings) low h))
    (step (unless (has_ring rings home.0) (UnknownId (codes "partition.home") home.0)) _ tt _ (passes (has_ring rings home.0) (UnknownId (codes "partition.home") home.0) known) refl)

logs_of_back : (name : List ℕ) (logs : List LogId) → length logs ≤ 64 → AreAtMost 63 (numbers_of_logs logs) → IncreasesFrom 0 (numbers_of_logs logs) → logs_of name (Some (numbers (numbers_of_logs logs))) ≡ Ok logs
unfolding logs_of
logs_of_back name logs few low increase =
    let ns = numbers_of_logs logs in
    step (numbers_of name 0 64 63 (Some (numbers ns))) _ ns _ (numbers_back name 0 64 63 ns (omega arith, rw (as_many_logs logs) few) low)
    (step (each_rises name 0 ns) _ tt _ (rises_back name 0 ns increase) (ap Ok (logs_again logs)))

quorum_back : (name : List ℕ) (n : ℕ) → n ≤ 255 → quorum_of name (Some (number n)) ≡ Ok n
unfolding quorum_of
quorum_back name n low = rw (min_of n 255 low) refl

partition_back : (nodes rings taken : List ℕ) (start : ℕ) (p : PartitionTable) → start ≤ p.id.0 → p.id.0 ≤ 15 → AreApart taken (numbers_of_nodes p.replicas) → IsPartition nodes rings p →
    AreQuorums (length p.replicas) p.trim_quorum p.recovery_quorum → partition_of nodes rings taken start (partition_table p) ≡ Ok p
unfolding partition_of partition_table
partition_back nodes rings taken start p low high free good meet =
    let replicas : length p.replicas ≤ 7 = rw (← as_many_nodes p.replicas) good.replicas.few.1 in
    step (id_of (codes "partition.id") 15 start (Some (number p.id.0))) _ p.id.0 _ (id_back (codes "partition.id") 15 start p.id.0 low high)
    (step (seats_of (codes "partition.replicas") taken nodes (Some (numbers (numbers_of_nodes p.replicas)))) _ p.replicas _ (seats_back (codes "partition.replicas") taken nodes p.replicas good.replicas free)
    (step (subscribed_of (codes "partition.rings") rings (Some (numbers (numbers_of_rings p.rings)))) _ p.rings _ (subscribed_back (codes "partition.rings") rings p.rings good.some good.numbers good.increase good.known)
    (step (home_of p.rings (Some (number p.home.0))) _ p.home _ (home_back p.rings p.home good.numbers good.home)
    (step (hex_of (codes "partition.from") (Some (string (encode_lower p.from)))) _ p.from _ (hex_back (codes "partition.from") p.from good.from)
    (step (hex_of (codes "partition.to") (Some (string (encode_lower p.to)))) _ p.to _ (hex_back (codes "partition.to") p.to good.to)
    (step (logs_of (codes "partition.logs") (Some (numbers (numbers_of_logs p.logs)))) _ p.logs _ (logs_of_back (codes "partition.logs") p.logs good.few_logs good.low_logs good.logs)
    (step (quorum_of (codes "partition.trim_quorum") (Some (number p.trim_quorum))) _ p.trim_quorum _ (quorum_back (codes "partition.trim_quorum") p.trim_quorum (omega (arith, meet.trims.1, replicas)))
    (step (quorum_of (codes "partition.recovery_quorum") (Some (number p.recovery_quorum))) _ p.recovery_quorum _ (quorum_back (codes "partition.recovery_quorum") p.recovery_quorum (omega (arith, meet.recovers.1, replicas))) refl))))))))

-- ---- all of them

pub partitions_back : (nodes rings taken : List ℕ) (start : ℕ) (ps : List PartitionTable) → IncreasesFrom start (partition_ids ps) → AreAtMost 15 (partition_ids ps) → AllByRecursion (IsPartition nodes rings) ps →
    AllByRecursion (λ (p : PartitionTable). AreQuorums (length p.replicas) p.trim_quorum p.recovery_quorum) ps → AllByRecursion (AreApart taken) (replicas_of ps) → AreAllApart (replicas_of ps) →
    partitions_of nodes rings taken start (map partition_table ps) ≡ Ok ps
partitions_back nodes rings taken start [] low high each meet free apart = refl
partitions_back nodes rings taken start (p ∷ ps) low high each meet free apart =
    let later = taken ++ numbers_of_nodes p.replicas in
    step (partition_of nodes rings taken start (partition_table p)) _ p _ (partition_back nodes rings taken start p low.0 high.0 free.0 each.0 meet.0)
    (step (partitions_of nodes rings later (p.id.0 + 1) (map partition_table ps)) _ ps _
    (partitions_back nodes rings later (p.id.0 + 1) ps low.1 high.1 each.1 meet.1 (all_join taken (numbers_of_nodes p.replicas) (replicas_of ps) free.1 apart.0) apart.1) refl)

-- ---- what is judged last

quorums_back : (ps : List PartitionTable) → AllByRecursion (λ (p : PartitionTable). AreQuorums (length p.replicas) p.trim_quorum p.recovery_quorum) ps → quorums_meet ps ≡ Ok tt
quorums_back [] h = refl
quorums_back (p ∷ ps) h =
    let n = length p.replicas in
    let good : has_quorums n p.trim_quorum p.recovery_quorum ≡ true =
    rw (le-leb 1 p.trim_quorum h.0.trims.0, le-leb p.trim_quorum n h.0.trims.1, le-leb 1 p.recovery_quorum h.0.recovers.0, le-leb p.recovery_quorum n h.0.recovers.1, lt-ltb n (p.trim_quorum + p.recovery_quorum) h.0.meet) refl in
    rw good (quorums_back ps h.1)

ranges_back : (start : List ℕ) (ps : List PartitionTable) → AreEndToEnd start ps → ranges_follow start ps ≡ Ok tt
ranges_back start [] h = refl
ranges_back start (p ∷ []) h = rw ((bytes_eq-Decides p.from start).1 h.0, h.1) refl
ranges_back start (p ∷ q ∷ ps) h = rw ((bytes_eq-Decides p.from start).1 h.0, not_empty q ps, h.1) (ranges_back p.to (q ∷ ps) h.2)

taken_back : (taken logs : List LogId) → AreApart (numbers_of_logs taken) (numbers_of_logs logs) → first_taken taken logs ≡ Ok tt
taken_back taken [] h = refl
taken_back taken (log ∷ logs) h = rw (is_among_logs taken log.0, h.0) (taken_back taken logs h.1)

logs_once_back : (taken : List LogId) (ps : List PartitionTable) → AllByRecursion (AreApart (numbers_of_logs taken)) (lists_of_logs ps) → AreAllApart (lists_of_logs ps) → logs_once taken ps ≡ Ok tt
logs_once_back taken [] free apart = refl
logs_once_back taken (p ∷ ps) free apart =
    let later = all_join (numbers_of_logs taken) (numbers_of_logs p.logs) (lists_of_logs ps) free.1 apart.0 in
    let moved = subst (λ (l : List ℕ). AllByRecursion (AreApart l) (lists_of_logs ps)) (sym (joined_logs taken p.logs)) later in
    step (first_taken taken p.logs) _ tt _ (taken_back taken p.logs free.0) (logs_once_back (taken ++ p.logs) ps moved apart.1)

pub none_apart : (lists : List (List ℕ)) → AllByRecursion (AreApart []) lists
none_apart [] = tt
none_apart (ns ∷ lists) = (apart_from_none ns, none_apart lists)

pub judged_back : (nodes rings : List ℕ) (ps : List PartitionTable) → ArePartitions nodes rings ps → judged ps ≡ Ok tt
judged_back nodes rings ps h =
    step (quorums_meet ps) _ tt _ (quorums_back ps h.quorums)
    (step (ranges_follow [] ps) _ tt _ (ranges_back [] ps h.ranges) (logs_once_back [] ps (none_apart (lists_of_logs ps)) h.logs))
