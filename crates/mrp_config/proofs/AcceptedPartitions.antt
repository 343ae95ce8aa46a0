-- Partitions that are accepted are valid.
use Rattle.std.proofs.Common.{arith, ◌≡◌, ℕ, ◌+◌, ◌≤◌, ◌==◌, ◌&&◌, true, false, if◌then◌else◌, true≢false, List, [], ◌∷◌, ◌++◌, length, nat_le, nat_lt, refl, sym, ◌∙◌, ap, subst, Option, Ok, codes}
use Rattle.std.proofs.lemmas.Bool.{leb-true}
use Rattle.std.proofs.lemmas.List.{length-map}
use Rattle.std.proofs.lemmas.Slice.Eq.{bytes_eq-Decides}
use Rattle.std.specs.Str.{bytes_eq}
use Rattle.std.specs.List.{AllByRecursion}
use Rattle.toml.specs.Data.{Data, Members, get_member}
use Rattle.mrp_types.proofs.TestLemmas.{both, below}
use Rattle.mrp_types.specs.declared.id.RingId.{RingId}
use Rattle.mrp_types.specs.declared.id.LogId.{LogId}
use Rattle.mrp_config.specs.declared.tables.PartitionTable.{PartitionTable}
use Rattle.mrp_config.specs.Config.{has_log, has_ring}
use Rattle.mrp_types.specs.Seats.{is_among, numbers_of_nodes}
use Rattle.config_walk.specs.Values.{unless, number_of, numbers_of, each_rises, each_known, id_of, all_known, tables_of, subscribed_of, logs_of, as_rings, as_logs, seats_of, hex_of, quorum_of}
use Rattle.mrp_config.specs.Walk.{home_of, partition_names, partition_of, Asked, asked_after, top_partitions, has_quorums, quorums_meet, ends_well, ranges_follow, first_taken, logs_once, judged}
use Rattle.mrp_config.specs.Valid.{IncreasesFrom, AreAtMost, AreAmong, AreApart, AreAllApart, IsBetween, AreQuorums, IsPartition, ArePartitions, AreEndToEnd, numbers_of_rings, numbers_of_logs, partition_ids, replicas_of, logs_of as lists_of_logs}
use Rattle.config_walk.proofs.Seen.{bound, ok_is, tested, then_was, else_was, Chained, chain_saw, as_many, id_saw, hex_saw, numbers_saw, rises_saw, known_saw, seats_saw, apart_split}
use Rattle.mrp_config.proofs.Accepted.{IsId, tables_saw}
use Rattle.mrp_config.proofs.Members.{has_is_among}

-- ---- the lists of one partition

rings_back : (ns : List ℕ) → ns ≡ numbers_of_rings (as_rings ns)
rings_back [] = refl
rings_back (n ∷ ns) = ap (λ (l : List ℕ). n ∷ l) (rings_back ns)

logs_back : (ns : List ℕ) → ns ≡ numbers_of_logs (as_logs ns)
logs_back [] = refl
logs_back (n ∷ ns) = ap (λ (l : List ℕ). n ∷ l) (logs_back ns)

pub as_many_rings : (rings : List RingId) → length (numbers_of_rings rings) ≡ length rings
as_many_rings rings = length-map rings (λ (r : RingId). r.0)

pub as_many_logs : (logs : List LogId) → length (numbers_of_logs logs) ≡ length logs
as_many_logs logs = length-map logs (λ (l : LogId). l.0)

record AreSubscribed (rings ns : List ℕ) : Type 0 where
  some : IsBetween 1 16 (length ns)
  numbers : AreAtMost 15 ns
  increase : IncreasesFrom 0 ns
  known : AreAmong rings ns

subscribed_saw : (name rings : List ℕ) (found : Option Data) (own : List RingId) → subscribed_of name rings found ≡ Ok own → AreSubscribed rings (numbers_of_rings own)
unfolding subscribed_of
subscribed_saw name rings found own h =
    let a = bound (numbers_of name 1 16 15 found) _ own h in
    let b = bound (each_rises name 0 a.0) _ own a.2 in
    let c = bound (each_known name rings a.0) (λ u. Ok (as_rings a.0)) own b.2 in
    let many = numbers_saw name 1 16 15 found a.0 a.1 in
    let same : a.0 ≡ numbers_of_rings own = rings_back a.0 ∙ ap numbers_of_rings (ok_is (as_rings a.0) own c.2) in
    subst (AreSubscribed rings) same (record { some = many.0; numbers = many.1; increase = rises_saw name 0 a.0 b.0 b.1; known = known_saw name rings a.0 c.0 c.1 })

home_saw : (rings : List RingId) (found : Option Data) (home : RingId) → home_of rings found ≡ Ok home → is_among home.0 (numbers_of_rings rings) ≡ true
unfolding home_of
home_saw rings found home h =
    let a = bound (number_of (codes "partition.home") 0 15 found) _ home h in
    let b = bound (unless (has_ring rings a.0) _) (λ u. Ok (record { 0 = a.0 })) home a.2 in
    subst (λ (k : RingId). is_among k.0 (numbers_of_rings rings) ≡ true) (ok_is (record { 0 = a.0 }) home b.2) (sym (has_is_among rings a.0) ∙ tested _ _ b.0 b.1)

record AreLogs (ns : List ℕ) : Type 0 where
  few : length ns ≤ 64
  numbers : AreAtMost 63 ns
  increase : IncreasesFrom 0 ns

logs_saw : (name : List ℕ) (found : Option Data) (logs : List LogId) → logs_of name found ≡ Ok logs → AreLogs (numbers_of_logs logs)
unfolding logs_of
logs_saw name found logs h =
    let a = bound (numbers_of name 0 64 63 found) _ logs h in
    let b = bound (each_rises name 0 a.0) (λ u. Ok (as_logs a.0)) logs a.2 in
    let many = numbers_saw name 0 64 63 found a.0 a.1 in
    let same : a.0 ≡ numbers_of_logs logs = logs_back a.0 ∙ ap numbers_of_logs (ok_is (as_logs a.0) logs b.2) in
    subst AreLogs same (record { few = many.0.1; numbers = many.1; increase = rises_saw name 0 a.0 b.0 b.1 })

record SawPartition (nodes rings taken : List ℕ) (start : ℕ) (p : PartitionTable) : Type 0 where
  id : IsId start 15 p.id.0
  free : AreApart taken (numbers_of_nodes p.replicas)
  part : IsPartition nodes rings p

partition_saw : (nodes rings taken : List ℕ) (start : ℕ) (t : Members) (p : PartitionTable) → partition_of nodes rings taken start t ≡ Ok p → SawPartition nodes rings taken start p
unfolding partition_of
partition_saw nodes rings taken start t p h =
    let a = bound (id_of (codes "partition.id") 15 start (get_member (codes "id") t)) _ p h in
    let b = bound (seats_of (codes "partition.replicas") taken nodes (get_member (codes "replicas") t)) _ p a.2 in
    let c = bound (subscribed_of (codes "partition.rings") rings (get_member (codes "rings") t)) _ p b.2 in
    let d = bound (home_of c.0 (get_member (codes "home") t)) _ p c.2 in
    let e = bound (hex_of (codes "partition.from") (get_member (codes "from") t)) _ p d.2 in
    let f = bound (hex_of (codes "partition.to") (get_member (codes "to") t)) _ p e.2 in
    let g = bound (logs_of (codes "partition.logs") (get_member (codes "logs") t)) _ p f.2 in
    let i = bound (quorum_of (codes "partition.trim_quorum") (get_member (codes "trim_quorum") t)) _ p g.2 in
    let j = bound (quorum_of (codes "partition.recovery_quorum") (get_member (codes "recovery_quorum") t)) _ p i.2 in
    let k = bound (all_known (codes "partition.") partition_names t) _ p j.2 in
    let replicas = seats_saw (codes "partition.replicas") taken nodes (get_member (codes "replicas") t) b.0 b.1 in
    let own = subscribed_saw (codes "partition.rings") rings (get_member (codes "rings") t) c.0 c.1 in
    let logs = logs_saw (codes "partition.logs") (get_member (codes "logs") t) g.0 g.1 in
    subst (SawPartition nodes rings taken start) (ok_is (record {
      id = record { 0 = a.0 };
      replicas = b.0;
      rings = c.0;
      home = d.0;
      from = e.0;
      to = f.0;
      logs = g.0;
      trim_quorum = i.0;
      recovery_quorum = j.0;
    }) p k.2) (record {
      id = id_saw (codes "partition.id") 15 start (get_member (codes "id") t) a.0 a.1;
      free = replicas.1;
      part = record {
        replicas = replicas.0;
        some = (rw (← as_many_rings c.0) own.some.0, rw (← as_many_rings c.0) own.some.1);
        increase = own.increase;
        numbers = own.numbers;
        known = own.known;
        home = home_saw c.0 (get_member (codes "home") t) d.0 d.1;
        from = hex_saw (codes "partition.from") (get_member (codes "from") t) e.0 e.1;
        to = hex_saw (codes "partition.to") (get_member (codes "to") t) f.0 f.1;
        few_logs = rw (← as_many_logs g.0) logs.few;
        logs = logs.increase;
        low_logs = logs.numbers;
      };
    })

-- ---- all of them

record ArePartitionsFrom (nodes rings : List ℕ) (asked : Asked) (ps : List PartitionTable) : Type 0 where
  ids : IncreasesFrom asked.1 (partition_ids ps)
  numbers : AreAtMost 15 (partition_ids ps)
  each : AllByRecursion (IsPartition nodes rings) ps
  free : AllByRecursion (AreApart asked.0) (replicas_of ps)
  apart : AreAllApart (replicas_of ps)

all_split : (xs ys : List ℕ) (lists : List (List ℕ)) → AllByRecursion (AreApart (xs ++ ys)) lists → AllByRecursion (AreApart xs) lists × AllByRecursion (AreApart ys) lists
all_split xs ys [] h = (tt, tt)
all_split xs ys (zs ∷ lists) h =
    let one = apart_split xs ys zs h.0 in
    let rest = all_split xs ys lists h.1 in
    ((one.0, rest.0), (one.1, rest.1))

partitions_saw : (nodes rings : List ℕ) (asked : Asked) (ts : List Members) (ps : List PartitionTable) → Chained (λ (asked : Asked) t. partition_of nodes rings asked.0 asked.1 t) asked_after asked ts ps → ArePartitionsFrom nodes rings asked ps
partitions_saw nodes rings asked [] [] h = record { ids = tt; numbers = tt; each = tt; free = tt; apart = tt }
partitions_saw nodes rings asked [] (p ∷ ps) h = absurd h
partitions_saw nodes rings asked (t ∷ ts) [] h = absurd h
partitions_saw nodes rings asked (t ∷ ts) (p ∷ ps) h =
    let one = partition_saw nodes rings asked.0 asked.1 t p h.0 in
    let rest = partitions_saw nodes rings (asked_after asked p) ts ps h.1 in
    let free = all_split asked.0 (numbers_of_nodes p.replicas) (replicas_of ps) rest.free in
    record {
      ids = (one.id.0, rest.ids);
      numbers = (one.id.1, rest.numbers);
      each = (one.part, rest.each);
      free = (one.free, free.0);
      apart = (free.1, rest.apart);
    }

-- ---- what is judged last

quorums_saw : (ps : List PartitionTable) (u : Unit {0}) → quorums_meet ps ≡ Ok u → AllByRecursion (λ (p : PartitionTable). AreQuorums (length p.replicas) p.trim_quorum p.recovery_quorum) ps
quorums_saw [] u h = tt
quorums_saw (p ∷ ps) u h =
    let n = length p.replicas in
    let now = then_was (has_quorums n p.trim_quorum p.recovery_quorum) _ (quorums_meet ps) u h in
    let halves = both (nat_le 1 p.trim_quorum && nat_le p.trim_quorum n) _ now.0 in
    let trims = both (nat_le 1 p.trim_quorum) (nat_le p.trim_quorum n) halves.0 in
    let more = both (nat_le 1 p.recovery_quorum && nat_le p.recovery_quorum n) (nat_lt n (p.trim_quorum + p.recovery_quorum)) halves.1 in
    let recovers = both (nat_le 1 p.recovery_quorum) (nat_le p.recovery_quorum n) more.0 in (
      record {
        trims = (leb-true _ _ trims.0, leb-true _ _ trims.1);
        recovers = (leb-true _ _ recovers.0, leb-true _ _ recovers.1);
        meet = below n (p.trim_quorum + p.recovery_quorum) more.1;
      },
      quorums_saw ps u now.1,
    )

pub not_empty : {X : Type 0} (x : X) (xs : List X) → (length (x ∷ xs) == 0) ≡ false
not_empty x xs = grind arith

is_empty : (xs : List ℕ) → (length xs == 0) ≡ true → xs ≡ []
is_empty [] h = refl
is_empty (x ∷ xs) h = absurd (true≢false (sym h ∙ not_empty x xs))

ranges_saw : (start : List ℕ) (ps : List PartitionTable) (u : Unit {0}) → ranges_follow start ps ≡ Ok u → AreEndToEnd start ps
ranges_saw start [] u h = tt
ranges_saw start (p ∷ []) u h =
    let now = then_was (bytes_eq p.from start && ends_well true p.from p.to) _ (ranges_follow p.to []) u h in
    let pair = both (bytes_eq p.from start) (length p.to == 0) now.0 in
    ((bytes_eq-Decides p.from start).0 pair.0, is_empty p.to pair.1)
ranges_saw start (p ∷ q ∷ ps) u h =
    let now = then_was (bytes_eq p.from start && ends_well (length (q ∷ ps) == 0) p.from p.to) _ (ranges_follow p.to (q ∷ ps)) u h in
    let pair = both (bytes_eq p.from start) (ends_well (length (q ∷ ps) == 0) p.from p.to) now.0 in
    let above = subst (λ t. ends_well t p.from p.to ≡ true) (not_empty q ps) pair.1 in
    ((bytes_eq-Decides p.from start).0 pair.0, above, ranges_saw p.to (q ∷ ps) u now.1)

pub is_among_logs : (logs : List LogId) (n : ℕ) → has_log logs n ≡ is_among n (numbers_of_logs logs)
is_among_logs [] n = refl
is_among_logs (log ∷ logs) n = ap (λ t. if log.0 == n then true else t) (is_among_logs logs n)

taken_saw : (taken logs : List LogId) (u : Unit {0}) → first_taken taken logs ≡ Ok u → AreApart (numbers_of_logs taken) (numbers_of_logs logs)
taken_saw taken [] u h = tt
taken_saw taken (log ∷ logs) u h =
    let now = else_was (has_log taken log.0) _ (first_taken taken logs) u h in
    (sym (is_among_logs taken log.0) ∙ now.0, taken_saw taken logs u now.1)

pub joined_logs : (xs ys : List LogId) → numbers_of_logs (xs ++ ys) ≡ numbers_of_logs xs ++ numbers_of_logs ys
joined_logs [] ys = refl
joined_logs (x ∷ xs) ys = ap (λ (l : List ℕ). x.0 ∷ l) (joined_logs xs ys)

logs_once_saw : (taken : List LogId) (ps : List PartitionTable) (u : Unit {0}) → logs_once taken ps ≡ Ok u → AllByRecursion (AreApart (numbers_of_logs taken)) (lists_of_logs ps) × AreAllApart (lists_of_logs ps)
logs_once_saw taken [] u h = (tt, tt)
logs_once_saw taken (p ∷ ps) u h =
    let a = bound (first_taken taken p.logs) _ u h in
    let rest = logs_once_saw (taken ++ p.logs) ps u a.2 in
    let free = all_split (numbers_of_logs taken) (numbers_of_logs p.logs) (lists_of_logs ps) (subst (λ (l : List ℕ). AllByRecursion (AreApart l) (lists_of_logs ps)) (joined_logs taken p.logs) rest.0) in
    ((taken_saw taken p.logs a.0 a.1, free.0), (free.1, rest.1))

pub top_partitions_saw : (nodes rings : List ℕ) (t : Members) (ps : List PartitionTable) (u : Unit {0}) → top_partitions nodes rings t ≡ Ok ps → judged ps ≡ Ok u → ArePartitions nodes rings ps
top_partitions_saw nodes rings t ps u h good =
    let a = bound (tables_of (codes "partition") 1 16 (get_member (codes "partition") t)) _ ps h in
    let few = tables_saw (codes "partition") 1 16 (get_member (codes "partition") t) a.0 a.1 in
    let each = chain_saw (λ (asked : Asked) t. partition_of nodes rings asked.0 asked.1 t) asked_after ([], 0) a.0 ps a.2 in
    let many : length ps ≡ length a.0 = as_many (λ (asked : Asked) t. partition_of nodes rings asked.0 asked.1 t) asked_after ([], 0) a.0 ps each in
    let all = partitions_saw nodes rings ([], 0) a.0 ps each in
    let meet = bound (quorums_meet ps) _ u good in
    let follow = bound (ranges_follow [] ps) _ u meet.2 in
    record {
      few = (rw many few.0, rw many few.1);
      ids = all.ids;
      numbers = all.numbers;
      each = all.each;
      quorums = quorums_saw ps meet.0 meet.1;
      replicas = all.apart;
      logs = (logs_once_saw [] ps u follow.2).1;
      ranges = ranges_saw [] ps follow.0 follow.1;
    }
