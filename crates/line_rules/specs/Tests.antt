-- A test for each rule, which decides it.
use Rattle.std.specs.Prelude.{ℕ, ◌+◌, ◌==◌, nat_le, nat_lt, min, max, ◌&&◌, ◌||◌, not, Bool, true, false, List, [], ◌∷◌, is_some, Option, Some, None, count_by, bytes_eq}
use Rattle.std.specs.List.{list_all}
use Rattle.mrp_types.specs.declared.id.NodeId.{NodeId}
use Rattle.mrp_types.specs.declared.id.RingId.{RingId}
use Rattle.mrp_types.specs.declared.id.ClientId.{ClientId}
use Rattle.mrp_types.specs.declared.id.Party.{Party}
use Rattle.mrp_types.specs.declared.id.Party.TheVariants.{Node, Client}
use Rattle.mrp_types.specs.declared.id.TheConstants.{END}
use Rattle.mrp_types.specs.declared.value.Value.{Value}
use Rattle.mrp_types.specs.declared.value.Value.TheVariants.{Skip, Batch}
use Rattle.mrp_types.specs.Book.{Learning}
use Rattle.mrp_types.specs.Values.{is_skip}
use Rattle.mrp_config.specs.Config.{Config, node_at, ring_at, client_at, has_node, has_ring, partition_of, subscribers_of}
use Rattle.mrp_config.specs.declared.tables.PartitionTable.{PartitionTable}
use Rattle.plain_model.specs.Tuples.{round_sizes, is_tuple_of, is_at_or_after, instances, tuple_at}
use Rattle.plain_model.specs.Fold.{place_with, state_below, answer_of}
use Rattle.transcript.specs.declared.line.ShownState.{ShownState}
use Rattle.transcript.specs.declared.line.Line.{Line}
use Rattle.transcript.specs.declared.line.Line.TheVariants.{Learn, Deliver, Reply, Answer, Busy, Begin, Chose, Restore, Saved, Trim, Refuse, BallotLimit, InstanceLimit, AttemptLimit, Down, Up, State, Frame}
use Rattle.line_rules.specs.Scanners.{Mark, Restored, life, up_epoch, attempting, unchosen, chosen, before_begin, told, begun, entry_of, some_reaches, paired, position, book, learned}
use Rattle.line_rules.specs.Owed.{owed}

-- ---- words

-- something is there, and passes
abbrev pub is_some_that : {T : Type 0} → (T → Bool) → Option T → Bool
is_some_that test None = false
is_some_that test (Some x) = test x

abbrev pub is_empty : {T : Type 0} → List T → Bool
is_empty [] = true
is_empty (x ∷ xs) = false

abbrev pub has_node_of : Config → NodeId → Bool
has_node_of c node = is_some (node_at c.nodes node.0)

abbrev pub has_ring_of : Config → RingId → Bool
has_ring_of c ring = is_some (ring_at c.rings ring.0)

abbrev pub has_client_of : Config → ClientId → Bool
has_client_of c client = is_some (client_at c.clients client.0)

abbrev pub is_restored : Mark → Bool
is_restored Restored = true
is_restored other = false

abbrev pub is_ready : NodeId → List Line → Bool
is_ready node before = is_some_that is_restored (life node.0 before)

abbrev pub is_same_value : Value → Value → Bool
is_same_value Skip Skip = true
is_same_value (Batch a) (Batch b) = bytes_eq a b
is_same_value Skip (Batch b) = false
is_same_value (Batch a) Skip = false

-- A test of what the book has at each instance of a range: of a learning's value at the instances that it covers, and by the later
-- learnings at those below and above them.
abbrev pub passes_around : (is_none is_its : Bool) → (Option Value → Bool) → Learning → (ℕ → ℕ → Bool) → ℕ → ℕ → Bool
passes_around true is_its test l later lo hi = true
passes_around false false test l later lo hi = later lo hi
passes_around false true test l later lo hi =
    (nat_le (min hi l.hi) (max lo l.lo) || test (Some l.value)) && (later lo (min hi l.lo) && later (max lo l.hi) hi)

abbrev pub each_passes : (Option Value → Bool) → List Learning → RingId → ℕ → ℕ → Bool
each_passes test [] ring lo hi = nat_le hi lo || test None
each_passes test (l ∷ known) ring lo hi = passes_around (nat_le hi lo) (l.ring.0 == ring.0) test l (each_passes test known ring) lo hi

-- the same at each place below the first tuple and not below the second
abbrev pub each_between : (Option Value → Bool) → List Learning → List (RingId × ℕ) → List (RingId × ℕ) → Bool
each_between test known (y ∷ upper) (x ∷ lower) = each_passes test known y.0 x.1 y.1 && each_between test known upper lower
each_between test known upper lower = true

-- at each place below a tuple
abbrev pub each_below : (Option Value → Bool) → List Learning → List (RingId × ℕ) → Bool
each_below test known [] = true
each_below test known (y ∷ upper) = each_passes test known y.0 0 y.1 && each_below test known upper

-- the second tuple is reached from the first by skips
abbrev pub is_by_skips : (ℕ → ℕ) → List RingId → List Learning → List (RingId × ℕ) → List (RingId × ℕ) → Bool
is_by_skips m rings known k k' =
    is_tuple_of m rings k && (is_tuple_of m rings k' && (is_at_or_after k' k && each_between (is_some_that is_skip) known k' k))

abbrev pub is_reached : Config → List Line → NodeId → PartitionTable → List (RingId × ℕ) → Bool
is_reached c before node p tuple =
    is_by_skips (round_sizes c) p.rings (learned before) (position (round_sizes c) p.rings node.0 before) tuple

-- a printed tuple has an entry for each of these rings
abbrev pub is_shown : List RingId → List ℕ → Bool
is_shown rings printed = bytes_eq printed (instances (paired rings printed))

abbrev pub is_fit : Config → PartitionTable → List ℕ → Bool
is_fit c p printed = is_shown p.rings printed && is_tuple_of (round_sizes c) p.rings (paired p.rings printed)

-- a printed tuple is at or after another
abbrev pub reaches : List ℕ → List ℕ → Bool
reaches [] [] = true
reaches [] (y ∷ ys) = false
reaches (x ∷ xs) [] = false
reaches (x ∷ xs) (y ∷ ys) = nat_le y x && reaches xs ys

abbrev pub is_later : ℕ × ℕ → ℕ × ℕ → Bool
is_later a b = nat_lt b.0 a.0 || ((b.0 == a.0) && nat_lt b.1 a.1)

abbrev pub is_pair : ℕ → ℕ → ℕ × ℕ → Bool
is_pair a b x = (x.0 == a) && (x.1 == b)

-- one of some tuples is this one
abbrev pub is_among : List ℕ → List (List ℕ) → Bool
is_among printed [] = false
is_among printed (tuple ∷ tuples) = bytes_eq printed tuple || is_among printed tuples

-- ---- F1

abbrev pub is_wide : Value → ℕ → ℕ → Bool
is_wide Skip lo hi = true
is_wide (Batch batch) lo hi = hi == lo + 1

-- what stands in the book, if anything does, is this value
abbrev pub agrees : Value → Option Value → Bool
agrees value None = true
agrees value (Some known) = is_same_value known value

abbrev pub learns : Config → List Line → NodeId → RingId → ℕ → ℕ → Value → Bool
learns c before node ring lo hi value =
    has_node_of c node && (has_ring_of c ring && (nat_lt lo hi && (nat_le hi END && (is_wide value lo hi && each_passes (agrees value) (learned before) ring lo hi))))

abbrev pub keeps_f1 : Config → List Line → Line → Bool
keeps_f1 c before (Learn node ring lo hi value) = learns c before node ring lo hi value
keeps_f1 c before other = true

-- ---- F2

abbrev pub is_batch : Value → Bool
is_batch Skip = false
is_batch (Batch batch) = true

abbrev pub delivers : Config → List Line → NodeId → RingId → ℕ → PartitionTable → Bool
delivers c before node ring inst p =
    is_ready node before && (is_some_that is_batch (book before ring inst) && (has_ring p.rings ring.0 && is_reached c before node p (tuple_at (round_sizes c) p.rings (place_with ring inst))))

abbrev pub stands : Config → List Line → NodeId → List ℕ → PartitionTable → Bool
stands c before node printed p = is_ready node before && (is_shown p.rings printed && is_reached c before node p (paired p.rings printed))

abbrev pub keeps_f2 : Config → List Line → Line → Bool
keeps_f2 c before (Deliver node ring inst) = is_some_that (delivers c before node ring inst) (partition_of c.partitions node)
keeps_f2 c before (Saved node printed) = is_some_that (stands c before node printed) (partition_of c.partitions node)
keeps_f2 c before other = true

-- ---- F3

-- the first line of some is this reply line
abbrev pub is_first : NodeId → RingId → ℕ → ℕ → ClientId → ℕ → List ℕ → List Line → Bool
is_first node ring inst index client seq reply (Reply node' ring' inst' index' client' seq' reply' ∷ rest) =
    (node'.0 == node.0) && ((ring'.0 == ring.0) && ((inst' == inst) && ((index' == index) && ((client'.0 == client.0) && ((seq' == seq) && bytes_eq reply' reply)))))
is_first node ring inst index client seq reply other = false

abbrev pub has_party : Config → Party → Bool
has_party c (Node node) = has_node_of c node
has_party c (Client client) = has_client_of c client

abbrev pub do_names_fit : Config → Line → Bool
do_names_fit c (Reply node ring inst index client seq reply) = has_node_of c node && (has_ring_of c ring && has_client_of c client)
do_names_fit c (Busy client seq) = has_client_of c client
do_names_fit c (BallotLimit node ring) = has_node_of c node && has_ring_of c ring
do_names_fit c (InstanceLimit node ring) = has_node_of c node && has_ring_of c ring
do_names_fit c (AttemptLimit node) = has_node_of c node
do_names_fit c (Down node cause) = has_node_of c node
do_names_fit c (Up node epoch) = has_node_of c node
do_names_fit c (Frame number (Some shown)) = has_party c shown.from && has_party c shown.to
do_names_fit c other = true

abbrev pub is_in_turn : Config → List Line → Line → Bool
is_in_turn c before (Reply node ring inst index client seq reply) = is_first node ring inst index client seq reply (owed c before)
is_in_turn c before other = is_empty (owed c before)

abbrev pub keeps_f3 : Config → List Line → Line → Bool
keeps_f3 c before line = is_in_turn c before line && do_names_fit c line

-- ---- F4

abbrev pub shows : Config → List Line → NodeId → ShownState → PartitionTable → Bool
shows c before node shown p =
    stands c before node shown.tuple p && is_some_that (bytes_eq shown.bytes) (state_below (round_sizes c) (learned before) p (paired p.rings shown.tuple))

abbrev pub keeps_f4 : Config → List Line → Line → Bool
keeps_f4 c before (State node (Some shown)) = is_some_that (shows c before node shown) (partition_of c.partitions node)
keeps_f4 c before (State node None) = has_node_of c node && not (is_ready node before)
keeps_f4 c before other = true

-- ---- F5

abbrev pub keeps_f5 : Config → List Line → Line → Bool
keeps_f5 c before (Answer client seq reply) = has_client_of c client && is_some_that (bytes_eq reply) (answer_of c (learned before) client seq)
keeps_f5 c before other = true

-- ---- F6

-- a tuple reaches the instance of a line of trimming
abbrev pub is_trim_reached : List RingId → List ℕ → Line → Bool
is_trim_reached rings printed (Trim node ring inst) = not (has_ring rings ring.0) || nat_le inst (entry_of rings ring printed)
is_trim_reached rings printed other = true

abbrev pub chooses : Config → List Line → NodeId → ℕ → ℕ → List ℕ → NodeId → PartitionTable → Bool
chooses c before node epoch attempt printed from p =
    is_fit c p printed && (is_some_that (is_some_that (is_pair epoch attempt)) (attempting node.0 before) && (is_some_that (list_all (is_trim_reached p.rings printed)) (before_begin node.0 before) && (has_node p.replicas from.0 && is_among printed (told from.0 before))))

abbrev pub restores : Config → List Line → NodeId → List ℕ → PartitionTable → Bool
restores c before node printed p = is_fit c p printed && (not (is_ready node before) && is_some_that (is_some_that (bytes_eq printed)) (chosen node.0 before))

abbrev pub keeps_f6 : Config → List Line → Line → Bool
keeps_f6 c before (Chose node epoch attempt printed from) = is_some_that (chooses c before node epoch attempt printed from) (partition_of c.partitions node)
keeps_f6 c before (Restore node printed) = is_some_that (restores c before node printed) (partition_of c.partitions node)
keeps_f6 c before other = true

-- ---- F7

abbrev pub have_told : List Line → RingId → ℕ → PartitionTable → Bool
have_told before ring inst p = nat_le p.trim_quorum (count_by (λ (node : NodeId). some_reaches p.rings ring inst (told node.0 before)) p.replicas)

abbrev pub all_have_told : List Line → RingId → ℕ → List PartitionTable → Bool
all_have_told before ring inst partitions = not (is_empty partitions) && list_all (have_told before ring inst) partitions

abbrev pub keeps_f7 : Config → List Line → Line → Bool
keeps_f7 c before (Trim node ring inst) = has_node_of c node && (has_ring_of c ring && all_have_told before ring inst (subscribers_of c.partitions ring))
keeps_f7 c before other = true

-- ---- F8

abbrev pub begins : Config → List Line → NodeId → ℕ → ℕ → List ℕ → PartitionTable → Bool
begins c before node epoch attempt printed p =
    is_fit c p printed && (list_all (reaches printed) (told node.0 before) && (is_some_that (is_some_that (λ (e : ℕ). e == epoch)) (up_epoch node.0 before) && (list_all (is_later (epoch, attempt)) (begun node.0 before) && each_below is_some (learned before) (paired p.rings printed))))

-- the first tuple is after the second
abbrev pub is_past : List ℕ → List ℕ → Bool
is_past printed earlier = reaches printed earlier && not (reaches earlier printed)

abbrev pub keeps_f8 : Config → List Line → Line → Bool
keeps_f8 c before (Begin node epoch attempt printed) = is_some_that (begins c before node epoch attempt printed) (partition_of c.partitions node)
keeps_f8 c before (Saved node printed) = list_all (is_past printed) (told node.0 before)
keeps_f8 c before other = true

-- ---- F9

abbrev pub refuses : List Line → NodeId → ℕ → ℕ → ℕ → ℕ → PartitionTable → Bool
refuses before node epoch attempt answered needed p =
    is_some_that (is_some_that (is_pair epoch attempt)) (unchosen node.0 before) && ((needed == p.recovery_quorum) && nat_lt answered needed)

abbrev pub keeps_f9 : Config → List Line → Line → Bool
keeps_f9 c before (Refuse node epoch attempt answered needed) = is_some_that (refuses before node epoch attempt answered needed) (partition_of c.partitions node)
keeps_f9 c before other = true
