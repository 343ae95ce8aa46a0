-- The conditions of each rule, one by one, in the order in which its statement has them. The test of a rule is that all of them hold.
use Rattle.std.specs.Prelude.{ℕ, suc, ◌==◌, nat_le, nat_lt, ◌&&◌, not, Bool, true, false, List, [], ◌∷◌, ◌++◌, is_some, bytes_eq, Option, Some, None}
use Rattle.std.specs.List.{list_all}
use Rattle.mrp_types.specs.declared.id.NodeId.{NodeId}
use Rattle.mrp_types.specs.declared.id.RingId.{RingId}
use Rattle.mrp_types.specs.declared.id.TheConstants.{END}
use Rattle.mrp_config.specs.Config.{Config, has_node, has_ring, partition_of, subscribers_of}
use Rattle.mrp_config.specs.declared.tables.PartitionTable.{PartitionTable}
use Rattle.plain_model.specs.Tuples.{round_sizes, is_tuple_of, is_at_or_after, tuple_at}
use Rattle.plain_model.specs.Fold.{place_with, state_below, answer_of}
use Rattle.mrp_types.specs.Values.{is_skip}
use Rattle.transcript.specs.declared.line.ShownState.{ShownState}
use Rattle.transcript.specs.declared.line.Line.{Line}
use Rattle.transcript.specs.declared.line.Line.TheVariants.{Learn, Deliver, Reply, Answer, Busy, Begin, Chose, Restore, Saved, Trim, Refuse, BallotLimit, InstanceLimit, AttemptLimit, Down, Up, State, Frame}
use Rattle.line_rules.specs.Scanners.{up_epoch, attempting, unchosen, chosen, before_begin, told, begun, paired, position, book, learned}
use Rattle.line_rules.specs.Names.{Rule, rules}
use Rattle.line_rules.specs.Names as rule
use Rattle.line_rules.specs.Tests.{is_some_that, is_empty, has_node_of, has_ring_of, has_client_of, is_ready, is_batch, each_passes, each_between, each_below, is_shown, is_pair, is_among, is_wide, agrees, has_party, is_in_turn, is_trim_reached, have_told, reaches, is_later, is_past}

-- all of some hold
abbrev pub all_hold : List Bool → Bool
all_hold [] = true
all_hold (x ∷ []) = x
all_hold (x ∷ y ∷ others) = x && all_hold (y ∷ others)

-- The node is a replica, and what then holds of its partition.
abbrev pub of_replica : (PartitionTable → List Bool) → Option PartitionTable → List Bool
of_replica conditions None = false ∷ []
of_replica conditions (Some p) = true ∷ conditions p

-- A tuple is reached from a node's position by skips: the position is a valid tuple; the tuple is; it is at or after the position;
-- each place between is Skip.
abbrev pub skip_conditions : Config → List Line → NodeId → PartitionTable → List (RingId × ℕ) → List Bool → List Bool
skip_conditions c before node p tuple others =
    is_tuple_of (round_sizes c) p.rings (position (round_sizes c) p.rings node.0 before) ∷
    is_tuple_of (round_sizes c) p.rings tuple ∷
    is_at_or_after tuple (position (round_sizes c) p.rings node.0 before) ∷
    each_between (is_some_that is_skip) (learned before) tuple (position (round_sizes c) p.rings node.0 before) ∷
    others

-- F1: the node is there; the ring is; the range isn't empty; it ends with the instances; a batch has one instance; the book agrees.
abbrev pub conditions_1 : Config → List Line → Line → List Bool
conditions_1 c before (Learn node ring lo hi value) =
    has_node_of c node ∷ has_ring_of c ring ∷ nat_lt lo hi ∷ nat_le hi END ∷ is_wide value lo hi ∷
    each_passes (agrees value) (learned before) ring lo hi ∷ []
conditions_1 c before other = []

-- F2, a deliver line: the node is a replica; it is ready; the place holds a batch; its partition subscribes to the ring; and the
-- four of a tuple that is reached by skips. A saved line: the node is a replica; it is ready; the tuple has an entry for each ring;
-- and the four.
abbrev pub deliver_conditions : Config → List Line → NodeId → RingId → ℕ → PartitionTable → List Bool
deliver_conditions c before node ring inst p =
    is_ready node before ∷ is_some_that is_batch (book before ring inst) ∷ has_ring p.rings ring.0 ∷
    skip_conditions c before node p (tuple_at (round_sizes c) p.rings (place_with ring inst)) []

abbrev pub tuple_conditions : Config → List Line → NodeId → List ℕ → List Bool → PartitionTable → List Bool
tuple_conditions c before node printed others p =
    is_ready node before ∷ is_shown p.rings printed ∷ skip_conditions c before node p (paired p.rings printed) others

abbrev pub conditions_2 : Config → List Line → Line → List Bool
conditions_2 c before (Deliver node ring inst) = of_replica (deliver_conditions c before node ring inst) (partition_of c.partitions node)
conditions_2 c before (Saved node printed) = of_replica (tuple_conditions c before node printed []) (partition_of c.partitions node)
conditions_2 c before other = []

-- the names of F3, each is there
abbrev pub name_conditions : Config → Line → List Bool
name_conditions c (Reply node ring inst index client seq reply) = has_node_of c node ∷ has_ring_of c ring ∷ has_client_of c client ∷ []
name_conditions c (Busy client seq) = has_client_of c client ∷ []
name_conditions c (BallotLimit node ring) = has_node_of c node ∷ has_ring_of c ring ∷ []
name_conditions c (InstanceLimit node ring) = has_node_of c node ∷ has_ring_of c ring ∷ []
name_conditions c (AttemptLimit node) = has_node_of c node ∷ []
name_conditions c (Down node cause) = has_node_of c node ∷ []
name_conditions c (Up node epoch) = has_node_of c node ∷ []
name_conditions c (Frame number (Some shown)) = has_party c shown.from ∷ has_party c shown.to ∷ []
name_conditions c other = true ∷ []

-- F3: the line is in its turn, a reply line where it is the next that is owed, another line where none is owed; and its names.
abbrev pub conditions_3 : Config → List Line → Line → List Bool
conditions_3 c before line = is_in_turn c before line ∷ name_conditions c line

-- F4, a state line with bytes: the six of a saved line's tuple behind that the node is a replica; the bytes are those of the book.
-- One without: the node is there; it isn't ready.
abbrev pub show_conditions : Config → List Line → NodeId → ShownState → PartitionTable → List Bool
show_conditions c before node shown p =
    tuple_conditions c before node shown.tuple
    (is_some_that (bytes_eq shown.bytes) (state_below (round_sizes c) (learned before) p (paired p.rings shown.tuple)) ∷ []) p

abbrev pub conditions_4 : Config → List Line → Line → List Bool
conditions_4 c before (State node (Some shown)) = of_replica (show_conditions c before node shown) (partition_of c.partitions node)
conditions_4 c before (State node None) = has_node_of c node ∷ not (is_ready node before) ∷ []
conditions_4 c before other = []

-- F5: the client is there; the bytes are the answer of the book.
abbrev pub conditions_5 : Config → List Line → Line → List Bool
conditions_5 c before (Answer client seq reply) =
    has_client_of c client ∷ is_some_that (bytes_eq reply) (answer_of c (learned before) client seq) ∷ []
conditions_5 c before other = []

-- F6, a chose line: the node is a replica; the tuple has an entry for each ring; it is valid; the attempt is under way; each trim
-- before it is reached; the other node is a replica of the partition; it has told the tuple. A restore line: the node is a replica;
-- an entry for each ring; valid; the node isn't ready; the tuple is the one chosen.
abbrev pub fit_conditions : Config → List ℕ → PartitionTable → List Bool → List Bool
fit_conditions c printed p others = is_shown p.rings printed ∷ is_tuple_of (round_sizes c) p.rings (paired p.rings printed) ∷ others

abbrev pub choose_conditions : Config → List Line → NodeId → ℕ → ℕ → List ℕ → NodeId → PartitionTable → List Bool
choose_conditions c before node epoch attempt printed from p =
    fit_conditions c printed p
    (is_some_that (is_some_that (is_pair epoch attempt)) (attempting node.0 before) ∷
    is_some_that (list_all (is_trim_reached p.rings printed)) (before_begin node.0 before) ∷
    has_node p.replicas from.0 ∷ is_among printed (told from.0 before) ∷ [])

abbrev pub restore_conditions : Config → List Line → NodeId → List ℕ → PartitionTable → List Bool
restore_conditions c before node printed p =
    fit_conditions c printed p (not (is_ready node before) ∷ is_some_that (is_some_that (bytes_eq printed)) (chosen node.0 before) ∷ [])

abbrev pub conditions_6 : Config → List Line → Line → List Bool
conditions_6 c before (Chose node epoch attempt printed from) =
    of_replica (choose_conditions c before node epoch attempt printed from) (partition_of c.partitions node)
conditions_6 c before (Restore node printed) = of_replica (restore_conditions c before node printed) (partition_of c.partitions node)
conditions_6 c before other = []

-- F7: the node is there; the ring is; some partition subscribes to it; a trim quorum of each that does has told so much.
abbrev pub conditions_7 : Config → List Line → Line → List Bool
conditions_7 c before (Trim node ring inst) =
    has_node_of c node ∷ has_ring_of c ring ∷ not (is_empty (subscribers_of c.partitions ring)) ∷
    list_all (have_told before ring inst) (subscribers_of c.partitions ring) ∷ []
conditions_7 c before other = []

-- F8, a begin line: the node is a replica; the tuple has an entry for each ring; it is valid; it is at or after all that the node
-- told; the epoch is that of its last up line; epoch and attempt come after the earlier ones; the places below are in the book. A
-- saved line: the tuple is past all that the node told.
abbrev pub begin_conditions : Config → List Line → NodeId → ℕ → ℕ → List ℕ → PartitionTable → List Bool
begin_conditions c before node epoch attempt printed p =
    fit_conditions c printed p
    (list_all (reaches printed) (told node.0 before) ∷
    is_some_that (is_some_that (λ (e : ℕ). e == epoch)) (up_epoch node.0 before) ∷
    list_all (is_later (epoch, attempt)) (begun node.0 before) ∷
    each_below is_some (learned before) (paired p.rings printed) ∷ [])

abbrev pub conditions_8 : Config → List Line → Line → List Bool
conditions_8 c before (Begin node epoch attempt printed) =
    of_replica (begin_conditions c before node epoch attempt printed) (partition_of c.partitions node)
conditions_8 c before (Saved node printed) = list_all (is_past printed) (told node.0 before) ∷ []
conditions_8 c before other = []

-- F9: the node is a replica; the attempt is open; the number needed is the recovery quorum; fewer answered.
abbrev pub refuse_conditions : List Line → NodeId → ℕ → ℕ → ℕ → ℕ → PartitionTable → List Bool
refuse_conditions before node epoch attempt answered needed p =
    is_some_that (is_some_that (is_pair epoch attempt)) (unchosen node.0 before) ∷ (needed == p.recovery_quorum) ∷ nat_lt answered needed ∷ []

abbrev pub conditions_9 : Config → List Line → Line → List Bool
conditions_9 c before (Refuse node epoch attempt answered needed) =
    of_replica (refuse_conditions before node epoch attempt answered needed) (partition_of c.partitions node)
conditions_9 c before other = []

-- those of a rule by its name
abbrev pub conditions : Rule → Config → List Line → Line → List Bool
conditions rule.F1 = conditions_1
conditions rule.F2 = conditions_2
conditions rule.F3 = conditions_3
conditions rule.F4 = conditions_4
conditions rule.F5 = conditions_5
conditions rule.F6 = conditions_6
conditions rule.F7 = conditions_7
conditions rule.F8 = conditions_8
conditions rule.F9 = conditions_9

-- which of a rule's conditions fail, counted on from a number
abbrev pub failing : Rule → ℕ → List Bool → List (Rule × ℕ)
failing r n [] = []
failing r n (true ∷ others) = failing r (suc n) others
failing r n (false ∷ others) = (r, n) ∷ failing r (suc n) others

abbrev pub failing_of : Config → List Line → Line → List Rule → List (Rule × ℕ)
failing_of c before line [] = []
failing_of c before line (r ∷ rs) = failing r 1 (conditions r c before line) ++ failing_of c before line rs

-- the conditions of all rules that a line fails, each with its rule and its number, from 1
abbrev pub failures : Config → List Line → Line → List (Rule × ℕ)
failures c before line = failing_of c before line rules
