-- The walk over the table that a text is: the first fault, or the deployment.
use Rattle.std.specs.Prelude.{ℕ, ◌+◌, ◌==◌, nat_le, nat_lt, ◌&&◌, Bool, if◌then◌else◌, List, [], ◌∷◌, ◌++◌, length, map, Option, Some, None, Result, Ok, Err, codes}
use Rattle.std.specs.Str.{bytes_eq, is_utf8}
use Rattle.std.specs.Ordering.{nat_cmp, is_lt}
use Rattle.std.specs.Cmp.Lexicographic.{slice_cmp}
use Rattle.toml.specs.Data.{Data, Members, get_member}
use Rattle.toml.specs.Parse.{parse_document}
use Rattle.mrp_types.specs.declared.id.RingId.{RingId}
use Rattle.mrp_types.specs.declared.id.LogId.{LogId}
pub use Rattle.mrp_types.specs.Seats.{is_among, numbers_of_nodes}
use Rattle.config_walk.specs.declared.fault.ConfigFault.{ConfigFault}
use Rattle.config_walk.specs.declared.fault.ConfigFault.TheVariants.{NotToml, UnknownId, BadQuorums, BadRanges, LogTwice, TooLong}
use Rattle.mrp_types.specs.Reading.{◌>>=◌}
use Rattle.config_walk.specs.Values.{unless, chain, number_of, quorum_of, address_of, hex_of, id_of, seats_of, subscribed_of, logs_of, all_known, tables_of}
use Rattle.mrp_config.specs.declared.tables.NodeTable.{NodeTable}
use Rattle.mrp_config.specs.declared.tables.ClientTable.{ClientTable}
use Rattle.mrp_config.specs.declared.tables.RingTable.{RingTable}
use Rattle.mrp_config.specs.declared.tables.PartitionTable.{PartitionTable}
use Rattle.mrp_config.specs.declared.deployment.Numbers.{Numbers}
use Rattle.mrp_config.specs.Config.{Config, config_with, has_log, has_ring}

-- ---- nodes, clients and rings

unfoldable pub node_of : ℕ → Members → Result NodeTable ConfigFault
node_of least t = do
  id ← id_of (codes "node.id") 31 least (get_member (codes "id") t)
  address ← address_of (codes "node.address") (get_member (codes "address") t)
  known ← all_known (codes "node.") (codes "id" ∷ codes "address" ∷ []) t
  Ok (record { id = record { 0 = id }; address = address })

abbrev pub nodes_of : ℕ → List Members → Result (List NodeTable) ConfigFault
nodes_of least ts = chain node_of (λ (least : ℕ) (node : NodeTable). node.id.0 + 1) least ts

unfoldable pub client_of : ℕ → Members → Result ClientTable ConfigFault
client_of least t = do
  id ← id_of (codes "client.id") 255 least (get_member (codes "id") t)
  address ← address_of (codes "client.address") (get_member (codes "address") t)
  known ← all_known (codes "client.") (codes "id" ∷ codes "address" ∷ []) t
  Ok (record { id = record { 0 = id }; address = address })

abbrev pub clients_of : ℕ → List Members → Result (List ClientTable) ConfigFault
clients_of least ts = chain client_of (λ (least : ℕ) (client : ClientTable). client.id.0 + 1) least ts

-- the size of a ring's round, which may be missing: then it is the usual one
abbrev pub size_of : ℕ → Option Data → Result ℕ ConfigFault
size_of usual None = Ok usual
size_of usual (Some value) = number_of (codes "ring.m") 1 1024 (Some value)

unfoldable pub ring_of : ℕ → List ℕ → ℕ → Members → Result RingTable ConfigFault
ring_of usual ids least t = do
  id ← id_of (codes "ring.id") 15 least (get_member (codes "id") t)
  acceptors ← seats_of (codes "ring.acceptors") [] ids (get_member (codes "acceptors") t)
  m ← size_of usual (get_member (codes "m") t)
  known ← all_known (codes "ring.") (codes "id" ∷ codes "acceptors" ∷ codes "m" ∷ []) t
  Ok (record { id = record { 0 = id }; acceptors = acceptors; m = m })

abbrev pub rings_of : ℕ → List ℕ → ℕ → List Members → Result (List RingTable) ConfigFault
rings_of usual ids least ts = chain (ring_of usual ids) (λ (least : ℕ) (ring : RingTable). ring.id.0 + 1) least ts

-- ---- partitions

abbrev pub partition_names : List (List ℕ)
partition_names =
    codes "id" ∷ codes "replicas" ∷ codes "rings" ∷ codes "home" ∷ codes "from" ∷ codes "to" ∷ codes "logs" ∷ codes "trim_quorum" ∷ codes "recovery_quorum" ∷ []

-- one of these rings
unfoldable pub home_of : List RingId → Option Data → Result RingId ConfigFault
home_of rings found = do
  n ← number_of (codes "partition.home") 0 15 found
  known ← unless (has_ring rings n) (UnknownId (codes "partition.home") n)
  Ok (record { 0 = n })

-- the keys in order, and then unknown names
unfoldable pub partition_of : List ℕ → List ℕ → List ℕ → ℕ → Members → Result PartitionTable ConfigFault
partition_of nodes rings taken least t = do
  id ← id_of (codes "partition.id") 15 least (get_member (codes "id") t)
  replicas ← seats_of (codes "partition.replicas") taken nodes (get_member (codes "replicas") t)
  own ← subscribed_of (codes "partition.rings") rings (get_member (codes "rings") t)
  home ← home_of own (get_member (codes "home") t)
  from ← hex_of (codes "partition.from") (get_member (codes "from") t)
  to ← hex_of (codes "partition.to") (get_member (codes "to") t)
  logs ← logs_of (codes "partition.logs") (get_member (codes "logs") t)
  trim ← quorum_of (codes "partition.trim_quorum") (get_member (codes "trim_quorum") t)
  recovery ← quorum_of (codes "partition.recovery_quorum") (get_member (codes "recovery_quorum") t)
  known ← all_known (codes "partition.") partition_names t
  Ok (record {
    id = record { 0 = id };
    replicas = replicas;
    rings = own;
    home = home;
    from = from;
    to = to;
    logs = logs;
    trim_quorum = trim;
    recovery_quorum = recovery;
  })

-- the replicas of the partitions so far, and the least id that the next may have
abbrev pub Asked : Type 0
Asked = List ℕ × ℕ

abbrev pub asked_after : Asked → PartitionTable → Asked
asked_after asked p = (asked.0 ++ numbers_of_nodes p.replicas, p.id.0 + 1)

-- a node is a replica of at most one partition
abbrev pub partitions_of : List ℕ → List ℕ → List ℕ → ℕ → List Members → Result (List PartitionTable) ConfigFault
partitions_of nodes rings taken least ts = chain (λ (asked : Asked) t. partition_of nodes rings asked.0 asked.1 t) asked_after (taken, least) ts

-- ---- what is judged last, each over the partitions in order

abbrev pub has_quorums : ℕ → ℕ → ℕ → Bool
has_quorums n trim recovery = (nat_le 1 trim && nat_le trim n) && ((nat_le 1 recovery && nat_le recovery n) && nat_lt n (trim + recovery))

abbrev pub quorums_meet : List PartitionTable → Result (Unit {0}) ConfigFault
quorums_meet [] = Ok tt
quorums_meet (p ∷ ps) = if has_quorums (length p.replicas) p.trim_quorum p.recovery_quorum then quorums_meet ps else Err (BadQuorums p.id)

-- it ends above its begin, or has no end and is the last
abbrev pub ends_well : Bool → List ℕ → List ℕ → Bool
ends_well last from to = if last then length to == 0 else is_lt (slice_cmp nat_cmp from to)

-- each begins where the one before it ends, and the last has no end
abbrev pub ranges_follow : List ℕ → List PartitionTable → Result (Unit {0}) ConfigFault
ranges_follow start [] = Ok tt
ranges_follow start (p ∷ ps) = if bytes_eq p.from start && ends_well (length ps == 0) p.from p.to then ranges_follow p.to ps else Err (BadRanges p.id)

abbrev pub first_taken : List LogId → List LogId → Result (Unit {0}) ConfigFault
first_taken taken [] = Ok tt
first_taken taken (log ∷ logs) = if has_log taken log.0 then Err (LogTwice log) else first_taken taken logs

abbrev pub logs_once : List LogId → List PartitionTable → Result (Unit {0}) ConfigFault
logs_once taken [] = Ok tt
logs_once taken (p ∷ ps) = do
  free ← first_taken taken p.logs
  logs_once (taken ++ p.logs) ps

-- quorums, then ranges, then logs
abbrev pub judged : List PartitionTable → Result (Unit {0}) ConfigFault
judged partitions = do
  meet ← quorums_meet partitions
  follow ← ranges_follow [] partitions
  logs_once [] partitions

-- ---- the whole

abbrev pub top_names : List (List ℕ)
top_names =
    codes "m" ∷ codes "lambda" ∷ codes "delta" ∷ codes "resend" ∷ codes "suspect" ∷ codes "attempt" ∷ codes "checkpoint" ∷ codes "trim" ∷ codes "window" ∷ codes "journal"
    ∷ codes "node" ∷ codes "client" ∷ codes "ring" ∷ codes "partition" ∷ []

unfoldable pub top_numbers : Members → Result Numbers ConfigFault
top_numbers t = do
  m ← number_of (codes "m") 1 1024 (get_member (codes "m") t)
  lambda ← number_of (codes "lambda") 0 256 (get_member (codes "lambda") t)
  delta ← number_of (codes "delta") 1 256 (get_member (codes "delta") t)
  resend ← number_of (codes "resend") 1 1000 (get_member (codes "resend") t)
  suspect ← number_of (codes "suspect") 1 10000 (get_member (codes "suspect") t)
  attempt ← number_of (codes "attempt") 1 10000 (get_member (codes "attempt") t)
  checkpoint ← number_of (codes "checkpoint") 1 1000000 (get_member (codes "checkpoint") t)
  trim ← number_of (codes "trim") 1 1000000 (get_member (codes "trim") t)
  window ← number_of (codes "window") 1 64 (get_member (codes "window") t)
  journal ← number_of (codes "journal") 1048576 4294967295 (get_member (codes "journal") t)
  Ok (record {
    m = m;
    lambda = lambda;
    delta = delta;
    resend = resend;
    suspect = suspect;
    attempt = attempt;
    checkpoint = checkpoint;
    trim = trim;
    window = window;
    journal = journal;
  })

abbrev pub top_nodes : Members → Result (List NodeTable) ConfigFault
top_nodes t = do
  ts ← tables_of (codes "node") 1 32 (get_member (codes "node") t)
  nodes_of 0 ts

abbrev pub top_clients : Members → Result (List ClientTable) ConfigFault
top_clients t = do
  ts ← tables_of (codes "client") 0 256 (get_member (codes "client") t)
  clients_of 0 ts

abbrev pub top_rings : ℕ → List ℕ → Members → Result (List RingTable) ConfigFault
top_rings usual nodes t = do
  ts ← tables_of (codes "ring") 1 16 (get_member (codes "ring") t)
  rings_of usual nodes 0 ts

abbrev pub top_partitions : List ℕ → List ℕ → Members → Result (List PartitionTable) ConfigFault
top_partitions nodes rings t = do
  ts ← tables_of (codes "partition") 1 16 (get_member (codes "partition") t)
  partitions_of nodes rings [] 0 ts

abbrev pub node_ids : List NodeTable → List ℕ
node_ids nodes = map (λ (n : NodeTable). n.id.0) nodes

abbrev pub ring_ids : List RingTable → List ℕ
ring_ids rings = map (λ (r : RingTable). r.id.0) rings

-- the numbers in order, the four lists table by table, unknown names, then quorums, ranges and logs
unfoldable pub config_of : Members → Result Config ConfigFault
config_of t = do
  numbers ← top_numbers t
  nodes ← top_nodes t
  clients ← top_clients t
  rings ← top_rings numbers.m (node_ids nodes) t
  partitions ← top_partitions (node_ids nodes) (ring_ids rings) t
  known ← all_known [] top_names t
  good ← judged partitions
  Ok (config_with numbers nodes clients rings partitions)

-- the table that bytes are, which have to be UTF-8
abbrev pub document_of : List ℕ → Option Members
document_of bytes = if is_utf8 bytes then parse_document bytes else None

abbrev pub or_no_toml : Option Members → Result Members ConfigFault
or_no_toml None = Err NotToml
or_no_toml (Some t) = Ok t

abbrev pub table_of : List ℕ → Result Members ConfigFault
table_of bytes = if nat_lt 1048576 (length bytes) then Err TooLong else or_no_toml (document_of bytes)

-- the deployment of the bytes, or the first fault
abbrev pub read_of : List ℕ → Result Config ConfigFault
read_of bytes = do
  t ← table_of bytes
  config_of t
