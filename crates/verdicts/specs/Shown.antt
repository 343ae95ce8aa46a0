-- What is told of a deployment: a word for each number, address and id.
use Rattle.std.specs.Prelude.{ℕ, List, [], ◌∷◌, ◌++◌, codes}
use Rattle.std.specs.List.{flat_map}
use Rattle.std.specs.Fmt.{decimal}
use Rattle.text_lines.specs.Text.{spaced, hex_text}
use Rattle.mrp_types.specs.declared.id.LogId.{LogId}
use Rattle.mrp_types.specs.declared.id.NodeId.{NodeId}
use Rattle.mrp_types.specs.declared.id.RingId.{RingId}
use Rattle.mrp_config.specs.declared.tables.ClientTable.{ClientTable}
use Rattle.mrp_config.specs.declared.tables.NodeTable.{NodeTable}
use Rattle.mrp_config.specs.declared.tables.PartitionTable.{PartitionTable}
use Rattle.mrp_config.specs.declared.tables.RingTable.{RingTable}
use Rattle.mrp_config.specs.Config.{Config, round_of}

abbrev pub number_text : ℕ → List ℕ
number_text n = spaced (decimal n)

abbrev pub node_id_text : NodeId → List ℕ
node_id_text node = number_text node.0

abbrev pub ring_id_text : RingId → List ℕ
ring_id_text ring = number_text ring.0

abbrev pub log_id_text : LogId → List ℕ
log_id_text log = number_text log.0

-- its id and its address
abbrev pub node_text : NodeTable → List ℕ
node_text node = spaced (codes "node") ++ number_text node.id.0 ++ spaced node.address

abbrev pub client_text : ClientTable → List ℕ
client_text client = spaced (codes "client") ++ number_text client.id.0 ++ spaced client.address

-- its id, the size of its round, and its acceptors
abbrev pub ring_text : RingTable → List ℕ
ring_text ring = spaced (codes "ring") ++ number_text ring.id.0 ++ number_text ring.m ++ flat_map node_id_text ring.acceptors

-- a name, and the ids of a list
abbrev pub list_text : {A : Type 0} → (A → List ℕ) → List ℕ → List A → List ℕ
list_text text name items = spaced name ++ flat_map text items

-- its id, its home, its first key and the one past it
unfoldable pub head_text : PartitionTable → List ℕ
head_text p = spaced (codes "partition") ++ number_text p.id.0 ++ number_text p.home.0 ++ spaced (hex_text p.from) ++ spaced (hex_text p.to)

unfoldable pub lists_text : PartitionTable → List ℕ
lists_text p =
    list_text node_id_text (codes "replicas") p.replicas ++ list_text ring_id_text (codes "rings") p.rings ++ list_text log_id_text (codes "logs") p.logs

-- its head, both quorums, and its three lists
abbrev pub partition_text : PartitionTable → List ℕ
partition_text p = head_text p ++ number_text p.trim_quorum ++ number_text p.recovery_quorum ++ lists_text p

-- the round of a ring that isn't there, and the other numbers of the top
abbrev pub numbers_of : Config → List ℕ
numbers_of c = round_of c (record { 0 = 255 }) ∷ c.lambda ∷ c.delta ∷ c.resend ∷ c.suspect ∷ c.attempt ∷ c.checkpoint ∷ c.trim ∷ c.window ∷ c.journal ∷ []

-- the ten numbers, and the tables in order
abbrev pub shown_text : Config → List ℕ
shown_text c =
    codes "numbers" ++ flat_map number_text (numbers_of c)
    ++ flat_map node_text c.nodes ++ flat_map client_text c.clients ++ flat_map ring_text c.rings ++ flat_map partition_text c.partitions
