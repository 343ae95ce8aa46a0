-- A ring as one of its members sees it: who its acceptors and members are, who owns a ballot, and to whom frames go.
use Rattle.std.specs.Prelude.{ℕ, ◌+◌, ◌/◌, ◌%◌, ◌^◌, ◌==◌, nat_lt, nat_le, not, ◌||◌, bit_and, bit_or, Bool, false, if◌then◌else◌, List, [], ◌∷◌, ◌++◌, length, filter, flat_map, Option, Some, None, slice_get}
use Rattle.mrp_types.specs.declared.id.NodeId.{NodeId}
use Rattle.mrp_types.specs.declared.id.Party.TheVariants.{Node}
use Rattle.mrp_types.specs.declared.id.TheConstants.{END}
use Rattle.mrp_types.specs.Seats.{seat_of}
use Rattle.mrp_config.specs.declared.tables.RingTable.{RingTable}
use Rattle.mrp_config.specs.declared.tables.PartitionTable.{PartitionTable}
use Rattle.mrp_config.specs.Config.{Config, has_node, subscribers_of}
use Rattle.ring_link.specs.Silence.{Link, is_silent, successor_by}
use Rattle.frames.specs.declared.body.Body.{Body}
use Rattle.frames.specs.declared.body.Body.TheVariants.{Fetch}
use Rattle.frames.specs.declared.sent.Sent.{Sent}
use Rattle.protocol.specs.Parts.{Ring}

-- ---- who is in a ring

-- the replicas of some partitions
abbrev pub replicas_of : List PartitionTable → List NodeId
replicas_of partitions = flat_map (λ (p : PartitionTable). p.replicas) partitions

-- a node more in a list of nodes by id
abbrev pub with_node : NodeId → List NodeId → List NodeId
with_node node [] = node ∷ []
with_node node (other ∷ others) = if nat_lt node.0 other.0 then node ∷ other ∷ others else other ∷ with_node node others

-- nodes by id
abbrev pub by_id : List NodeId → List NodeId
by_id [] = []
by_id (node ∷ nodes) = with_node node (by_id nodes)

-- the acceptors as listed, then the replicas of these partitions that aren't acceptors, by id
unfoldable pub members_of : List NodeId → List PartitionTable → List NodeId
members_of acceptors subscribers = acceptors ++ by_id (filter (λ (node : NodeId). not (has_node acceptors node.0)) (replicas_of subscribers))

abbrev pub ring_with : Config → NodeId → RingTable → List PartitionTable → Ring
ring_with config own table subscribers = record {
  id = table.id;
  own = own;
  acceptors = table.acceptors;
  members = members_of table.acceptors subscribers;
  subscribers = subscribers;
  window = config.window;
  lambda = config.lambda;
  delta = config.delta;
}

-- a ring of the deployment as a node sees it
abbrev pub ring_of : Config → NodeId → RingTable → Ring
ring_of config own table = ring_with config own table (subscribers_of config.partitions table.id)

abbrev pub is_member : Ring → Bool
is_member ring = has_node ring.members ring.own.0

abbrev pub is_acceptor : Ring → Bool
is_acceptor ring = has_node ring.acceptors ring.own.0

-- whether a node is a replica of a partition that subscribes
abbrev pub is_subscribed : Ring → NodeId → Bool
is_subscribed ring node = has_node (replicas_of ring.subscribers) node.0

-- whether two optional nodes are one; none is nobody
abbrev pub is_node : NodeId → Option NodeId → Bool
is_node node None = false
is_node node (Some other) = node.0 == other.0

abbrev pub is_own : Ring → NodeId → Bool
is_own ring node = node.0 == ring.own.0

-- the other acceptors as listed
abbrev pub other_acceptors : Ring → List NodeId
other_acceptors ring = filter (λ (node : NodeId). not (is_own ring node)) ring.acceptors

-- the own position, and that of another node
abbrev pub position_of : Ring → NodeId → Option ℕ
position_of ring node = seat_of node ring.acceptors

-- ---- ballots and majorities

-- the acceptor at a position
abbrev pub acceptor_at : Ring → ℕ → Option NodeId
acceptor_at ring position = slice_get ring.acceptors position

-- a ballot belongs to the position that is its rest by the number of acceptors; ballot 0 belongs to nobody
abbrev pub owner_of : Ring → ℕ → Option NodeId
owner_of ring ballot = if ballot == 0 then None else acceptor_at ring (ballot % length ring.acceptors)

-- how many acceptors are a majority
abbrev pub majority_of : Ring → ℕ
majority_of ring = length ring.acceptors / 2 + 1

-- the bit of a position in a mask of votes
abbrev pub bit_of : ℕ → ℕ
bit_of position = 2 ^ position

abbrev pub has_bit : ℕ → ℕ → Bool
has_bit mask position = not (bit_and mask (bit_of position) == 0)

abbrev pub with_bit : ℕ → ℕ → ℕ
with_bit mask position = bit_or mask (bit_of position)

-- ---- to whom frames go

-- the next acceptor round the ring that isn't suspected
abbrev pub next_acceptor : Ring → Link → Option NodeId
next_acceptor ring link = successor_by (is_silent link) ring.acceptors ring.own

-- the next member round the ring that isn't suspected
abbrev pub next_member : Ring → Link → Option NodeId
next_member ring link = successor_by (is_silent link) ring.members ring.own

-- a Fetch for the end of all instances isn't sent
abbrev pub is_beyond : Body → Bool
is_beyond (Fetch ring lo) = nat_le END lo
is_beyond other = false

-- a frame from one node to another
abbrev pub sent_by : NodeId → NodeId → Body → Sent
sent_by own to body = record { to = Node to; frame = record { from = Node own; body = body } }

-- a frame of the own node
abbrev pub sent : Ring → NodeId → Body → Sent
sent ring to body = sent_by ring.own to body

-- A frame to a node: none to the node itself, and no Fetch for the end of all instances.
abbrev pub sends_to : NodeId → NodeId → Body → List Sent
sends_to own to body = if to.0 == own.0 || is_beyond body then [] else sent_by own to body ∷ []

-- none where there is no such node
abbrev pub sends : Ring → Option NodeId → Body → List Sent
sends ring None body = []
sends ring (Some to) body = sends_to ring.own to body

-- the same frame to several nodes in turn
abbrev pub sends_each : Ring → List NodeId → Body → List Sent
sends_each ring nodes body = flat_map (λ node. sends ring (Some node) body) nodes
