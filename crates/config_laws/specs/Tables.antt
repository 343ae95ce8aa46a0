-- The table that describes a deployment.
use Rattle.std.specs.Prelude.{ℕ, pos, List, map, codes}
use Rattle.toml.specs.Data.{Data, string, integer, array, table, Members, no_members, member}
use Rattle.toml.specs.View.{items_of}
use Rattle.hex.specs.Hex.{encode_lower}
use Rattle.mrp_config.specs.declared.tables.NodeTable.{NodeTable}
use Rattle.mrp_config.specs.declared.tables.ClientTable.{ClientTable}
use Rattle.mrp_config.specs.declared.tables.RingTable.{RingTable}
use Rattle.mrp_config.specs.declared.tables.PartitionTable.{PartitionTable}
use Rattle.mrp_config.specs.Config.{Config}
use Rattle.mrp_types.specs.Seats.{numbers_of_nodes}
use Rattle.mrp_config.specs.Valid.{numbers_of_rings, numbers_of_logs}

abbrev pub number : ℕ → Data
number n = integer (pos n)

abbrev pub list_of : List Data → Data
list_of values = array (items_of values)

abbrev pub numbers : List ℕ → Data
numbers ns = list_of (map number ns)

-- members stand in the byte order of their names

unfoldable pub node_table : NodeTable → Members
node_table n = member (codes "address") (string n.address) (member (codes "id") (number n.id.0) no_members)

unfoldable pub client_table : ClientTable → Members
client_table c = member (codes "address") (string c.address) (member (codes "id") (number c.id.0) no_members)

unfoldable pub ring_table : RingTable → Members
ring_table r =
    member (codes "acceptors") (numbers (numbers_of_nodes r.acceptors))
    (member (codes "id") (number r.id.0)
    (member (codes "m") (number r.m) no_members))

unfoldable pub partition_table : PartitionTable → Members
partition_table p =
    member (codes "from") (string (encode_lower p.from))
    (member (codes "home") (number p.home.0)
    (member (codes "id") (number p.id.0)
    (member (codes "logs") (numbers (numbers_of_logs p.logs))
    (member (codes "recovery_quorum") (number p.recovery_quorum)
    (member (codes "replicas") (numbers (numbers_of_nodes p.replicas))
    (member (codes "rings") (numbers (numbers_of_rings p.rings))
    (member (codes "to") (string (encode_lower p.to))
    (member (codes "trim_quorum") (number p.trim_quorum) no_members))))))))

abbrev pub tables_with : {T : Type 0} → (T → Members) → List T → Data
tables_with spell ts = list_of (map (λ t. table (spell t)) ts)

unfoldable pub described : Config → Members
described c =
    member (codes "attempt") (number c.attempt)
    (member (codes "checkpoint") (number c.checkpoint)
    (member (codes "client") (tables_with client_table c.clients)
    (member (codes "delta") (number c.delta)
    (member (codes "journal") (number c.journal)
    (member (codes "lambda") (number c.lambda)
    (member (codes "m") (number c.m)
    (member (codes "node") (tables_with node_table c.nodes)
    (member (codes "partition") (tables_with partition_table c.partitions)
    (member (codes "resend") (number c.resend)
    (member (codes "ring") (tables_with ring_table c.rings)
    (member (codes "suspect") (number c.suspect)
    (member (codes "trim") (number c.trim)
    (member (codes "window") (number c.window) no_members)))))))))))))
