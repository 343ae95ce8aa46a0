-- The concerned partitions are valid ones, whose rings increase.
use Rattle.mrp_config.specs.Walk.{node_ids, ring_ids}
use Rattle.config_laws.proofs.Routes.{route_of_concerned}
use Rattle.config_laws.proofs.laws.routes_are_common_rings.Goals as goal

pub returns : goal.returns
returns c = λ config h command. route_of_concerned (node_ids config.nodes) (ring_ids config.rings) command config.partitions h.partitions.each
