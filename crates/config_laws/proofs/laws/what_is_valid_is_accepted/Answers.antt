-- Each part of a valid deployment's table is read as what it spells.
use Rattle.std.proofs.Common.{arith, ◌≡◌, [], map, refl, Some, Ok, codes}
use Rattle.mrp_config.specs.declared.deployment.Numbers.{Numbers}
use Rattle.mrp_config.specs.Config.{Config}
use Rattle.config_walk.specs.Values.{number_of, tables_of}
use Rattle.mrp_config.specs.Walk.{top_numbers, top_nodes, top_clients, top_rings, top_partitions, nodes_of, clients_of, rings_of, partitions_of, node_ids, ring_ids, judged, config_of}
use Rattle.config_laws.specs.Tables.{number, tables_with, node_table, client_table, ring_table, partition_table, described}
use Rattle.mrp_config.specs.Valid.{IsValid, replicas_of}
use Rattle.mrp_config.proofs.Steps.{step}
use Rattle.config_laws.proofs.Spelled.{number_back, tables_back}
use Rattle.config_laws.proofs.Accepting.{nodes_back, clients_back, rings_back}
use Rattle.config_laws.proofs.AcceptingPartitions.{partitions_back, none_apart, judged_back}
use Rattle.config_laws.proofs.laws.what_is_valid_is_accepted.Goals as goal

abbrev numbers_in : Config → Numbers
numbers_in c = record {
  m = c.m;
  lambda = c.lambda;
  delta = c.delta;
  resend = c.resend;
  suspect = c.suspect;
  attempt = c.attempt;
  checkpoint = c.checkpoint;
  trim = c.trim;
  window = c.window;
  journal = c.journal;
}

top_numbers_back : (c : Config) → IsValid c → top_numbers (described c) ≡ Ok (numbers_in c)
unfolding top_numbers described
top_numbers_back c h =
    step (number_of (codes "m") 1 1024 (Some (number c.m))) _ c.m _ (number_back (codes "m") 1 1024 c.m h.m)
    (step (number_of (codes "lambda") 0 256 (Some (number c.lambda))) _ c.lambda _ (number_back (codes "lambda") 0 256 c.lambda (omega arith, h.lambda))
    (step (number_of (codes "delta") 1 256 (Some (number c.delta))) _ c.delta _ (number_back (codes "delta") 1 256 c.delta h.delta)
    (step (number_of (codes "resend") 1 1000 (Some (number c.resend))) _ c.resend _ (number_back (codes "resend") 1 1000 c.resend h.resend)
    (step (number_of (codes "suspect") 1 10000 (Some (number c.suspect))) _ c.suspect _ (number_back (codes "suspect") 1 10000 c.suspect h.suspect)
    (step (number_of (codes "attempt") 1 10000 (Some (number c.attempt))) _ c.attempt _ (number_back (codes "attempt") 1 10000 c.attempt h.attempt)
    (step (number_of (codes "checkpoint") 1 1000000 (Some (number c.checkpoint))) _ c.checkpoint _ (number_back (codes "checkpoint") 1 1000000 c.checkpoint h.checkpoint)
    (step (number_of (codes "trim") 1 1000000 (Some (number c.trim))) _ c.trim _ (number_back (codes "trim") 1 1000000 c.trim h.trim)
    (step (number_of (codes "window") 1 64 (Some (number c.window))) _ c.window _ (number_back (codes "window") 1 64 c.window h.window)
    (step (number_of (codes "journal") 1048576 4294967295 (Some (number c.journal))) _ c.journal _ (number_back (codes "journal") 1048576 4294967295 c.journal h.journal) refl)))))))))

top_nodes_back : (c : Config) → IsValid c → top_nodes (described c) ≡ Ok c.nodes
unfolding described
top_nodes_back c h =
    step (tables_of (codes "node") 1 32 (Some (tables_with node_table c.nodes))) (nodes_of 0) (map node_table c.nodes) _ (tables_back (codes "node") 1 32 node_table c.nodes h.nodes.few)
    (nodes_back 0 c.nodes h.nodes.ids h.nodes.numbers h.nodes.addresses)

top_clients_back : (c : Config) → IsValid c → top_clients (described c) ≡ Ok c.clients
unfolding described
top_clients_back c h =
    step (tables_of (codes "client") 0 256 (Some (tables_with client_table c.clients))) (clients_of 0) (map client_table c.clients) _ (tables_back (codes "client") 0 256 client_table c.clients (omega arith, h.clients.few))
    (clients_back 0 c.clients h.clients.ids h.clients.numbers h.clients.addresses)

top_rings_back : (c : Config) → IsValid c → top_rings c.m (node_ids c.nodes) (described c) ≡ Ok c.rings
unfolding described
top_rings_back c h =
    step (tables_of (codes "ring") 1 16 (Some (tables_with ring_table c.rings))) (rings_of c.m (node_ids c.nodes) 0) (map ring_table c.rings) _ (tables_back (codes "ring") 1 16 ring_table c.rings h.rings.few)
    (rings_back c.m (node_ids c.nodes) 0 c.rings h.rings.ids h.rings.numbers h.rings.acceptors h.rings.rounds)

top_partitions_back : (c : Config) → IsValid c → top_partitions (node_ids c.nodes) (ring_ids c.rings) (described c) ≡ Ok c.partitions
unfolding described
top_partitions_back c h =
    let ps = h.partitions in
    step (tables_of (codes "partition") 1 16 (Some (tables_with partition_table c.partitions))) (partitions_of (node_ids c.nodes) (ring_ids c.rings) [] 0) (map partition_table c.partitions) _ (tables_back (codes "partition") 1 16 partition_table c.partitions ps.few)
    (partitions_back (node_ids c.nodes) (ring_ids c.rings) [] 0 c.partitions ps.ids ps.numbers ps.each ps.quorums (none_apart (replicas_of c.partitions)) ps.replicas)

config_back : (c : Config) → IsValid c → config_of (described c) ≡ Ok c
unfolding config_of described
config_back c h =
    step (top_numbers (described c)) _ (numbers_in c) _ (top_numbers_back c h)
    (step (top_nodes (described c)) _ c.nodes _ (top_nodes_back c h)
    (step (top_clients (described c)) _ c.clients _ (top_clients_back c h)
    (step (top_rings c.m (node_ids c.nodes) (described c)) _ c.rings _ (top_rings_back c h)
    (step (top_partitions (node_ids c.nodes) (ring_ids c.rings) (described c)) _ c.partitions _ (top_partitions_back c h)
    (step (judged c.partitions) _ tt _ (judged_back (node_ids c.nodes) (ring_ids c.rings) c.partitions h.partitions) refl)))))

pub returns : goal.returns
returns c = config_back
