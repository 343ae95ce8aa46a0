-- What is read without a fault has seen all that makes a deployment valid.
use Rattle.std.proofs.Common.{◌≡◌, ℕ, List, [], Ok, codes, subst}
use Rattle.toml.specs.Data.{Members, get_member}
use Rattle.mrp_config.specs.declared.deployment.Numbers.{Numbers}
use Rattle.mrp_config.specs.declared.tables.NodeTable.{NodeTable}
use Rattle.mrp_config.specs.declared.tables.ClientTable.{ClientTable}
use Rattle.mrp_config.specs.declared.tables.RingTable.{RingTable}
use Rattle.mrp_config.specs.declared.tables.PartitionTable.{PartitionTable}
use Rattle.mrp_config.specs.Config.{Config, config_with}
use Rattle.config_walk.specs.Values.{number_of, all_known}
use Rattle.mrp_config.specs.Walk.{read_of, top_numbers, top_nodes, top_clients, top_rings, top_partitions, node_ids, ring_ids, top_names, judged, config_of, table_of}
use Rattle.mrp_config.specs.Valid.{IsBetween, IsValid}
use Rattle.config_walk.proofs.Seen.{bound, ok_is, number_saw}
use Rattle.mrp_config.proofs.Accepted.{top_nodes_saw, top_clients_saw, top_rings_saw}
use Rattle.mrp_config.proofs.AcceptedPartitions.{top_partitions_saw}

record AreNumbers (n : Numbers) : Type 0 where
  m : IsBetween 1 1024 n.m
  lambda : IsBetween 0 256 n.lambda
  delta : IsBetween 1 256 n.delta
  resend : IsBetween 1 1000 n.resend
  suspect : IsBetween 1 10000 n.suspect
  attempt : IsBetween 1 10000 n.attempt
  checkpoint : IsBetween 1 1000000 n.checkpoint
  trim : IsBetween 1 1000000 n.trim
  window : IsBetween 1 64 n.window
  journal : IsBetween 1048576 4294967295 n.journal

numbers_saw : (t : Members) (n : Numbers) → top_numbers t ≡ Ok n → AreNumbers n
unfolding top_numbers
numbers_saw t n h =
    let a = bound (number_of (codes "m") 1 1024 (get_member (codes "m") t)) _ n h in
    let b = bound (number_of (codes "lambda") 0 256 (get_member (codes "lambda") t)) _ n a.2 in
    let c = bound (number_of (codes "delta") 1 256 (get_member (codes "delta") t)) _ n b.2 in
    let d = bound (number_of (codes "resend") 1 1000 (get_member (codes "resend") t)) _ n c.2 in
    let e = bound (number_of (codes "suspect") 1 10000 (get_member (codes "suspect") t)) _ n d.2 in
    let f = bound (number_of (codes "attempt") 1 10000 (get_member (codes "attempt") t)) _ n e.2 in
    let g = bound (number_of (codes "checkpoint") 1 1000000 (get_member (codes "checkpoint") t)) _ n f.2 in
    let i = bound (number_of (codes "trim") 1 1000000 (get_member (codes "trim") t)) _ n g.2 in
    let j = bound (number_of (codes "window") 1 64 (get_member (codes "window") t)) _ n i.2 in
    let k = bound (number_of (codes "journal") 1048576 4294967295 (get_member (codes "journal") t)) _ n j.2 in
    subst AreNumbers (ok_is (record {
      m = a.0;
      lambda = b.0;
      delta = c.0;
      resend = d.0;
      suspect = e.0;
      attempt = f.0;
      checkpoint = g.0;
      trim = i.0;
      window = j.0;
      journal = k.0;
    }) n k.2) (record {
      m = number_saw (codes "m") 1 1024 (get_member (codes "m") t) a.0 a.1;
      lambda = number_saw (codes "lambda") 0 256 (get_member (codes "lambda") t) b.0 b.1;
      delta = number_saw (codes "delta") 1 256 (get_member (codes "delta") t) c.0 c.1;
      resend = number_saw (codes "resend") 1 1000 (get_member (codes "resend") t) d.0 d.1;
      suspect = number_saw (codes "suspect") 1 10000 (get_member (codes "suspect") t) e.0 e.1;
      attempt = number_saw (codes "attempt") 1 10000 (get_member (codes "attempt") t) f.0 f.1;
      checkpoint = number_saw (codes "checkpoint") 1 1000000 (get_member (codes "checkpoint") t) g.0 g.1;
      trim = number_saw (codes "trim") 1 1000000 (get_member (codes "trim") t) i.0 i.1;
      window = number_saw (codes "window") 1 64 (get_member (codes "window") t) j.0 j.1;
      journal = number_saw (codes "journal") 1048576 4294967295 (get_member (codes "journal") t) k.0 k.1;
    })

-- what is valid of the parts that were read of a table
pub parts_saw : (t : Members) (numbers : Numbers) (nodes : List NodeTable) (clients : List ClientTable) (rings : List RingTable) (partitions : List PartitionTable) (u : Unit {0})
    → top_numbers t ≡ Ok numbers → top_nodes t ≡ Ok nodes → top_clients t ≡ Ok clients → top_rings numbers.m (node_ids nodes) t ≡ Ok rings
    → top_partitions (node_ids nodes) (ring_ids rings) t ≡ Ok partitions → judged partitions ≡ Ok u → IsValid (config_with numbers nodes clients rings partitions)
parts_saw t numbers nodes clients rings partitions u a b c d e g =
    let n = numbers_saw t numbers a in
    record {
      m = n.m;
      lambda = n.lambda.1;
      delta = n.delta;
      resend = n.resend;
      suspect = n.suspect;
      attempt = n.attempt;
      checkpoint = n.checkpoint;
      trim = n.trim;
      window = n.window;
      journal = n.journal;
      nodes = top_nodes_saw t nodes b;
      clients = top_clients_saw t clients c;
      rings = top_rings_saw numbers.m (node_ids nodes) t rings n.m d;
      partitions = top_partitions_saw (node_ids nodes) (ring_ids rings) t partitions u e g;
    }

config_saw : (t : Members) (config : Config) → config_of t ≡ Ok config → IsValid config
unfolding config_of
config_saw t config h =
    let a = bound (top_numbers t) _ config h in
    let b = bound (top_nodes t) _ config a.2 in
    let c = bound (top_clients t) _ config b.2 in
    let d = bound (top_rings a.0.m (node_ids b.0) t) _ config c.2 in
    let e = bound (top_partitions (node_ids b.0) (ring_ids d.0) t) _ config d.2 in
    let f = bound (all_known [] top_names t) _ config e.2 in
    let g = bound (judged e.0) _ config f.2 in
    subst IsValid (ok_is (config_with a.0 b.0 c.0 d.0 e.0) config g.2) (parts_saw t a.0 b.0 c.0 d.0 e.0 g.0 a.1 b.1 c.1 d.1 e.1 g.1)

pub accepted_is_valid : (bytes : List ℕ) (config : Config) → read_of bytes ≡ Ok config → IsValid config
accepted_is_valid bytes config h =
    let read = bound (table_of bytes) config_of config h in
    config_saw read.0 config read.2
