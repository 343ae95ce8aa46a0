-- A deployment.
use Rattle.std.specs.Prelude.{[], ◌∷◌}
use Rattle.mrp_config.specs.Config.{Config}
use Rattle.protocol_rows.specs.Words.{node, ring, client, partition, log}

abbrev pub config : Config
config = record {
  m = 2;
  lambda = 2;
  delta = 1;
  resend = 4;
  suspect = 16;
  attempt = 8;
  checkpoint = 100;
  trim = 8;
  window = 16;
  journal = 1048576;
  nodes = (record { id = node 0; address = 49 ∷ 50 ∷ 55 ∷ 46 ∷ 48 ∷ 46 ∷ 48 ∷ 46 ∷ 49 ∷ 58 ∷ 55 ∷ 55 ∷ 48 ∷ 48 ∷ [] }) ∷ [];
  clients = (record { id = client 0; address = 49 ∷ 50 ∷ 55 ∷ 46 ∷ 48 ∷ 46 ∷ 48 ∷ 46 ∷ 49 ∷ 58 ∷ 55 ∷ 56 ∷ 48 ∷ 48 ∷ [] }) ∷ [];
  rings = (record { id = ring 0; acceptors = node 0 ∷ []; m = 2 }) ∷ (record { id = ring 1; acceptors = node 0 ∷ []; m = 2 }) ∷ [];
  partitions = (record { id = partition 0; replicas = node 0 ∷ []; rings = ring 0 ∷ ring 1 ∷ []; home = ring 0; from = []; to = []; logs = log 0 ∷ []; trim_quorum = 1; recovery_quorum = 1 }) ∷ [];
}
