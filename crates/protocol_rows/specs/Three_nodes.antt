-- A deployment.
use Rattle.std.specs.Prelude.{[], ◌∷◌}
use Rattle.mrp_config.specs.Config.{Config}
use Rattle.protocol_rows.specs.Words.{node, ring, client, partition, log}

abbrev pub config : Config
config = record {
  m = 1;
  lambda = 0;
  delta = 1;
  resend = 4;
  suspect = 16;
  attempt = 8;
  checkpoint = 2;
  trim = 8;
  window = 16;
  journal = 1048576;
  nodes = (record { id = node 0; address = 49 ∷ 50 ∷ 55 ∷ 46 ∷ 48 ∷ 46 ∷ 48 ∷ 46 ∷ 49 ∷ 58 ∷ 55 ∷ 49 ∷ 48 ∷ 48 ∷ [] }) ∷ (record { id = node 1; address = 49 ∷ 50 ∷ 55 ∷ 46 ∷ 48 ∷ 46 ∷ 48 ∷ 46 ∷ 49 ∷ 58 ∷ 55 ∷ 49 ∷ 48 ∷ 49 ∷ [] }) ∷ (record { id = node 2; address = 49 ∷ 50 ∷ 55 ∷ 46 ∷ 48 ∷ 46 ∷ 48 ∷ 46 ∷ 49 ∷ 58 ∷ 55 ∷ 49 ∷ 48 ∷ 50 ∷ [] }) ∷ [];
  clients = (record { id = client 0; address = 49 ∷ 50 ∷ 55 ∷ 46 ∷ 48 ∷ 46 ∷ 48 ∷ 46 ∷ 49 ∷ 58 ∷ 55 ∷ 50 ∷ 48 ∷ 48 ∷ [] }) ∷ (record { id = client 1; address = 49 ∷ 50 ∷ 55 ∷ 46 ∷ 48 ∷ 46 ∷ 48 ∷ 46 ∷ 49 ∷ 58 ∷ 55 ∷ 50 ∷ 48 ∷ 49 ∷ [] }) ∷ [];
  rings = (record { id = ring 0; acceptors = node 0 ∷ node 1 ∷ node 2 ∷ []; m = 1 }) ∷ [];
  partitions = (record { id = partition 0; replicas = node 0 ∷ node 1 ∷ node 2 ∷ []; rings = ring 0 ∷ []; home = ring 0; from = []; to = []; logs = log 0 ∷ []; trim_quorum = 2; recovery_quorum = 2 }) ∷ [];
}
