-- A deployment.
use Rattle.std.specs.Prelude.{[], ◌∷◌}
use Rattle.mrp_config.specs.Config.{Config}
use Rattle.protocol_rows.specs.Words.{node, ring, client, partition, log}

abbrev pub config : Config
config = record {
  m = 1;
  lambda = 4;
  delta = 1;
  resend = 4;
  suspect = 16;
  attempt = 8;
  checkpoint = 50;
  trim = 64;
  window = 16;
  journal = 67108864;
  nodes = (record { id = node 0; address = 49 ∷ 50 ∷ 55 ∷ 46 ∷ 48 ∷ 46 ∷ 48 ∷ 46 ∷ 49 ∷ 58 ∷ 55 ∷ 51 ∷ 48 ∷ 48 ∷ [] }) ∷ (record { id = node 1; address = 49 ∷ 50 ∷ 55 ∷ 46 ∷ 48 ∷ 46 ∷ 48 ∷ 46 ∷ 49 ∷ 58 ∷ 55 ∷ 51 ∷ 48 ∷ 49 ∷ [] }) ∷ (record { id = node 2; address = 49 ∷ 50 ∷ 55 ∷ 46 ∷ 48 ∷ 46 ∷ 48 ∷ 46 ∷ 49 ∷ 58 ∷ 55 ∷ 51 ∷ 48 ∷ 50 ∷ [] }) ∷ (record { id = node 3; address = 49 ∷ 50 ∷ 55 ∷ 46 ∷ 48 ∷ 46 ∷ 48 ∷ 46 ∷ 49 ∷ 58 ∷ 55 ∷ 51 ∷ 48 ∷ 51 ∷ [] }) ∷ (record { id = node 4; address = 49 ∷ 50 ∷ 55 ∷ 46 ∷ 48 ∷ 46 ∷ 48 ∷ 46 ∷ 49 ∷ 58 ∷ 55 ∷ 51 ∷ 48 ∷ 52 ∷ [] }) ∷ (record { id = node 5; address = 49 ∷ 50 ∷ 55 ∷ 46 ∷ 48 ∷ 46 ∷ 48 ∷ 46 ∷ 49 ∷ 58 ∷ 55 ∷ 51 ∷ 48 ∷ 53 ∷ [] }) ∷ (record { id = node 6; address = 49 ∷ 50 ∷ 55 ∷ 46 ∷ 48 ∷ 46 ∷ 48 ∷ 46 ∷ 49 ∷ 58 ∷ 55 ∷ 51 ∷ 48 ∷ 54 ∷ [] }) ∷ (record { id = node 7; address = 49 ∷ 50 ∷ 55 ∷ 46 ∷ 48 ∷ 46 ∷ 48 ∷ 46 ∷ 49 ∷ 58 ∷ 55 ∷ 51 ∷ 48 ∷ 55 ∷ [] }) ∷ (record { id = node 8; address = 49 ∷ 50 ∷ 55 ∷ 46 ∷ 48 ∷ 46 ∷ 48 ∷ 46 ∷ 49 ∷ 58 ∷ 55 ∷ 51 ∷ 48 ∷ 56 ∷ [] }) ∷ [];
  clients = (record { id = client 0; address = 49 ∷ 50 ∷ 55 ∷ 46 ∷ 48 ∷ 46 ∷ 48 ∷ 46 ∷ 49 ∷ 58 ∷ 55 ∷ 52 ∷ 48 ∷ 48 ∷ [] }) ∷ [];
  rings = (record { id = ring 0; acceptors = node 0 ∷ node 1 ∷ node 2 ∷ []; m = 1 }) ∷ (record { id = ring 1; acceptors = node 1 ∷ node 2 ∷ node 0 ∷ []; m = 1 }) ∷ (record { id = ring 2; acceptors = node 2 ∷ node 0 ∷ node 1 ∷ []; m = 1 }) ∷ [];
  partitions = (record { id = partition 0; replicas = node 3 ∷ node 4 ∷ node 5 ∷ []; rings = ring 0 ∷ ring 2 ∷ []; home = ring 0; from = []; to = 109 ∷ []; logs = log 0 ∷ []; trim_quorum = 2; recovery_quorum = 2 }) ∷ (record { id = partition 1; replicas = node 6 ∷ node 7 ∷ node 8 ∷ []; rings = ring 1 ∷ ring 2 ∷ []; home = ring 1; from = 109 ∷ []; to = []; logs = log 1 ∷ []; trim_quorum = 2; recovery_quorum = 2 }) ∷ [];
}
