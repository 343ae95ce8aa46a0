-- A deployment.
use Rattle.std.specs.Prelude.{[], ◌∷◌}
use Rattle.mrp_config.specs.Config.{Config}
use Rattle.protocol_rows.specs.Words.{node, ring, partition, log}

abbrev pub config : Config
config = record {
  m = 1;
  lambda = 2;
  delta = 1;
  resend = 1000;
  suspect = 10000;
  attempt = 10000;
  checkpoint = 1000000;
  trim = 1000000;
  window = 2;
  journal = 1048576;
  nodes = (record { id = node 0; address = 49 ∷ 50 ∷ 55 ∷ 46 ∷ 48 ∷ 46 ∷ 48 ∷ 46 ∷ 49 ∷ 58 ∷ 55 ∷ 49 ∷ 48 ∷ 48 ∷ [] }) ∷ (record { id = node 1; address = 49 ∷ 50 ∷ 55 ∷ 46 ∷ 48 ∷ 46 ∷ 48 ∷ 46 ∷ 49 ∷ 58 ∷ 55 ∷ 49 ∷ 48 ∷ 49 ∷ [] }) ∷ (record { id = node 2; address = 49 ∷ 50 ∷ 55 ∷ 46 ∷ 48 ∷ 46 ∷ 48 ∷ 46 ∷ 49 ∷ 58 ∷ 55 ∷ 49 ∷ 48 ∷ 50 ∷ [] }) ∷ [];
  clients = [];
  rings = (record { id = ring 0; acceptors = node 0 ∷ node 1 ∷ node 2 ∷ []; m = 1 }) ∷ [];
  partitions = (record { id = partition 0; replicas = node 2 ∷ []; rings = ring 0 ∷ []; home = ring 0; from = []; to = []; logs = log 0 ∷ []; trim_quorum = 1; recovery_quorum = 1 }) ∷ [];
}
