-- Two partitions and what commands concern: keys below `m` with log 0, and the others with log 1; ring 2 is of both.
use Rattle.std.specs.Prelude.{ℕ, ◌≡◌, List, [], ◌∷◌, codes, Result, Ok, Err}
use Rattle.mrp_types.specs.declared.id.RingId.{RingId}
use Rattle.command_codec.specs.declared.command.Command.{Command}
use Rattle.command_codec.specs.declared.command.Command.TheVariants.{Multi, ReadLog, Get, Scan, Swap}
use Rattle.mrp_config.specs.declared.routing.NoGroup.{NoGroup}
use Rattle.mrp_config.specs.declared.tables.PartitionTable.{PartitionTable}
use Rattle.mrp_config.specs.Config.{Config}
use Rattle.mrp_config.specs.Routing.{concerned_of, mask_of, no_group, route_of}
use Rattle.worked_values.specs.Ids.{log, ring}

abbrev pub partition : ℕ → List ℕ → List ℕ → PartitionTable
partition number from to = record { id = record { 0 = number }; replicas = []; rings = ring number ∷ ring 2 ∷ []; home = ring number; from = from; to = to; logs = log number ∷ []; trim_quorum = 2; recovery_quorum = 2 }

abbrev pub two_partitions : List PartitionTable
two_partitions = partition 0 [] (codes "m") ∷ partition 1 (codes "m") [] ∷ []

-- a command, its bits, and its ring
pub record Routed : Type 0 where
  pub command : Command
  pub mask : ℕ
  pub to : Result RingId NoGroup

abbrev pub routed : Command → ℕ → Result RingId NoGroup → Routed
routed command mask to = record { command = command; mask = mask; to = to }

abbrev pub AreBits : Routed → Type 0
AreBits row = mask_of row.command two_partitions ≡ row.mask

abbrev pub IsRoute : Routed → Type 0
IsRoute row = route_of (concerned_of row.command two_partitions) ≡ row.to

abbrev pub commands : List Routed
commands =
    routed (ReadLog (log 0) 0) 1 (Ok (ring 0))
    ∷ routed (ReadLog (log 1) 0) 2 (Ok (ring 1))
    ∷ routed (ReadLog (log 5) 0) 0 (Err no_group)
    ∷ routed (Multi (log 0 ∷ log 1 ∷ []) (codes "c")) 3 (Ok (ring 2))
    ∷ routed (Multi (log 1 ∷ log 7 ∷ []) (codes "c")) 2 (Ok (ring 1))
    ∷ routed (Multi (log 6 ∷ log 7 ∷ []) (codes "c")) 0 (Err no_group)
    ∷ routed (Get (codes "a")) 1 (Ok (ring 0))
    ∷ routed (Get (codes "m")) 2 (Ok (ring 1))
    ∷ routed (Get (codes "lzz")) 1 (Ok (ring 0))
    ∷ routed (Swap (codes "a") (codes "z") (codes "z")) 1 (Ok (ring 0))
    ∷ routed (Scan [] []) 3 (Ok (ring 2))
    ∷ routed (Scan (codes "a") (codes "m")) 1 (Ok (ring 0))
    ∷ routed (Scan (codes "a") (codes "m0")) 3 (Ok (ring 2))
    ∷ routed (Scan (codes "m") (codes "n")) 2 (Ok (ring 1))
    ∷ routed (Scan (codes "l") []) 3 (Ok (ring 2))
    ∷ []

-- a deployment whose first ring has a round of 1,024, of which only the rounds matter here
abbrev pub long_round : Config
long_round = record {
  m = 3;
  lambda = 0;
  delta = 1;
  resend = 4;
  suspect = 16;
  attempt = 8;
  checkpoint = 2;
  trim = 8;
  window = 16;
  journal = 1048576;
  nodes = [];
  clients = [];
  rings = record { id = ring 0; acceptors = []; m = 1024 } ∷ record { id = ring 1; acceptors = []; m = 1 } ∷ [];
  partitions = [];
}
