-- A run with a trim, a crash, a recovery from another node, and a delivery after it.
use Rattle.std.specs.Prelude.{ℕ, zero, suc, List, [], ◌∷◌, Option, Some, None}
use Rattle.mrp_types.specs.declared.id.NodeId.{NodeId}
use Rattle.mrp_types.specs.declared.id.RingId.{RingId}
use Rattle.mrp_types.specs.declared.id.ClientId.{ClientId}
use Rattle.mrp_types.specs.declared.id.PartitionId.{PartitionId}
use Rattle.mrp_types.specs.declared.id.LogId.{LogId}
use Rattle.mrp_config.specs.Config.{Config}
use Rattle.command_codec.specs.declared.command.Command.TheVariants as command
use Rattle.protocol.specs.Lines.{Line, Begin, Chose, Deliver, Restore, Saved, Trim, Up, Down, Crash}
use Rattle.bare_world.specs.Worlds.{Happening, nothing}
use Rattle.bare_world.specs.Runs.{run}
use Rattle.line_rows.specs.Moves.{Move, Open, Lead, Ask, Fall, happenings, flow, ticks}

abbrev pub node : ℕ → NodeId
node n = record { 0 = n }

abbrev pub ring : ℕ → RingId
ring n = record { 0 = n }

abbrev pub client : ℕ → ClientId
client n = record { 0 = n }

abbrev pub log : ℕ → LogId
log n = record { 0 = n }

abbrev pub partition : ℕ → PartitionId
partition n = record { 0 = n }

-- 127.0.0.1:7100 to :7102, and :7200
abbrev pub address : ℕ → ℕ → List ℕ
address hundreds last = 49 ∷ 50 ∷ 55 ∷ 46 ∷ 48 ∷ 46 ∷ 48 ∷ 46 ∷ 49 ∷ 58 ∷ 55 ∷ hundreds ∷ 48 ∷ last ∷ []

-- three nodes, each an acceptor of the one ring and a replica of the one partition; two of them are either quorum
abbrev pub config : Config
config = record {
  m = 1;
  lambda = 0;
  delta = 1;
  resend = 4;
  suspect = 16;
  attempt = 8;
  checkpoint = 2;
  trim = 8;
  window = 16;
  journal = 1048576;
  nodes = (record { id = node 0; address = address 49 48 }) ∷ (record { id = node 1; address = address 49 49 }) ∷ (record { id = node 2; address = address 49 50 }) ∷ [];
  clients = (record { id = client 0; address = address 50 48 }) ∷ [];
  rings = (record { id = ring 0; acceptors = node 0 ∷ node 1 ∷ node 2 ∷ []; m = 1 }) ∷ [];
  partitions = (record { id = partition 0; replicas = node 0 ∷ node 1 ∷ node 2 ∷ []; rings = ring 0 ∷ []; home = ring 0; from = []; to = []; logs = log 0 ∷ []; trim_quorum = 2; recovery_quorum = 2 }) ∷ [];
}

-- Two commands are ordered, two nodes save, and a round of trimming ends; then the third node crashes, opens, recovers from
-- another, and delivers one command more.
abbrev pub moves : List Move
moves =
    Open (node 0) ∷ Open (node 1) ∷ Open (node 2) ∷ flow 12 (
    Lead (node 0) (ring 0) ∷ flow 6 (
    Ask (client 0) (command.Append (log 0) (104 ∷ 105 ∷ [])) ∷ flow 14 (
    Ask (client 0) (command.Append (log 0) (111 ∷ 107 ∷ [])) ∷ flow 14 (
    ticks 1 (node 1) (ticks 9 (node 0) (flow 20 (
    Fall (node 2) ∷ Open (node 2) ∷ flow 12 (
    Ask (client 0) (command.Append (log 0) (98 ∷ 121 ∷ [])) ∷ flow 14 []))))))))

abbrev pub happened : List Happening
happened = happenings config moves 0 nothing

abbrev pub lines : List Line
lines = (run config happened nothing).lines

-- the restore line of this number, counted from 0: its node and tuple
abbrev pub restore_at : ℕ → List Line → Option (NodeId × List ℕ)
restore_at n [] = None
restore_at zero (Restore x tuple ∷ lines) = Some (x, tuple)
restore_at (suc n) (Restore x tuple ∷ lines) = restore_at n lines
restore_at n (other ∷ lines) = restore_at n lines

-- the lines before it, and those after it
abbrev pub before_restore : ℕ → List Line → List Line
before_restore n [] = []
before_restore zero (Restore x tuple ∷ lines) = []
before_restore (suc n) (Restore x tuple ∷ lines) = Restore x tuple ∷ before_restore n lines
before_restore n (other ∷ lines) = other ∷ before_restore n lines

abbrev pub after_restore : ℕ → List Line → List Line
after_restore n [] = []
after_restore zero (Restore x tuple ∷ lines) = lines
after_restore (suc n) (Restore x tuple ∷ lines) = after_restore n lines
after_restore n (other ∷ lines) = after_restore n lines

-- the lines of nodes' lives and the trims, without what was learned, replied and answered
abbrev pub of_lives : List Line → List Line
of_lives [] = []
of_lives (Begin x epoch attempt tuple ∷ lines) = Begin x epoch attempt tuple ∷ of_lives lines
of_lives (Chose x epoch attempt tuple from ∷ lines) = Chose x epoch attempt tuple from ∷ of_lives lines
of_lives (Restore x tuple ∷ lines) = Restore x tuple ∷ of_lives lines
of_lives (Deliver x r inst ∷ lines) = Deliver x r inst ∷ of_lives lines
of_lives (Saved x tuple ∷ lines) = Saved x tuple ∷ of_lives lines
of_lives (Trim x r inst ∷ lines) = Trim x r inst ∷ of_lives lines
of_lives (Up x epoch ∷ lines) = Up x epoch ∷ of_lives lines
of_lives (Down x cause ∷ lines) = Down x cause ∷ of_lives lines
of_lives (other ∷ lines) = of_lives lines

abbrev pub wanted : List Line
wanted =
    Up (node 0) 1 ∷
    Begin (node 0) 1 1 (0 ∷ []) ∷
    Up (node 1) 1 ∷
    Begin (node 1) 1 1 (0 ∷ []) ∷
    Up (node 2) 1 ∷
    Begin (node 2) 1 1 (0 ∷ []) ∷
    Chose (node 0) 1 1 (0 ∷ []) (node 0) ∷
    Restore (node 0) (0 ∷ []) ∷
    Chose (node 1) 1 1 (0 ∷ []) (node 1) ∷
    Restore (node 1) (0 ∷ []) ∷
    Chose (node 2) 1 1 (0 ∷ []) (node 2) ∷
    Restore (node 2) (0 ∷ []) ∷
    Deliver (node 1) (ring 0) 0 ∷
    Deliver (node 2) (ring 0) 0 ∷
    Deliver (node 0) (ring 0) 0 ∷
    Deliver (node 1) (ring 0) 1 ∷
    Deliver (node 2) (ring 0) 1 ∷
    Deliver (node 0) (ring 0) 1 ∷
    Saved (node 1) (2 ∷ []) ∷
    Saved (node 0) (2 ∷ []) ∷
    Trim (node 0) (ring 0) 2 ∷
    Down (node 2) Crash ∷
    Up (node 2) 2 ∷
    Begin (node 2) 2 1 (0 ∷ []) ∷
    Chose (node 2) 2 1 (2 ∷ []) (node 0) ∷
    Restore (node 2) (2 ∷ []) ∷
    Deliver (node 1) (ring 0) 2 ∷
    Deliver (node 2) (ring 0) 2 ∷
    Deliver (node 0) (ring 0) 2 ∷
    []
