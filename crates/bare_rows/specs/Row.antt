-- A run of three acceptors: a vote is stopped by a device failure, its disk shows the state after, and another leader decides the
-- value that the first one had proposed.
use Rattle.std.specs.Prelude.{ℕ, true, false, List, [], ◌∷◌, ◌++◌, slice_set}
use Rattle.mrp_types.specs.declared.id.TheConstants.{END}
use Rattle.mrp_types.specs.declared.id.NodeId.{NodeId}
use Rattle.mrp_types.specs.declared.id.RingId.{RingId}
use Rattle.mrp_types.specs.declared.id.ClientId.{ClientId}
use Rattle.mrp_types.specs.declared.id.PartitionId.{PartitionId}
use Rattle.mrp_types.specs.declared.id.LogId.{LogId}
use Rattle.mrp_types.specs.declared.id.Party.TheVariants.{Node, Client}
use Rattle.mrp_types.specs.declared.value.Value.{Value}
use Rattle.mrp_types.specs.declared.value.Value.TheVariants.{Batch}
use Rattle.mrp_config.specs.Config.{Config}
use Rattle.mrp_config.specs.declared.tables.RingTable.{RingTable}
use Rattle.command_codec.specs.declared.command.Command.TheVariants as command
use Rattle.frames.specs.declared.body.Body.{Body}
use Rattle.frames.specs.declared.body.Body.TheVariants as body
use Rattle.frames.specs.declared.frame.Frame.{Frame}
use Rattle.disk_model.specs.declared.area.Area.TheVariants as area
use Rattle.vote_state.specs.State.{State, nothing_kept}
use Rattle.vote_journal.specs.Journal.{Journal}
use Rattle.checkpoint.specs.Checkpoints.{no_checkpoints}
use Rattle.protocol.specs.Lines as line
use Rattle.protocol.specs.Node.{Leads, Takes}
use Rattle.bare_world.specs.Worlds.{Happening, Steps, Breaks, Opens, Asks}

abbrev pub node : ℕ → NodeId
node n = record { 0 = n }

abbrev pub ring : RingId
ring = record { 0 = 0 }

abbrev pub client : ClientId
client = record { 0 = 0 }

abbrev pub log : LogId
log = record { 0 = 0 }

abbrev pub home : PartitionId
home = record { 0 = 0 }

-- 127.0.0.1:7100 to :7103, and :7200
abbrev pub address : ℕ → ℕ → List ℕ
address hundreds last = 49 ∷ 50 ∷ 55 ∷ 46 ∷ 48 ∷ 46 ∷ 48 ∷ 46 ∷ 49 ∷ 58 ∷ 55 ∷ hundreds ∷ 48 ∷ last ∷ []

abbrev pub table : RingTable
table = record { id = ring; acceptors = node 0 ∷ node 1 ∷ node 2 ∷ []; m = 1 }

-- three acceptors, and a replica that is none
abbrev pub config : Config
config = record {
  m = 1;
  lambda = 0;
  delta = 1;
  resend = 4;
  suspect = 16;
  attempt = 8;
  checkpoint = 2;
  trim = 8;
  window = 16;
  journal = 1048576;
  nodes = (record { id = node 0; address = address 49 48 }) ∷ (record { id = node 1; address = address 49 49 }) ∷ (record { id = node 2; address = address 49 50 })
      ∷ (record { id = node 3; address = address 49 51 }) ∷ [];
  clients = (record { id = client; address = address 50 48 }) ∷ [];
  rings = table ∷ [];
  partitions = (record { id = home; replicas = node 3 ∷ []; rings = ring ∷ []; home = ring; from = []; to = []; logs = log ∷ []; trim_quorum = 1; recovery_quorum = 1 }) ∷ [];
}

abbrev pub journal : ℕ → State → Journal
journal n state = record { id = node n; log = record { area = area.Journal0; generation = 1; end = 0; base_end = 0; limit = 1048576 }; state = state }

abbrev pub opens_first : ℕ → Happening
opens_first n = Opens (node n) false (journal n (record nothing_kept { epoch = 1 })) no_checkpoints

abbrev pub from_node : ℕ → Body → Frame
from_node n b = record { from = Node (node n); body = b }

-- the command: to append two bytes to log 0
abbrev pub batch : Value
batch = Batch (1 ∷ 0 ∷ 1 ∷ 0 ∷ 0 ∷ 0 ∷ 0 ∷ 0 ∷ 0 ∷ 0 ∷ 0 ∷ 1 ∷ 0 ∷ 6 ∷ 1 ∷ 0 ∷ 0 ∷ 2 ∷ 104 ∷ 105 ∷ [])

-- what acceptor 1 keeps once its vote has come to the disk, in an epoch more
abbrev pub voted : State
voted = record {
  epoch = 2;
  rings = slice_set nothing_kept.rings 0 (record { promise = 3; trim = 0; votes = (0, record { ballot = 3; value = batch }) ∷ [] });
}

-- acceptor 0 leads in ballot 3 and proposes the command; the vote of acceptor 1 for it is stopped
abbrev pub stopped_vote : List Happening
stopped_vote =
    opens_first 0 ∷
    opens_first 1 ∷
    opens_first 2 ∷
    Steps (node 0) (Leads ring) ∷
    Steps (node 1) (Takes (from_node 0 (body.Prepare ring 3 0))) ∷
    Steps (node 0) (Takes (from_node 1 (body.Promise ring 3 0 END 0 []))) ∷
    Asks client (command.Append log (104 ∷ 105 ∷ [])) ∷
    Steps (node 0) (Takes (record { from = Client client; body = body.Submit ring 0 client 1 (1 ∷ 0 ∷ 0 ∷ 2 ∷ 104 ∷ 105 ∷ []) })) ∷
    Breaks (node 1) (Takes (from_node 0 (body.Accept ring 3 0 1 1 batch))) line.Crash ∷
    []

-- its disk shows the vote; acceptor 1 leads in ballot 4, with the promise of acceptor 2, and proposes the same; acceptor 2 votes
abbrev pub another_leader : List Happening
another_leader =
    Opens (node 1) true (journal 1 voted) no_checkpoints ∷
    Steps (node 1) (Leads ring) ∷
    Steps (node 2) (Takes (from_node 1 (body.Prepare ring 4 0))) ∷
    Steps (node 1) (Takes (from_node 2 (body.Promise ring 4 0 END 0 []))) ∷
    Steps (node 2) (Takes (from_node 1 (body.Accept ring 4 0 1 2 batch))) ∷
    []

abbrev pub happenings : List Happening
happenings = stopped_vote ++ another_leader

-- all that is printed
abbrev pub all_lines : List line.Line
all_lines =
    line.Up (node 0) 1 ∷
    line.Up (node 1) 1 ∷
    line.Up (node 2) 1 ∷
    line.Down (node 1) line.Crash ∷
    line.Up (node 1) 2 ∷
    line.Learn (node 2) ring 0 1 batch ∷
    []
