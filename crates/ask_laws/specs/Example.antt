-- A run in which a command is asked and learned: a deployment of one node and one client.
use Rattle.std.specs.Prelude.{false, List, [], ◌∷◌}
use Rattle.mrp_types.specs.declared.id.NodeId.{NodeId}
use Rattle.mrp_types.specs.declared.id.ClientId.{ClientId}
use Rattle.mrp_types.specs.declared.id.RingId.{RingId}
use Rattle.mrp_types.specs.declared.id.Party.TheVariants.{Client}
use Rattle.mrp_types.specs.declared.value.Entry.{Entry}
use Rattle.mrp_types.specs.declared.value.Value.TheVariants.{Batch}
use Rattle.mrp_types.specs.Book.{Learning}
use Rattle.command_codec.specs.declared.command.Command.{Command}
use Rattle.command_codec.specs.declared.command.Command.TheVariants.{Append}
use Rattle.command_codec.specs.Spelling.{command_bytes, batch_bytes}
use Rattle.mrp_config.specs.Config.{Config}
use Rattle.frames.specs.declared.body.Body.TheVariants.{Submit}
use Rattle.frames.specs.declared.frame.Frame.{Frame}
use Rattle.vote_state.specs.State.{nothing_kept}
use Rattle.vote_journal.specs.Journal.{Journal}
use Rattle.disk_model.specs.declared.area.Area.TheVariants.{Journal0}
use Rattle.checkpoint.specs.Checkpoints.{no_checkpoints}
use Rattle.protocol.specs.Node.{Takes, Leads}
use Rattle.bare_world.specs.Worlds.{Happening, Asks, Opens, Steps}

abbrev pub node : NodeId
node = record { 0 = 0 }

abbrev pub client : ClientId
client = record { 0 = 0 }

abbrev pub ring : RingId
ring = record { 0 = 0 }

-- the addresses are 127.0.0.1:7100 and 127.0.0.1:7200
abbrev pub config : Config
config = record {
  m = 1;
  lambda = 0;
  delta = 1;
  resend = 4;
  suspect = 16;
  attempt = 8;
  checkpoint = 2;
  trim = 8;
  window = 16;
  journal = 1048576;
  nodes = (record { id = node; address = 49 ∷ 50 ∷ 55 ∷ 46 ∷ 48 ∷ 46 ∷ 48 ∷ 46 ∷ 49 ∷ 58 ∷ 55 ∷ 49 ∷ 48 ∷ 48 ∷ [] }) ∷ [];
  clients = (record { id = client; address = 49 ∷ 50 ∷ 55 ∷ 46 ∷ 48 ∷ 46 ∷ 48 ∷ 46 ∷ 49 ∷ 58 ∷ 55 ∷ 50 ∷ 48 ∷ 48 ∷ [] }) ∷ [];
  rings = (record { id = ring; acceptors = node ∷ []; m = 1 }) ∷ [];
  partitions = (record {
    id = record { 0 = 0 };
    replicas = node ∷ [];
    rings = ring ∷ [];
    home = ring;
    from = [];
    to = [];
    logs = (record { 0 = 0 }) ∷ [];
    trim_quorum = 1;
    recovery_quorum = 1;
  }) ∷ [];
}

-- a journal in which nothing is kept but the first epoch
abbrev pub journal : Journal
journal = record {
  id = node;
  log = record { area = Journal0; generation = 1; end = 35; base_end = 35; limit = 1048576 };
  state = record nothing_kept { epoch = 1 };
}

-- a byte for the end of log 0
abbrev pub command : Command
command = Append (record { 0 = 0 }) (120 ∷ [])

abbrev pub entry : Entry
entry = record { client = client; seq = 1; command = command_bytes command }

abbrev pub submit : Frame
submit = record { from = Client client; body = Submit ring 0 client 1 (command_bytes command) }

-- The client is told to ask, the node opens and is told to lead, and then it gets the client's frame.
abbrev pub a_run : List Happening
a_run = Asks client command ∷ Opens node false journal no_checkpoints ∷ Steps node (Leads ring) ∷ Steps node (Takes submit) ∷ []

-- what is learned: a batch of the command alone
abbrev pub learned : Learning
learned = record { ring = ring; lo = 0; hi = 1; value = Batch (batch_bytes (entry ∷ [])) }
