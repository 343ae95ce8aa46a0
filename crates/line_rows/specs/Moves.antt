-- Runs told by short moves: which frame is taken next, which node has a tick, crashes or opens.
use Rattle.std.specs.Prelude.{ℕ, zero, suc, ◌+◌, List, [], ◌∷◌, Option, Some, None, slice_get, false}
use Rattle.mrp_types.specs.declared.id.NodeId.{NodeId}
use Rattle.mrp_types.specs.declared.id.ClientId.{ClientId}
use Rattle.mrp_types.specs.declared.id.RingId.{RingId}
use Rattle.mrp_types.specs.declared.id.Party.{Party}
use Rattle.mrp_types.specs.declared.id.Party.TheVariants.{Node, Client}
use Rattle.mrp_config.specs.Config.{Config, node_at, client_at}
use Rattle.mrp_config.specs.declared.tables.NodeTable.{NodeTable}
use Rattle.mrp_config.specs.declared.tables.ClientTable.{ClientTable}
use Rattle.command_codec.specs.declared.command.Command.{Command}
use Rattle.disk_model.specs.declared.area.Area.TheVariants.{Journal0}
use Rattle.frames.specs.declared.sent.Sent.{Sent}
use Rattle.vote_journal.specs.Journal.{Journal}
use Rattle.checkpoint.specs.Checkpoints.{Checkpoint, Checkpoints}
use Rattle.protocol.specs.Lines.{Crash}
use Rattle.protocol.specs.Node.{Ticks, Takes, Leads}
use Rattle.bare_world.specs.Worlds.{Possible, Host, Up, Down, World, Happening, Steps, Crashes, Opens, Asks, ClientTakes, happens}

pub data Move : Type 0 where
  -- a node that is down, and whose disk has no checkpoint, opens on what stood
  Open : NodeId → Move
  -- the frame that is next in the order of sending is taken, where there is one
  Next : Move
  Tick : NodeId → Move
  Lead : NodeId → RingId → Move
  Ask : ClientId → Command → Move
  Fall : NodeId → Move

-- what an opening reads of a state, in an epoch more
abbrev pub journal_of : NodeId → Possible → Journal
journal_of id s = record { id = id; log = record { area = Journal0; generation = 1; end = 32; base_end = 32; limit = 1048576 }; state = record { epoch = s.state.epoch + 1; rings = s.state.rings } }

abbrev pub checkpoints_of : Possible → Checkpoints
checkpoints_of s = record { area = None; generation = 0; from = 0; newest = s.newest }

abbrev pub opens_with : NodeId → Option NodeTable → Possible → Option Checkpoint → List Happening
opens_with id None s newest = []
opens_with id (Some table) s None = Opens id false (journal_of id s) (checkpoints_of s) ∷ []
opens_with id (Some table) s (Some newest) = []

abbrev pub opens_host : Config → NodeId → Host → List Happening
opens_host c id (Up view) = []
opens_host c id (Down durable pending) = opens_with id (node_at c.nodes id.0) durable durable.newest

abbrev pub taken_by : Config → Party → Option ClientTable → Sent → List Happening
taken_by c (Node id) table sent = Steps id (Takes sent.frame) ∷ []
taken_by c (Client id) None sent = []
taken_by c (Client id) (Some table) sent = ClientTakes id sent.frame.body ∷ []

abbrev pub client_of : Config → Party → Option ClientTable
client_of c (Node id) = None
client_of c (Client id) = client_at c.clients id.0

abbrev pub taken_next : Config → Option Sent → List Happening
taken_next c None = []
taken_next c (Some sent) = taken_by c sent.to (client_of c sent.to) sent

abbrev pub asked_by : ClientId → Command → Option ClientTable → List Happening
asked_by id command None = []
asked_by id command (Some table) = Asks id command ∷ []

-- at most one happening; `cursor` counts the frames that were taken
abbrev pub happenings_of : Config → ℕ → World → Move → List Happening
happenings_of c cursor w (Open id) = opens_host c id (w.hosts id.0)
happenings_of c cursor w Next = taken_next c (slice_get w.frames cursor)
happenings_of c cursor w (Tick id) = Steps id Ticks ∷ []
happenings_of c cursor w (Lead id ring) = Steps id (Leads ring) ∷ []
happenings_of c cursor w (Ask id command) = asked_by id command (client_at c.clients id.0)
happenings_of c cursor w (Fall id) = Crashes id Crash ∷ []

abbrev pub moved_on : Move → Option Sent → ℕ → ℕ
moved_on Next (Some sent) cursor = suc cursor
moved_on other sent cursor = cursor

-- the happenings of some moves, one after another
abbrev pub with_happening : (ℕ → World → List Happening) → Config → ℕ → World → List Happening → List Happening
with_happening rest c cursor w [] = rest cursor w
with_happening rest c cursor w (h ∷ hs) = h ∷ rest cursor (happens c h w)

abbrev pub happenings : Config → List Move → ℕ → World → List Happening
happenings c [] cursor w = []
happenings c (m ∷ ms) cursor w = with_happening (happenings c ms) c (moved_on m (slice_get w.frames cursor) cursor) w (happenings_of c cursor w m)

-- several frames in the order of sending
abbrev pub flow : ℕ → List Move → List Move
flow zero ms = ms
flow (suc n) ms = Next ∷ flow n ms

abbrev pub ticks : ℕ → NodeId → List Move → List Move
ticks zero id ms = ms
ticks (suc n) id ms = Tick id ∷ ticks n id ms
