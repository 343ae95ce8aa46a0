-- A world without bytes: a node that is up is its view, one that is down is the two states that its disk may stand for.
use Rattle.std.specs.Prelude.{map, ◌≡◌, ℕ, ◌==◌, Bool, true, false, List, [], ◌∷◌, ◌++◌, Option, Some, None, if◌then◌else◌}
use Rattle.mrp_types.specs.declared.id.NodeId.{NodeId}
use Rattle.mrp_types.specs.declared.id.ClientId.{ClientId}
use Rattle.mrp_config.specs.Config.{Config}
use Rattle.command_codec.specs.declared.command.Command.{Command}
use Rattle.frames.specs.declared.body.Body.{Body}
use Rattle.frames.specs.declared.sent.Sent.{Sent}
use Rattle.transcript.specs.declared.line.ShownState.{ShownState}
use Rattle.transcript.specs.declared.line.ShownFrame.{ShownFrame}
use Rattle.vote_state.specs.State.{State, nothing_kept}
use Rattle.vote_journal.specs.Journal.{Journal}
use Rattle.checkpoint.specs.Checkpoints.{Checkpoint, Checkpoints}
use Rattle.protocol.specs.Lines.{Line, Cause}
use Rattle.protocol.specs.Lines as line
use Rattle.protocol.specs.Node.{View, Event, Stepped, Work, state_shown}
use Rattle.protocol.specs.Opening.{opened}
use Rattle.protocol.specs.Step.{step}
use Rattle.protocol.specs.Client.{ClientView, ClientEffects, new_client, asks, client_ticks, client_takes}

-- ---- what there is

-- what a disk may stand for: the state of its journal, and its newest checkpoint
pub record Possible : Type 0 where
  pub state : State
  pub newest : Option Checkpoint

-- A node that is up, or one that is down. Of the latter's two states the durable one is what stood before the step that was
-- stopped, the pending one what that step would have left; they are the same where no step was.
pub data Host : Type 0 where
  Up : View → Host
  Down : (durable pending : Possible) → Host

-- The nodes and the clients by number, every frame ever sent, every line printed, and two histories of what counts as done:
-- the work of each step that ended well, and the state that each opening that ended well has read.
pub record World : Type 0 where
  pub hosts : ℕ → Host
  pub clients : ℕ → ClientView
  pub frames : List Sent
  pub lines : List Line
  pub works : List (NodeId × Work)
  pub read : List (NodeId × State)

-- no node has opened yet, and no client has asked
abbrev pub nothing : World
nothing = record {
  hosts = λ k. Down (record { state = nothing_kept; newest = None }) (record { state = nothing_kept; newest = None });
  clients = λ k. new_client (record { 0 = k });
  frames = [];
  lines = [];
  works = [];
  read = [];
}

-- ---- what may happen

pub data Happening : Type 0 where
  -- a step of a node that is up ends well
  Steps : NodeId → Event → Happening
  -- the work of a step is stopped, and the node goes down
  Breaks : NodeId → Event → Cause → Happening
  -- a node goes down between two steps, or before the work of one, as where its journal is full
  Crashes : NodeId → Cause → Happening
  -- a node that is down opens on one of its two states, and goes on with this journal and these checkpoints
  Opens : NodeId → (pending : Bool) → Journal → Checkpoints → Happening
  -- An opening on one of the two states fails, and the disk may stand for what it leaves too.
  Fails : NodeId → (pending : Bool) → (left : Possible) → Cause → Happening
  -- a client is told to ask a command, has a tick, or gets a frame
  Asks : ClientId → Command → Happening
  ClientTicks : ClientId → Happening
  ClientTakes : ClientId → Body → Happening
  -- the state of a node is printed, or a frame is, of which nothing is said here
  Shows : NodeId → Happening
  Lists : (number : ℕ) → Option ShownFrame → Happening

-- ---- parts of a world

abbrev pub with_host : NodeId → Host → World → World
with_host id host w = record w { hosts = λ k. if k == id.0 then host else w.hosts k }

abbrev pub with_client : ClientId → ClientView → World → World
with_client id client w = record w { clients = λ k. if k == id.0 then client else w.clients k }

abbrev pub with_frames : List Sent → World → World
with_frames frames w = record w { frames = w.frames ++ frames }

abbrev pub with_lines : List Line → World → World
with_lines lines w = record w { lines = w.lines ++ lines }

-- ---- nodes

-- what the disk of a node that is up stands for
abbrev pub possible_of : View → Possible
possible_of view = record { state = view.journal.state; newest = view.checkpoints.newest }

-- the chosen one of the two
abbrev pub chosen : Bool → Possible → Possible → Possible
chosen false durable pending = durable
chosen true durable pending = pending

-- the node is up with its new view; its frames are sent and its lines printed
abbrev pub after_step : NodeId → List Line → Stepped → World → World
after_step id before made w = with_lines (before ++ made.lines) (with_frames made.frames (with_host id (Up made.view) w))

-- the node is down
abbrev pub goes_down : NodeId → Cause → Possible → Possible → World → World
goes_down id cause durable pending w = with_lines (line.Down id cause ∷ []) (with_host id (Down durable pending) w)

abbrev pub with_work : NodeId → Work → World → World
with_work id work w = record w { works = w.works ++ (id, work) ∷ [] }

abbrev pub with_read : NodeId → State → World → World
with_read id state w = record w { read = w.read ++ (id, state) ∷ [] }

abbrev pub stepped : NodeId → Stepped → World → World
stepped id made w = with_work id made.work (after_step id [] made w)

abbrev pub steps_as : Config → NodeId → Event → Host → World → World
steps_as config id event (Down durable pending) w = w
steps_as config id event (Up view) w = stepped id (step config view event) w

abbrev pub breaks_as : Config → NodeId → Event → Cause → Host → World → World
breaks_as config id event cause (Down durable pending) w = w
breaks_as config id event cause (Up view) w = goes_down id cause (possible_of view) (possible_of (step config view event).view) w

abbrev pub crashes_as : NodeId → Cause → Host → World → World
crashes_as id cause (Down durable pending) w = w
crashes_as id cause (Up view) w = goes_down id cause (possible_of view) (possible_of view) w

abbrev pub opens_as : Config → NodeId → Journal → Checkpoints → Host → World → World
opens_as config id journal checkpoints (Up view) w = w
opens_as config id journal checkpoints (Down durable pending) w =
    with_read id journal.state (after_step id (line.Up id journal.state.epoch ∷ []) (opened config id journal checkpoints) w)

abbrev pub fails_as : NodeId → Bool → Possible → Cause → Host → World → World
fails_as id after left cause (Up view) w = w
fails_as id after left cause (Down durable pending) w = goes_down id cause (chosen after durable pending) left w

-- ---- clients

abbrev pub client_step : ClientId → ClientEffects → World → World
client_step id made w = with_lines made.lines (with_frames made.frames (with_client id made.client w))

-- ---- a happening

abbrev pub state_of_host : Host → Option ShownState
state_of_host (Up view) = state_shown view
state_of_host (Down durable pending) = None

abbrev pub happens : Config → Happening → World → World
happens config (Steps id event) w = steps_as config id event (w.hosts id.0) w
happens config (Breaks id event cause) w = breaks_as config id event cause (w.hosts id.0) w
happens config (Crashes id cause) w = crashes_as id cause (w.hosts id.0) w
happens config (Opens id after journal checkpoints) w = opens_as config id journal checkpoints (w.hosts id.0) w
happens config (Fails id after left cause) w = fails_as id after left cause (w.hosts id.0) w
happens config (Asks id command) w = client_step id (asks config (w.clients id.0) command) w
happens config (ClientTicks id) w = client_step id (client_ticks config (w.clients id.0)) w
happens config (ClientTakes id body) w = client_step id (client_takes config (w.clients id.0) body) w
happens config (Shows id) w = with_lines (line.State id (state_of_host (w.hosts id.0)) ∷ []) w
happens config (Lists number shown) w = with_lines (line.Frame number shown ∷ []) w
