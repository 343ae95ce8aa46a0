-- The world: nodes on their disks, the frames between them, and their clients; and what happens to it at each event.
use Rattle.std.specs.Prelude.{ℕ, ◌+◌, min, zero, suc, Bool, true, false, List, [], ◌∷◌, ◌++◌, length, map, Option, Some, None, slice_get, Result, Ok, Err}
use Rattle.std.specs.Ordering.{nat_cmp}
use Rattle.std.specs.Option.{option_map}
use Rattle.std.specs.BTreeMap.{is_at, insert_entry}
use Rattle.std.specs.Map.{lookup}
use Rattle.std.specs.declared.cmp.Ordering.{Ordering}
use Rattle.mrp_types.specs.declared.id.NodeId.{NodeId}
use Rattle.mrp_types.specs.declared.id.ClientId.{ClientId}
use Rattle.mrp_types.specs.declared.id.Party.{Party}
use Rattle.mrp_types.specs.declared.id.Party.TheVariants.{Node, Client}
use Rattle.mrp_config.specs.Config.{Config}
use Rattle.mrp_config.specs.declared.tables.NodeTable.{NodeTable}
use Rattle.mrp_config.specs.declared.tables.ClientTable.{ClientTable}
use Rattle.command_codec.specs.declared.command.Command.{Command}
use Rattle.frames.specs.declared.body.Body.{Body}
use Rattle.frames.specs.declared.sent.Sent.{Sent}
use Rattle.frames.specs.Spelling.{frame_bytes}
use Rattle.transcript.specs.declared.line.ShownState.{ShownState}
use Rattle.transcript.specs.declared.line.ShownFrame.{ShownFrame}
use Rattle.disk_model.specs.declared.areas.Areas.{Areas}
use Rattle.disk_model.specs.declared.call.Call.{Call}
use Rattle.disk_model.specs.declared.plan.Plan.{Plan}
use Rattle.disk_model.specs.Calls.{Told, reads}
use Rattle.disk_model.specs.Crash.{left_by}
use Rattle.disk_model.specs.Sim.{Sim, fresh}
use Rattle.protocol.specs.Lines.{Line, Cause, Crash, Full}
use Rattle.protocol.specs.Lines as line
use Rattle.protocol.specs.Node.{View, Event, Ticks, Takes, Leads, Stepped, ops_of, is_full, state_shown}
use Rattle.protocol.specs.Opening.{opened}
use Rattle.protocol.specs.Step.{step}
use Rattle.protocol.specs.Client.{ClientView, ClientEffects, new_client, asks, client_ticks, client_takes}
use Rattle.disk_model.specs.Running.{Op, Ran, ran, changes_in}
use Rattle.world_model.specs.Disks.{cause_of, settled, no_plan, with_fuse, with_fail, with_fail_read, with_plan, restarted}
use Rattle.world_model.specs.Opening.{Opening, Kept, opening}
use Rattle.world_model.specs.Events.{ScheduleEvent}
use Rattle.world_model.specs.Events as event

-- ---- what there is

-- A node that is up, with its disk; or one that is down, with what its disk has told and the faults that were set since it
-- went down.
pub data Host : Type 0 where
  Up : View → Sim → Host
  Down : Told → Plan → Host

-- The nodes and the clients, by id; every frame ever sent, in order; and the number of the next frame that flows.
pub record World : Type 0 where
  pub nodes : List (NodeId × Host)
  pub clients : List (ClientId × ClientView)
  pub frames : List Sent
  pub cursor : ℕ

-- a world, and the lines that were printed
pub record Outcome : Type 0 where
  pub world : World
  pub lines : List Line

-- nothing is printed
abbrev pub quiet : World → Outcome
quiet w = record { world = w; lines = [] }

abbrev pub prints : List Line → World → Outcome
prints lines w = record { world = w; lines = lines }

abbrev pub after_lines : List Line → Outcome → Outcome
after_lines lines o = record o { lines = lines ++ o.lines }

-- the second after the first
abbrev pub and_then : Outcome → (World → Outcome) → Outcome
and_then o more = after_lines o.lines (more o.world)

-- one after another for each of a list
abbrev pub for_each : {A : Type 0} → (A → World → Outcome) → List A → World → Outcome
for_each applies_effects [] w = quiet w
for_each applies_effects (x ∷ xs) w = and_then (applies_effects x w) (λ next. for_each applies_effects xs next)

-- ---- nodes and clients by id

abbrev pub node_cmp : NodeId → NodeId → Ordering
node_cmp a b = nat_cmp a.0 b.0

abbrev pub client_cmp : ClientId → ClientId → Ordering
client_cmp a b = nat_cmp a.0 b.0

abbrev pub node_at : World → NodeId → Option Host
node_at w id = lookup (is_at (node_cmp id)) w.nodes

abbrev pub with_node : NodeId → Host → World → World
with_node id host w = record w { nodes = insert_entry node_cmp w.nodes id host }

abbrev pub client_at : World → ClientId → Option ClientView
client_at w id = lookup (is_at (client_cmp id)) w.clients

abbrev pub with_client : ClientId → ClientView → World → World
with_client id client w = record w { clients = insert_entry client_cmp w.clients id client }

-- frames are numbered as they are sent
abbrev pub sends : List Sent → World → World
sends [] w = w
sends (sent ∷ frames) w = record w { frames = w.frames ++ (sent ∷ frames) }

-- ---- a step of a node

-- the node is down, with one line; the faults that were set before are gone
abbrev pub goes_down : NodeId → Sim → Cause → World → Outcome
goes_down id disk cause w = prints (line.Down id cause ∷ []) (with_node id (Down disk.told no_plan) w)

-- the node is up with its new view; its frames are sent and its lines printed
abbrev pub after_step : NodeId → List Line → Stepped → List Call → Sim → World → Outcome
after_step id before made calls disk w = prints (before ++ made.lines) (sends made.frames (with_node id (Up made.view (settled calls disk)) w))

-- Where the work failed the node's frames aren't sent and its lines aren't printed.
abbrev pub worked : NodeId → Stepped → List Call → Sim → Bool → World → Outcome
worked id made calls disk true w = after_step id [] made calls disk w
worked id made calls disk false w = goes_down id disk (cause_of disk) w

abbrev pub worked_by : NodeId → Stepped → List Call → Ran → World → Outcome
worked_by id made calls now w = worked id made calls now.disk now.done w

abbrev pub works : NodeId → Stepped → List Op → Sim → World → Outcome
works id made ops disk w = worked_by id made (changes_in ops) (ran ops disk) w

-- where the record wouldn't fit, no call is made
abbrev pub unless_full : NodeId → View → Stepped → Sim → Bool → World → Outcome
unless_full id view made disk true w = goes_down id disk Full w
unless_full id view made disk false w = works id made (ops_of view made.work disk.told) disk w

abbrev pub stepped_as : NodeId → View → Sim → Stepped → World → Outcome
stepped_as id view disk made w = unless_full id view made disk (is_full view made.work) w

-- one event at a node that is up; one that is down does nothing
abbrev pub steps_as : Config → NodeId → Event → Option Host → World → Outcome
steps_as config id event None w = quiet w
steps_as config id event (Some (Down told plan)) w = quiet w
steps_as config id event (Some (Up view disk)) w = stepped_as id view disk (step config view event) w

abbrev pub steps : Config → Event → NodeId → World → Outcome
steps config event id w = steps_as config id event (node_at w id) w

-- ---- an opening

-- the line of the opening, then those of the node; what the opening did to the disk is settled
abbrev pub opened_as : Config → NodeId → List Call → Sim → Result Kept Cause → World → Outcome
opened_as config id calls disk (Err cause) w = goes_down id disk cause w
opened_as config id calls disk (Ok kept) w =
    after_step id (line.Up id kept.journal.state.epoch ∷ []) (opened config id kept.journal kept.checkpoints) calls disk w

abbrev pub opened_where : Config → NodeId → Result Kept Cause → Sim → Bool → World → Outcome
opened_where config id result disk true w = opened_as config id disk.told.calls disk result w
opened_where config id result disk false w = goes_down id disk (cause_of disk) w

abbrev pub opened_by : Config → NodeId → Result Kept Cause → Ran → World → Outcome
opened_by config id result now w = opened_where config id result now.disk now.done w

abbrev pub opens_by : Config → NodeId → Sim → Opening Kept → World → Outcome
opens_by config id disk found w = opened_by config id found.result (ran found.work disk) w

-- a node opens on a disk on which nothing is pending
abbrev pub opens : Config → NodeId → Sim → World → Outcome
opens config id disk w = opens_by config id disk (opening config id (reads disk.told)) w

-- ---- frames

abbrev pub client_step : ClientId → ClientEffects → World → Outcome
client_step id made w = prints made.lines (sends made.frames (with_client id made.client w))

abbrev pub client_gets : Config → ClientId → Body → Option ClientView → World → Outcome
client_gets config id body None w = quiet w
client_gets config id body (Some view) w = client_step id (client_takes config view body) w

-- a frame comes to its receiver; to a node that is down it is lost
abbrev pub delivers_to : Config → Party → Sent → World → Outcome
delivers_to config (Node id) sent w = steps config (Takes sent.frame) id w
delivers_to config (Client id) sent w = client_gets config id sent.frame.body (client_at w id) w

abbrev pub delivers : Config → Option Sent → World → Outcome
delivers config None w = quiet w
delivers config (Some sent) w = delivers_to config sent.to sent w

-- the frame at the cursor, which moves on; then the next one
abbrev pub moves_on : Config → (World → Outcome) → Option Sent → World → Outcome
moves_on config more None w = quiet w
moves_on config more (Some sent) w = and_then (delivers_to config sent.to sent (record w { cursor = w.cursor + 1 })) more

-- up to so many times; it ends at the last frame
abbrev pub flows : Config → ℕ → World → Outcome
flows config zero w = quiet w
flows config (suc count) w = moves_on config (λ next. flows config count next) (slice_get w.frames w.cursor) w

-- the cursor passes up to so many frames, never past the last
abbrev pub loses : ℕ → World → World
loses count w = record w { cursor = min (w.cursor + count) (length w.frames) }

-- who sent a frame, who is to have it, and its bytes
abbrev pub shown_of : Sent → ShownFrame
shown_of sent = record { from = sent.frame.from; to = sent.to; bytes = frame_bytes sent.frame }

abbrev pub lists : ℕ → World → Outcome
lists number w = prints (line.Frame number (option_map shown_of (slice_get w.frames number)) ∷ []) w

-- ---- clients

abbrev pub client_asks : Config → ClientId → Command → Option ClientView → World → Outcome
client_asks config id command None w = quiet w
client_asks config id command (Some view) w = client_step id (asks config view command) w

abbrev pub client_step_tick : Config → ClientId → Option ClientView → World → Outcome
client_step_tick config id None w = quiet w
client_step_tick config id (Some view) w = client_step id (client_ticks config view) w

abbrev pub ticks_client : Config → ClientId → World → Outcome
ticks_client config id w = client_step_tick config id (client_at w id) w

-- ---- ticks of all

abbrev pub id_of_node : NodeTable → NodeId
id_of_node node = node.id

abbrev pub id_of_client : ClientTable → ClientId
id_of_client client = client.id

-- the nodes by id, each with its lines before the next, and then the clients by id
abbrev pub ticks_all : Config → World → Outcome
ticks_all config w =
    and_then (for_each (steps config Ticks) (map id_of_node config.nodes) w)
    (λ next. for_each (ticks_client config) (map id_of_client config.clients) next)

-- ---- nodes that stop and come back

abbrev pub crashes : NodeId → Option Host → World → Outcome
crashes id None w = quiet w
crashes id (Some (Down told plan)) w = quiet w
crashes id (Some (Up view disk)) w = goes_down id disk Crash w

-- a node that is down opens on an image that its disk left
abbrev pub comes_back : Config → NodeId → (Told → Areas) → Option Host → World → Outcome
comes_back config id image None w = quiet w
comes_back config id image (Some (Up view disk)) w = quiet w
comes_back config id image (Some (Down told plan)) w = opens config id (restarted (image told) plan) w

-- faults of a disk that is down are for the restart
abbrev pub with_faults : (Plan → Plan) → Host → Host
with_faults sets (Up view disk) = Up view (with_plan (sets disk.trouble.plan) disk)
with_faults sets (Down told plan) = Down told (sets plan)

abbrev pub faults_at : (Plan → Plan) → NodeId → Option Host → World → World
faults_at sets id None w = w
faults_at sets id (Some host) w = with_node id (with_faults sets host) w

abbrev pub faults : (Plan → Plan) → NodeId → World → World
faults sets id w = faults_at sets id (node_at w id) w

abbrev pub state_of_host : Option Host → Option ShownState
state_of_host None = None
state_of_host (Some (Down told plan)) = None
state_of_host (Some (Up view disk)) = state_shown view

-- ---- an event

unfoldable pub happens : Config → ScheduleEvent → World → Outcome
happens config (event.Ask client command) w = client_asks config client command (client_at w client) w
happens config (event.Flow count) w = flows config count w
happens config (event.Lose count) w = quiet (loses count w)
happens config (event.Deliver frame) w = delivers config (slice_get w.frames frame) w
happens config (event.List frame) w = lists frame w
happens config event.TickAll w = ticks_all config w
happens config (event.TickNode node) w = steps config Ticks node w
happens config (event.TickClient client) w = ticks_client config client w
happens config (event.Lead node ring) w = steps config (Leads ring) node w
happens config (event.Crash node) w = crashes node (node_at w node) w
happens config (event.Restart node image) w = comes_back config node (left_by image) (node_at w node) w
happens config (event.Fuse node calls) w = quiet (faults (with_fuse calls) node w)
happens config (event.Fail node calls) w = quiet (faults (with_fail calls) node w)
happens config (event.FailRead node calls) w = quiet (faults (with_fail_read calls) node w)
happens config (event.Show node) w = prints (line.State node (state_of_host (node_at w node)) ∷ []) w

-- ---- the start

-- no node has opened yet, and no client has asked
abbrev pub nothing : Config → World
nothing config = record {
  nodes = [];
  clients = map (λ client. (id_of_client client, new_client (id_of_client client))) config.clients;
  frames = [];
  cursor = 0;
}

-- the disk of a node that never ran
abbrev pub empty_disk : Sim
empty_disk = fresh (record { journal0 = []; journal1 = []; check2 = []; check3 = [] })

abbrev pub opens_first : Config → NodeId → World → Outcome
opens_first config id w = opens config id empty_disk w

-- all nodes open on empty disks, by id
unfoldable pub started : Config → Outcome
started config = for_each (opens_first config) (map id_of_node config.nodes) (nothing config)
