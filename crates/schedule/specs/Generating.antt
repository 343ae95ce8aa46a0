-- Schedules made from a number: the events are those that a list of drawn words says.
use Rattle.std.specs.Prelude.{ℕ, ◌+◌, ◌-◌, ◌*◌, ◌/◌, ◌%◌, ◌^◌, ◌==◌, nat_lt, Bool, if◌then◌else◌, List, [], ◌∷◌, ◌++◌, length, map, take, slice_get, Option, Some, None}
use Rattle.std.specs.List.{filter, range_with_len}
use Rattle.rand_core.specs.Pcg32Seed.{pcg32_seed}
use Rattle.rand_core.specs.Steps.{first_words}
use Rattle.rand_pcg.specs.Pcg.{pcg32, pcg32_of_seed}
use Rattle.mrp_types.specs.declared.id.ClientId.{ClientId}
use Rattle.mrp_types.specs.declared.id.NodeId.{NodeId}
use Rattle.mrp_types.specs.declared.id.LogId.{LogId}
use Rattle.command_codec.specs.Fields.{u16_bytes, u32_bytes}
use Rattle.command_codec.specs.declared.command.Command.TheVariants.{Append, Insert}
use Rattle.disk_model.specs.declared.area.Image.{Image}
use Rattle.disk_model.specs.declared.area.Image.TheVariants.{Old, New, Fill}
use Rattle.mrp_config.specs.Config.{Config}
use Rattle.schedule.specs.declared.event.ScheduleEvent.{ScheduleEvent}
use Rattle.schedule.specs.declared.names.Names.{Names}
use Rattle.schedule.specs.declared.event.ScheduleEvent.TheVariants.{Ask, Flow, Lose, Deliver, TickAll, Crash, Restart, Fuse}
use Rattle.schedule.specs.Fields.{is_client, is_node, is_held}

-- ---- whom events name

-- those below `end` that pass the test, in order of id
unfoldable pub named_below : {A : Type 0} → (ℕ → A) → (ℕ → Bool) → ℕ → List A
named_below name test end = map name (filter test (range_with_len 0 end))

abbrev pub client_named : ℕ → ClientId
client_named n = record { 0 = n }

abbrev pub node_named : ℕ → NodeId
node_named n = record { 0 = n }

abbrev pub log_named : ℕ → LogId
log_named n = record { 0 = n }

-- the clients, the nodes and the logs of a deployment, each by id
abbrev pub names_of : Config → Names
names_of config = record {
  clients = named_below client_named (is_client config) 256;
  nodes = named_below node_named (is_node config) 256;
  logs = named_below log_named (is_held config.partitions) 64;
}

-- the x-th, counted from 0 and round and round
abbrev pub xth : {A : Type 0} → List A → ℕ → Option A
xth items x = slice_get items (x % length items)

-- ---- what two words say

-- the event of one that is there; `tick all` where none is
abbrev pub event_of : {A : Type 0} → (A → ScheduleEvent) → Option A → ScheduleEvent
event_of event None = TickAll
event_of event (Some x) = event x

-- what a client asks: the value is the word, and the word says to which log, or under which key
unfoldable pub asked_by : Names → ℕ → ClientId → ScheduleEvent
asked_by names a client =
    if (a / 65536) % 2 == 0
    then event_of (λ log. Ask client (Append log (u32_bytes a))) (xth names.logs (a / 256))
    else Ask client (Insert (u16_bytes (a % 65536)) (u32_bytes a))

-- how a node stops: at once, or once its disk fails
abbrev pub stop_of : ℕ → NodeId → ScheduleEvent
stop_of a node = if nat_lt a (2 ^ 31) then Crash node else Fuse node ((a / 256) % 5)

-- the image on which a node opens
abbrev pub image_of : ℕ → Image
image_of a = if (a / 256) % 3 == 0 then Old else (if (a / 256) % 3 == 1 then New else Fill ((a / 1024) % 32) 127)

-- the event of a kind from 0 to 15, with a word that says the rest
unfoldable pub event_by : Names → ℕ → ℕ → ScheduleEvent
event_by names kind a =
    if nat_lt kind 6 then Flow (1 + a % 64)
    else (if nat_lt kind 9 then TickAll
    else (if nat_lt kind 12 then event_of (asked_by names a) (xth names.clients a)
    else (if kind == 12 then Lose (1 + a % 4)
    else (if kind == 13 then Deliver (a % 4096)
    else (if kind == 14 then event_of (stop_of a) (xth names.nodes a)
    else event_of (λ node. Restart node (image_of a)) (xth names.nodes a))))))

-- the events that words say, two words each; a last one alone says nothing
unfoldable pub events_by : Names → List ℕ → List ScheduleEvent
events_by names [] = []
events_by names (kind ∷ []) = []
events_by names (kind ∷ a ∷ words) = event_by names (kind % 16) a ∷ events_by names words

-- ---- the whole

-- how each schedule begins
abbrev pub opening : List ScheduleEvent
opening = Flow 1000 ∷ TickAll ∷ Flow 1000 ∷ []

-- the first words that are drawn of a seed
unfoldable pub drawn_words : ℕ → ℕ → List ℕ
drawn_words seed count = first_words pcg32 count (pcg32_of_seed (pcg32_seed 16 seed))

-- the schedule of a seed with so many events: an opening, and two words for each later event
unfoldable pub generated : Config → ℕ → ℕ → List ScheduleEvent
generated config seed events = take events opening ++ events_by (names_of config) (drawn_words seed (2 * (events - 3)))
