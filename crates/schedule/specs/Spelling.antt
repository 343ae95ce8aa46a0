-- The one spelling of each event, and which lists of events are a schedule over a deployment.
use Rattle.std.specs.Prelude.{ℕ, ◌≡◌, ◌≤◌, ◌<◌, ◌^◌, ◌&&◌, Bool, true, false, if◌then◌else◌, List, [], ◌∷◌, length, map, codes, is_ok, IsTrue}
use Rattle.std.specs.List.{flat_map, AllByRecursion}
use Rattle.std.specs.Fmt.{decimal}
use Rattle.hex.specs.Hex.{IsBytes, encode_lower}
use Rattle.text_lines.specs.Text.{joined, joined_by, line_text, hex_text}
use Rattle.mrp_types.specs.declared.id.LogId.{LogId}
use Rattle.command_codec.specs.Valid.{rises_from}
use Rattle.command_codec.specs.declared.command.Command.{Command}
use Rattle.command_codec.specs.declared.command.Command.TheVariants.{Append, Multi, ReadLog, TrimLog, Get, Scan, Update, Insert, Delete, Swap}
use Rattle.disk_model.specs.declared.area.Image.{Image}
use Rattle.disk_model.specs.declared.area.Image.TheVariants.{Old, New, Fill}
use Rattle.mrp_config.specs.declared.tables.PartitionTable.{PartitionTable}
use Rattle.mrp_config.specs.Config.{Config}
use Rattle.mrp_config.specs.Routing.{route_of, concerned_of, is_below}
use Rattle.schedule.specs.declared.event.ScheduleEvent.{ScheduleEvent}
use Rattle.schedule.specs.declared.event.ScheduleEvent.TheVariants.{Ask, Flow, Lose, Deliver, List as Shown, TickAll, TickNode, TickClient, Lead, Crash, Restart, Fuse, Fail, FailRead, Show}
use Rattle.schedule.specs.Fields.{is_client, is_node, can_lead, is_held}

-- ---- words

-- the logs with commas between
abbrev pub logs_text : List LogId → List ℕ
logs_text logs = joined_by 44 (map (λ (log : LogId). decimal log.0) logs)

-- the words of a command in order
abbrev pub command_words : Command → List (List ℕ)
command_words (Append log value) = codes "append" ∷ decimal log.0 ∷ hex_text value ∷ []
command_words (Multi logs value) = codes "multi" ∷ logs_text logs ∷ hex_text value ∷ []
command_words (ReadLog log position) = codes "read" ∷ decimal log.0 ∷ decimal position ∷ []
command_words (TrimLog log position) = codes "trimlog" ∷ decimal log.0 ∷ decimal position ∷ []
command_words (Get key) = codes "get" ∷ hex_text key ∷ []
command_words (Scan from to) = codes "scan" ∷ hex_text from ∷ hex_text to ∷ []
command_words (Update key value) = codes "update" ∷ hex_text key ∷ hex_text value ∷ []
command_words (Insert key value) = codes "insert" ∷ hex_text key ∷ hex_text value ∷ []
command_words (Delete key) = codes "delete" ∷ hex_text key ∷ []
command_words (Swap key old new) = codes "swap" ∷ hex_text key ∷ hex_text old ∷ hex_text new ∷ []

-- the words of an image
abbrev pub image_words : Image → List (List ℕ)
image_words Old = codes "old" ∷ []
image_words New = codes "new" ∷ []
image_words (Fill keep byte) = codes "fill" ∷ decimal keep ∷ encode_lower (byte ∷ []) ∷ []

-- the words of an event in order
abbrev pub event_words : ScheduleEvent → List (List ℕ)
event_words (Ask client command) = codes "ask" ∷ decimal client.0 ∷ command_words command
event_words (Flow count) = codes "flow" ∷ decimal count ∷ []
event_words (Lose count) = codes "lose" ∷ decimal count ∷ []
event_words (Deliver frame) = codes "deliver" ∷ decimal frame ∷ []
event_words (Shown frame) = codes "list" ∷ decimal frame ∷ []
event_words TickAll = codes "tick" ∷ codes "all" ∷ []
event_words (TickNode node) = codes "tick" ∷ codes "node" ∷ decimal node.0 ∷ []
event_words (TickClient client) = codes "tick" ∷ codes "client" ∷ decimal client.0 ∷ []
event_words (Lead node ring) = codes "lead" ∷ decimal node.0 ∷ decimal ring.0 ∷ []
event_words (Crash node) = codes "crash" ∷ decimal node.0 ∷ []
event_words (Restart node image) = codes "restart" ∷ decimal node.0 ∷ image_words image
event_words (Fuse node calls) = codes "fuse" ∷ decimal node.0 ∷ decimal calls ∷ []
event_words (Fail node calls) = codes "fail" ∷ decimal node.0 ∷ decimal calls ∷ []
event_words (FailRead node calls) = codes "failread" ∷ decimal node.0 ∷ decimal calls ∷ []
event_words (Show node) = codes "show" ∷ decimal node.0 ∷ []

-- the line of each event without its line feed
abbrev pub event_line : ScheduleEvent → List ℕ
event_line event = joined (event_words event)

abbrev pub event_lines : List ScheduleEvent → List (List ℕ)
event_lines [] = []
event_lines (event ∷ events) = event_line event ∷ event_lines events

-- an event's line
abbrev pub event_text : ScheduleEvent → List ℕ
event_text event = line_text (event_words event)

-- a line for each event
abbrev pub schedule_text : List ScheduleEvent → List ℕ
schedule_text events = flat_map event_text events

-- ---- what may be

-- a number of this range, both ends included
abbrev pub IsWithin : ℕ → ℕ → ℕ → Type 0
IsWithin least most n = (least ≤ n) × (n ≤ most)

-- the number of something that passes a test
abbrev pub IsKnown : (ℕ → Bool) → ℕ → Type 0
IsKnown test n = IsWithin 0 255 n × IsTrue (test n)

-- a client, or a node, of the deployment
abbrev pub IsClient : Config → ℕ → Type 0
IsClient config n = IsKnown (is_client config) n

abbrev pub IsNode : Config → ℕ → Type 0
IsNode config n = IsKnown (is_node config) n

-- bytes whose number is of this range
abbrev pub AreBytes : ℕ → ℕ → List ℕ → Type 0
AreBytes least most bytes = IsBytes bytes × IsWithin least most (length bytes)

-- one or more logs below 64, in increasing order
abbrev pub AreLogs : List LogId → Type 0
AreLogs logs = (1 ≤ length logs) × IsTrue (rises_from 0 logs)

-- logs below 64, positions below 2 ^ 64, keys of 1 to 256 bytes, values of at most 2,048, ends of at most 256 in order
abbrev pub IsAsked : Command → Type 0
IsAsked (Append log value) = IsWithin 0 63 log.0 × AreBytes 0 2048 value
IsAsked (Multi logs value) = AreLogs logs × AreBytes 0 2048 value
IsAsked (ReadLog log position) = IsWithin 0 63 log.0 × (position < 2 ^ 64)
IsAsked (TrimLog log position) = IsWithin 0 63 log.0 × (position < 2 ^ 64)
IsAsked (Get key) = AreBytes 1 256 key
IsAsked (Scan from to) = (AreBytes 0 256 from × AreBytes 0 256 to) × IsTrue (is_below from to)
IsAsked (Update key value) = AreBytes 1 256 key × AreBytes 0 2048 value
IsAsked (Insert key value) = AreBytes 1 256 key × AreBytes 0 2048 value
IsAsked (Delete key) = AreBytes 1 256 key
IsAsked (Swap key old new) = AreBytes 1 256 key × (AreBytes 0 2048 old × AreBytes 0 2048 new)

-- up to 1,000,000 bytes are kept, and others are this byte
abbrev pub IsImage : Image → Type 0
IsImage (Fill keep byte) = IsWithin 0 1000000 keep × (byte < 256)
IsImage other = Unit {0}

-- an event whose words may be; nothing is said of whether a ring orders its command
abbrev pub IsWorded : Config → ScheduleEvent → Type 0
IsWorded config (Ask client command) = IsClient config client.0 × IsAsked command
IsWorded config (Flow count) = IsWithin 1 100000 count
IsWorded config (Lose count) = IsWithin 1 100000 count
IsWorded config (Deliver frame) = frame < 2 ^ 64
IsWorded config (Shown frame) = frame < 2 ^ 64
IsWorded config TickAll = Unit {0}
IsWorded config (TickNode node) = IsNode config node.0
IsWorded config (TickClient client) = IsClient config client.0
IsWorded config (Lead node ring) = (IsNode config node.0 × IsWithin 0 255 ring.0) × IsTrue (can_lead config (node.0, ring.0))
IsWorded config (Crash node) = IsNode config node.0
IsWorded config (Restart node image) = IsNode config node.0 × IsImage image
IsWorded config (Fuse node calls) = IsNode config node.0 × IsWithin 0 1000 calls
IsWorded config (Fail node calls) = IsNode config node.0 × IsWithin 0 1000 calls
IsWorded config (FailRead node calls) = IsNode config node.0 × IsWithin 0 1000 calls
IsWorded config (Show node) = IsNode config node.0

-- whether each of the logs is one that some partition has
abbrev pub are_held : List PartitionTable → List LogId → Bool
are_held partitions [] = true
are_held partitions (log ∷ logs) = if is_held partitions log.0 then are_held partitions logs else false

-- The same of the logs of a `multi`. A command on one log that no partition has concerns none, so that no ring orders it.
abbrev pub has_logs : Config → Command → Bool
has_logs config (Multi logs value) = are_held config.partitions logs
has_logs config other = true

-- whether a ring orders the command, and some partition has each of its logs
abbrev pub has_route : Config → Command → Bool
has_route config command = has_logs config command && is_ok (route_of (concerned_of command config.partitions))

-- whether the command of the event has a route, if it has one
abbrev pub is_routed : Config → ScheduleEvent → Bool
is_routed config (Ask client command) = has_route config command
is_routed config other = true

-- what an event may be
abbrev pub IsEvent : Config → ScheduleEvent → Type 0
IsEvent config event = IsWorded config event × IsTrue (is_routed config event)

-- the bytes spell these events, within the limits on events and bytes
pub record IsSchedule (config : Config) (bytes : List ℕ) (events : List ScheduleEvent) : Type 0 where
  pub spelled : bytes ≡ schedule_text events
  pub each : AllByRecursion (IsEvent config) events
  pub few : length events ≤ 1048576
  pub short : length bytes ≤ 67108864

-- the bytes are the line of the command, which a ring orders, within the limit on bytes
pub record IsAskText (config : Config) (bytes : List ℕ) (command : Command) : Type 0 where
  pub spelled : bytes ≡ line_text (command_words command)
  pub is : IsAsked command
  pub routed : IsTrue (has_route config command)
  pub short : length bytes ≤ 67108864
