-- Reading a schedule line by line, and each line word by word from the left: the events, or the first line at fault
-- with its first fault.
use Rattle.std.specs.Prelude.{ℕ, ◌≡◌, ◌⊎◌, ◌++◌, ◌+◌, nat_lt, Bool, if◌then◌else◌, List, [], ◌∷◌, length, codes, Result, Ok, Err}
use Rattle.std.specs.List.{AllByRecursion}
use Rattle.text_lines.specs.declared.fault.TextFault.{TextFault}
use Rattle.text_lines.specs.declared.fault.TextFault.TheVariants.{Word, Range, Left}
use Rattle.text_lines.specs.Split.{Line, all_ended, line_bytes, words_of, lines_of}
use Rattle.mrp_types.specs.Reading.{◌>>=◌, both, shown, nothing}
use Rattle.text_lines.specs.Reading.{number_of}
use Rattle.text_lines.specs.Words.{Reader, one, tested, by_key, all_of}
use Rattle.mrp_types.specs.declared.id.LogId.{LogId}
use Rattle.command_codec.specs.declared.command.Command.{Command}
use Rattle.command_codec.specs.declared.command.Command.TheVariants.{Append, Multi, ReadLog, TrimLog, Get, Scan, Update, Insert, Delete, Swap}
use Rattle.disk_model.specs.declared.area.Image.{Image}
use Rattle.disk_model.specs.declared.area.Image.TheVariants.{Old, New, Fill}
use Rattle.mrp_config.specs.Config.{Config}
use Rattle.mrp_config.specs.Routing.{is_below}
use Rattle.schedule.specs.declared.event.ScheduleEvent.{ScheduleEvent}
use Rattle.schedule.specs.declared.event.ScheduleEvent.TheVariants.{Ask, Flow, Lose, Deliver, List as Shown, TickAll, TickNode, TickClient, Lead, Crash, Restart, Fuse, Fail, FailRead, Show}
use Rattle.schedule.specs.declared.fault.FaultKind.{FaultKind}
use Rattle.schedule.specs.declared.fault.FaultKind.TheVariants.{Route, Cut, TooMany, Memory}
use Rattle.schedule.specs.declared.fault.ScheduleFault.{ScheduleFault}
use Rattle.schedule.specs.Faults.{kind_of}
use Rattle.schedule.specs.Fields.{number_in, known, is_client, is_node, can_lead, bytes_in, byte_of, logs_of}
use Rattle.schedule.specs.Spelling.{event_lines, schedule_text, is_routed, IsEvent}

-- ---- the words of a line

abbrev pub WordReader : Type 0 → Type 0
WordReader V = Reader TextFault V

abbrev pub within : ℕ → ℕ → WordReader ℕ
within least most = one Word (number_in least most)

-- any number below 2 ^ 64
abbrev pub any_number : WordReader ℕ
any_number = one Word number_of

-- the number of a client, or of a node, that the deployment has
abbrev pub client_word : Config → WordReader ℕ
client_word config = one Word (known (is_client config))

abbrev pub node_word : Config → WordReader ℕ
node_word config = one Word (known (is_node config))

abbrev pub log_word : WordReader ℕ
log_word = within 0 63

abbrev pub logs_word : WordReader (List LogId)
logs_word = one Word logs_of

abbrev pub bytes_word : ℕ → ℕ → WordReader (List ℕ)
bytes_word least most = one Word (bytes_in least most)

abbrev pub byte_word : WordReader ℕ
byte_word = one Word byte_of

-- ---- commands by their first word

unfoldable pub append_at : WordReader Command
append_at = shown (λ x. Append (record { 0 = x.0 }) x.1) (both log_word (bytes_word 0 2048))

unfoldable pub multi_at : WordReader Command
multi_at = shown (λ x. Multi x.0 x.1) (both logs_word (bytes_word 0 2048))

unfoldable pub read_at : WordReader Command
read_at = shown (λ x. ReadLog (record { 0 = x.0 }) x.1) (both log_word any_number)

unfoldable pub trimlog_at : WordReader Command
trimlog_at = shown (λ x. TrimLog (record { 0 = x.0 }) x.1) (both log_word any_number)

unfoldable pub get_at : WordReader Command
get_at = shown Get (bytes_word 1 256)

-- whether the ends are in order
abbrev pub are_ends : List ℕ × List ℕ → Bool
are_ends x = is_below x.0 x.1

unfoldable pub scan_at : WordReader Command
scan_at = shown (λ x. Scan x.0 x.1) (tested Range are_ends (both (bytes_word 0 256) (bytes_word 0 256)))

unfoldable pub update_at : WordReader Command
update_at = shown (λ x. Update x.0 x.1) (both (bytes_word 1 256) (bytes_word 0 2048))

unfoldable pub insert_at : WordReader Command
insert_at = shown (λ x. Insert x.0 x.1) (both (bytes_word 1 256) (bytes_word 0 2048))

unfoldable pub delete_at : WordReader Command
delete_at = shown Delete (bytes_word 1 256)

unfoldable pub swap_at : WordReader Command
swap_at = shown (λ x. Swap x.0 x.1.0 x.1.1) (both (bytes_word 1 256) (both (bytes_word 0 2048) (bytes_word 0 2048)))

unfoldable pub commands_on_keys : List (List ℕ × WordReader Command)
commands_on_keys =
    (codes "get", get_at) ∷ (codes "scan", scan_at) ∷ (codes "update", update_at) ∷ (codes "insert", insert_at) ∷ (codes "delete", delete_at) ∷ (codes "swap", swap_at)
    ∷ []

abbrev pub commands : List (List ℕ × WordReader Command)
commands = (codes "append", append_at) ∷ (codes "multi", multi_at) ∷ (codes "read", read_at) ∷ (codes "trimlog", trimlog_at) ∷ commands_on_keys

unfoldable pub command_at : WordReader Command
command_at = by_key Word commands

-- ---- events by their first word

unfoldable pub ask_at : Config → WordReader ScheduleEvent
ask_at config = shown (λ x. Ask (record { 0 = x.0 }) x.1) (both (client_word config) command_at)

unfoldable pub flow_at : WordReader ScheduleEvent
flow_at = shown Flow (within 1 100000)

unfoldable pub lose_at : WordReader ScheduleEvent
lose_at = shown Lose (within 1 100000)

unfoldable pub deliver_at : WordReader ScheduleEvent
deliver_at = shown Deliver any_number

unfoldable pub list_at : WordReader ScheduleEvent
list_at = shown Shown any_number

abbrev pub ticks : Config → List (List ℕ × WordReader ScheduleEvent)
ticks config =
    (codes "all", nothing TickAll)
    ∷ (codes "node", shown (λ n. TickNode (record { 0 = n })) (node_word config))
    ∷ (codes "client", shown (λ n. TickClient (record { 0 = n })) (client_word config))
    ∷ []

unfoldable pub tick_at : Config → WordReader ScheduleEvent
tick_at config = by_key Word (ticks config)

unfoldable pub lead_at : Config → WordReader ScheduleEvent
lead_at config = shown (λ x. Lead (record { 0 = x.0 }) (record { 0 = x.1 })) (tested Range (can_lead config) (both (node_word config) (within 0 255)))

unfoldable pub crash_at : Config → WordReader ScheduleEvent
crash_at config = shown (λ n. Crash (record { 0 = n })) (node_word config)

abbrev pub images : List (List ℕ × WordReader Image)
images =
    (codes "old", nothing Old)
    ∷ (codes "new", nothing New)
    ∷ (codes "fill", shown (λ x. Fill x.0 x.1) (both (within 0 1000000) byte_word))
    ∷ []

unfoldable pub image_at : WordReader Image
image_at = by_key Word images

unfoldable pub restart_at : Config → WordReader ScheduleEvent
restart_at config = shown (λ x. Restart (record { 0 = x.0 }) x.1) (both (node_word config) image_at)

-- a node, and after how many calls
unfoldable pub calls_at : Config → WordReader (ℕ × ℕ)
calls_at config = both (node_word config) (within 0 1000)

unfoldable pub fuse_at : Config → WordReader ScheduleEvent
fuse_at config = shown (λ x. Fuse (record { 0 = x.0 }) x.1) (calls_at config)

unfoldable pub fail_at : Config → WordReader ScheduleEvent
fail_at config = shown (λ x. Fail (record { 0 = x.0 }) x.1) (calls_at config)

unfoldable pub failread_at : Config → WordReader ScheduleEvent
failread_at config = shown (λ x. FailRead (record { 0 = x.0 }) x.1) (calls_at config)

unfoldable pub show_at : Config → WordReader ScheduleEvent
show_at config = shown (λ n. Show (record { 0 = n })) (node_word config)

unfoldable pub events_of_disks : Config → List (List ℕ × WordReader ScheduleEvent)
events_of_disks config =
    (codes "fuse", fuse_at config) ∷ (codes "fail", fail_at config) ∷ (codes "failread", failread_at config) ∷ (codes "show", show_at config) ∷ []

unfoldable pub events_of_nodes : Config → List (List ℕ × WordReader ScheduleEvent)
events_of_nodes config =
    (codes "tick", tick_at config) ∷ (codes "lead", lead_at config) ∷ (codes "crash", crash_at config) ∷ (codes "restart", restart_at config) ∷ events_of_disks config

abbrev pub kinds : Config → List (List ℕ × WordReader ScheduleEvent)
kinds config =
    (codes "ask", ask_at config)
    ∷ (codes "flow", flow_at)
    ∷ (codes "lose", lose_at)
    ∷ (codes "deliver", deliver_at)
    ∷ (codes "list", list_at)
    ∷ events_of_nodes config

unfoldable pub event_at : Config → WordReader ScheduleEvent
event_at config = by_key Word (kinds config)

-- the event of these words, all of the words
abbrev pub event_in : Config → List (List ℕ) → Result ScheduleEvent TextFault
event_in config words = all_of Left (event_at config words)

-- ---- lines

-- a fault of words as the fault of a line
abbrev pub kinded : {X : Type 0} → Result X TextFault → Result X FaultKind
kinded (Ok x) = Ok x
kinded (Err fault) = Err (kind_of fault)

-- a line of its parts
abbrev pub line_with : List ℕ → Bool → Line
line_with text ended = record { text = text; ended = ended }

-- the event of a line: its words come first, then its line feed, last its route
unfoldable pub line_of : Config → Line → Result ScheduleEvent FaultKind
line_of config line = do
  event ← kinded (event_in config (words_of line.text))
  if line.ended then (if is_routed config event then Ok event else Err Route) else Err Cut

-- the same where the part of the text that ends with the line has so many bytes
abbrev pub bounded : Config → ℕ → Line → Result ScheduleEvent FaultKind
bounded config end line = if nat_lt 67108864 end then Err TooMany else line_of config line

-- the same of the line of this number, counted from 1
abbrev pub limited : Config → ℕ → ℕ → Line → Result ScheduleEvent FaultKind
limited config number end line = if nat_lt 1048576 number then Err TooMany else bounded config end line

-- a fault with the number of its line
abbrev pub at_line : {X : Type 0} → ℕ → Result X FaultKind → Result X ScheduleFault
at_line number (Ok x) = Ok x
at_line number (Err kind) = Err (record { line = number; kind = kind })

-- the event of each line, from the line of this number on, which begins behind so many bytes
abbrev pub events_from : Config → ℕ → ℕ → List Line → Result (List ScheduleEvent) ScheduleFault
events_from config number begin [] = Ok []
events_from config number begin (line ∷ lines) = do
  event ← at_line number (limited config number (begin + length (line_bytes line)) line)
  events ← events_from config (number + 1) (begin + length (line_bytes line)) lines
  Ok (event ∷ events)

-- the schedule that the bytes spell
abbrev pub schedule_of : Config → List ℕ → Result (List ScheduleEvent) ScheduleFault
schedule_of config bytes = events_from config 1 0 (lines_of bytes)

-- The first line at fault: the lines before it are those of events that may be, and it is at fault.
pub record IsFirstFault (config : Config) (bytes : List ℕ) (fault : ScheduleFault) : Type 0 where
  pub front : List ScheduleEvent
  pub line : Line
  pub after : List Line
  pub whole : lines_of bytes ≡ all_ended (event_lines front) ++ line ∷ after
  pub each : AllByRecursion (IsEvent config) front
  pub counted : fault.line ≡ length front + 1
  pub kind : limited config fault.line (length (schedule_text front) + length (line_bytes line)) line ≡ Err fault.kind

-- the same of what a call answers, unless memory ran out
abbrev pub NamesFirst : Config → List ℕ → ScheduleFault → Type 0
NamesFirst config bytes fault = (fault.kind ≡ Memory) ⊎ IsFirstFault config bytes fault
