-- The one spelling of each line, and which lines there may be.
use Rattle.std.specs.Prelude.{ℕ, ◌<◌, ◌≤◌, ◌^◌, List, [], ◌∷◌, ◌++◌, length, map, codes, Option, Some, None}
use Rattle.std.specs.List.{flat_map, AllByRecursion}
use Rattle.std.specs.Fmt.{decimal}
use Rattle.hex.specs.Hex.{encode_lower, IsBytes}
use Rattle.text_lines.specs.Text.{joined_by, line_text}
use Rattle.command_codec.specs.Parts.{IsSpelled}
use Rattle.mrp_types.specs.declared.id.Party.{Party}
use Rattle.mrp_types.specs.declared.id.Party.TheVariants.{Node, Client}
use Rattle.mrp_types.specs.declared.value.Value.{Value}
use Rattle.mrp_types.specs.declared.value.Value.TheVariants.{Skip, Batch}
use Rattle.transcript.specs.declared.line.Line.{Line}
use Rattle.transcript.specs.declared.line.Line.TheVariants.{Learn, Deliver, Reply, Answer, Busy, Begin, Chose, Restore, Saved, Trim, Refuse, BallotLimit, InstanceLimit, AttemptLimit, Down, Up, State, Frame, End}
use Rattle.transcript.specs.declared.line.Cause.{Cause}
use Rattle.transcript.specs.declared.line.Cause.TheVariants.{Crash, Disk, Full}
use Rattle.transcript.specs.declared.line.ShownState.{ShownState}
use Rattle.transcript.specs.declared.line.ShownFrame.{ShownFrame}

-- `skip`, or the batch in hexadecimal
abbrev pub value_text : Value → List ℕ
value_text Skip = codes "skip"
value_text (Batch batch) = encode_lower batch

-- the instances with commas between
abbrev pub tuple_text : List ℕ → List ℕ
tuple_text tuple = joined_by 44 (map decimal tuple)

-- a node's number behind an `n`, a client's behind a `c`
abbrev pub party_text : Party → List ℕ
party_text (Node node) = codes "n" ++ decimal node.0
party_text (Client client) = codes "c" ++ decimal client.0

abbrev pub cause_text : Cause → List ℕ
cause_text Crash = codes "crash"
cause_text Disk = codes "disk"
cause_text Full = codes "full"

-- `-`, or the tuple and the bytes in hexadecimal
abbrev pub state_words : Option ShownState → List (List ℕ)
state_words None = codes "-" ∷ []
state_words (Some shown) = tuple_text shown.tuple ∷ encode_lower shown.bytes ∷ []

-- `none`, or the sender, the receiver and the bytes in hexadecimal
abbrev pub frame_words : Option ShownFrame → List (List ℕ)
frame_words None = codes "none" ∷ []
frame_words (Some shown) = party_text shown.from ∷ party_text shown.to ∷ encode_lower shown.bytes ∷ []

-- the words of a line in order
abbrev pub line_words : Line → List (List ℕ)
line_words (Learn node ring lo hi value) = codes "learn" ∷ decimal node.0 ∷ decimal ring.0 ∷ decimal lo ∷ decimal hi ∷ value_text value ∷ []
line_words (Deliver node ring inst) = codes "deliver" ∷ decimal node.0 ∷ decimal ring.0 ∷ decimal inst ∷ []
line_words (Reply node ring inst index client seq reply) =
    codes "reply" ∷ decimal node.0 ∷ decimal ring.0 ∷ decimal inst ∷ decimal index ∷ decimal client.0 ∷ decimal seq ∷ encode_lower reply ∷ []
line_words (Answer client seq reply) = codes "answer" ∷ decimal client.0 ∷ decimal seq ∷ encode_lower reply ∷ []
line_words (Busy client seq) = codes "busy" ∷ decimal client.0 ∷ decimal seq ∷ []
line_words (Begin node epoch attempt tuple) = codes "begin" ∷ decimal node.0 ∷ decimal epoch ∷ decimal attempt ∷ tuple_text tuple ∷ []
line_words (Chose node epoch attempt tuple from) = codes "chose" ∷ decimal node.0 ∷ decimal epoch ∷ decimal attempt ∷ tuple_text tuple ∷ decimal from.0 ∷ []
line_words (Restore node tuple) = codes "restore" ∷ decimal node.0 ∷ tuple_text tuple ∷ []
line_words (Saved node tuple) = codes "saved" ∷ decimal node.0 ∷ tuple_text tuple ∷ []
line_words (Trim node ring inst) = codes "trim" ∷ decimal node.0 ∷ decimal ring.0 ∷ decimal inst ∷ []
line_words (Refuse node epoch attempt answered needed) = codes "refuse" ∷ decimal node.0 ∷ decimal epoch ∷ decimal attempt ∷ decimal answered ∷ decimal needed ∷ []
line_words (BallotLimit node ring) = codes "limit" ∷ decimal node.0 ∷ codes "ballot" ∷ decimal ring.0 ∷ []
line_words (InstanceLimit node ring) = codes "limit" ∷ decimal node.0 ∷ codes "instance" ∷ decimal ring.0 ∷ []
line_words (AttemptLimit node) = codes "limit" ∷ decimal node.0 ∷ codes "attempt" ∷ []
line_words (Down node cause) = codes "down" ∷ decimal node.0 ∷ cause_text cause ∷ []
line_words (Up node epoch) = codes "up" ∷ decimal node.0 ∷ decimal epoch ∷ []
line_words (State node shown) = codes "state" ∷ decimal node.0 ∷ state_words shown
line_words (Frame number shown) = codes "frame" ∷ decimal number ∷ frame_words shown
line_words (End events) = codes "end" ∷ decimal events ∷ []

-- a line as text
abbrev pub line_bytes : Line → List ℕ
line_bytes line = line_text (line_words line)

-- all lines, one after another
abbrev pub lines_text : List Line → List ℕ
lines_text lines = flat_map line_bytes lines

-- ---- lines that may be

-- the number of a node, a ring or a client
abbrev pub IsId : ℕ → Type 0
IsId n = n < 256

-- any other number
abbrev pub IsCount : ℕ → Type 0
IsCount n = n < 2 ^ 64

-- Skip, or the bytes of a batch, at most 8,192 of them
abbrev pub IsValue : Value → Type 0
IsValue Skip = Unit {0}
IsValue (Batch batch) = IsBytes batch × IsSpelled (Batch batch)

-- one byte or more
abbrev pub AreBytes : List ℕ → Type 0
AreBytes bytes = IsBytes bytes × (1 ≤ length bytes)

-- 1 to 16 instances
abbrev pub AreInstances : List ℕ → Type 0
AreInstances tuple = AllByRecursion IsCount tuple × ((1 ≤ length tuple) × (length tuple ≤ 16))

-- a node or a client by its number
abbrev pub IsParty : Party → Type 0
IsParty (Node node) = IsId node.0
IsParty (Client client) = IsId client.0

abbrev pub IsShownState : Option ShownState → Type 0
IsShownState None = Unit {0}
IsShownState (Some shown) = AreInstances shown.tuple × AreBytes shown.bytes

abbrev pub IsShownFrame : Option ShownFrame → Type 0
IsShownFrame None = Unit {0}
IsShownFrame (Some shown) = IsParty shown.from × (IsParty shown.to × AreBytes shown.bytes)

-- a line whose numbers, tuples, parties, bytes and values may be; nothing is asked of how they are to one another
abbrev pub IsLine : Line → Type 0
IsLine (Learn node ring lo hi value) = IsId node.0 × (IsId ring.0 × (IsCount lo × (IsCount hi × IsValue value)))
IsLine (Deliver node ring inst) = IsId node.0 × (IsId ring.0 × IsCount inst)
IsLine (Reply node ring inst index client seq reply) = IsId node.0 × (IsId ring.0 × (IsCount inst × (IsCount index × (IsId client.0 × (IsCount seq × AreBytes reply)))))
IsLine (Answer client seq reply) = IsId client.0 × (IsCount seq × AreBytes reply)
IsLine (Busy client seq) = IsId client.0 × IsCount seq
IsLine (Begin node epoch attempt tuple) = IsId node.0 × (IsCount epoch × (IsCount attempt × AreInstances tuple))
IsLine (Chose node epoch attempt tuple from) = IsId node.0 × (IsCount epoch × (IsCount attempt × (AreInstances tuple × IsId from.0)))
IsLine (Restore node tuple) = IsId node.0 × AreInstances tuple
IsLine (Saved node tuple) = IsId node.0 × AreInstances tuple
IsLine (Trim node ring inst) = IsId node.0 × (IsId ring.0 × IsCount inst)
IsLine (Refuse node epoch attempt answered needed) = IsId node.0 × (IsCount epoch × (IsCount attempt × (IsCount answered × IsCount needed)))
IsLine (BallotLimit node ring) = IsId node.0 × IsId ring.0
IsLine (InstanceLimit node ring) = IsId node.0 × IsId ring.0
IsLine (AttemptLimit node) = IsId node.0 × Unit {0}
IsLine (Down node cause) = IsId node.0 × Unit {0}
IsLine (Up node epoch) = IsId node.0 × IsCount epoch
IsLine (State node shown) = IsId node.0 × IsShownState shown
IsLine (Frame number shown) = IsCount number × IsShownFrame shown
IsLine (End events) = IsCount events
