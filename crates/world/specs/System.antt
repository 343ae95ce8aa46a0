-- The system of one ring: what happens at each event, and the lines of a whole schedule.
use Rattle.std.specs.Prelude.{ℕ, ◌+◌, ◌-◌, ◌^◌, zero, suc, min, ◌==◌, nat_lt, nat_le, ◌||◌, count_ones, if◌then◌else◌, List, [], ◌∷◌, ◌++◌, length, replicate, Option, Some, None, is_some, slice_get, slice_set}
use Rattle.std.specs.Ordering.{nat_cmp, ordering_then}
use Rattle.std.specs.Option.{option_map}
use Rattle.std.specs.BTreeMap.{is_at, insert_entry}
use Rattle.std.specs.Map.{lookup}
use Rattle.std.specs.declared.cmp.Ordering.{Ordering}
use Rattle.mrp_types.specs.declared.id.ClientId.{ClientId}
use Rattle.mrp_types.specs.declared.id.Party.{Party}
use Rattle.mrp_types.specs.declared.id.Party.TheVariants.{Node, Client}
use Rattle.mrp_types.specs.declared.id.TheConstants.{END}
use Rattle.mrp_types.specs.declared.value.Value.{Value}
use Rattle.mrp_types.specs.declared.value.Value.TheVariants.{Batch}
use Rattle.mrp_types.specs.declared.value.Entry.{Entry}
use Rattle.mrp_config.specs.declared.tables.RingTable.{RingTable}
use Rattle.command_codec.specs.declared.command.Command.{Command}
use Rattle.command_codec.specs.Spelling.{command_bytes, batch_bytes}
use Rattle.command_codec.specs.Valid.{IsCommand}
use Rattle.frames.specs.declared.body.Body.{Body}
use Rattle.frames.specs.declared.body.Body.TheVariants.{Submit, Accept, Decide}
use Rattle.frames.specs.declared.sent.Sent.{Sent}
use Rattle.frames.specs.Spelling.{frame_bytes}
use Rattle.frames.specs.Valid.{IsFrame}
use Rattle.transcript.specs.declared.line.Line.{Line}
use Rattle.transcript.specs.declared.line.Line.TheVariants.{Frame as ShowsFrame, End}
use Rattle.transcript.specs.declared.line.ShownFrame.{ShownFrame}
use Rattle.schedule.specs.declared.event.ScheduleEvent.{ScheduleEvent}
use Rattle.schedule.specs.declared.event.ScheduleEvent.TheVariants.{Ask, Flow, Lose, Deliver, List as Shows}
use Rattle.world.specs.declared.request.Request.{Request}
use Rattle.world.specs.declared.seat.Seat.{Seat}
use Rattle.world.specs.Ring.{coordinator, successor, seat_at, majority, has_bit, with_bit}
use Rattle.world.specs.Learner.{Learner, nothing_learned, learning}

-- by client and then by number
abbrev pub request_cmp : Request → Request → Ordering
request_cmp a b = ordering_then (nat_cmp a.client.0 b.client.0) (nat_cmp a.seq b.seq)

abbrev pub client_cmp : ClientId → ClientId → Ordering
client_cmp a b = nat_cmp a.0 b.0

-- The ring; every frame ever sent, in order; the cursor; how many commands each client asked, by client, where one that
-- isn't there asked none; what the coordinator proposed, by request in increasing order, and the next instance; the learner
-- of each acceptor, by position.
pub record World : Type 0 where
  pub ring : RingTable
  pub frames : List Sent
  pub cursor : ℕ
  pub asked : List (ClientId × ℕ)
  pub proposed : List (Request × ℕ)
  pub next : ℕ
  pub learners : List Learner

-- a world, and the lines that were printed
pub record Outcome : Type 0 where
  pub world : World
  pub lines : List Line

-- nothing has happened yet
abbrev pub start : RingTable → World
start ring = record {
  ring = ring;
  frames = [];
  cursor = 0;
  asked = [];
  proposed = [];
  next = 0;
  learners = replicate (length ring.acceptors) nothing_learned;
}

-- nothing is printed
abbrev pub quiet : World → Outcome
quiet w = record { world = w; lines = [] }

-- one more frame was sent
abbrev pub sends : World → Party → Party → Body → World
sends w from to body = record w { frames = w.frames ++ (record { to = to; frame = record { from = from; body = body } }) ∷ [] }

-- a frame that has a spelling
abbrev pub IsSent : Sent → Type 0
IsSent sent = IsFrame sent.frame

-- ---- what an acceptor does with a frame

-- an acceptor sends a frame to the next one
abbrev pub passes_on : World → Seat → Body → World
passes_on w seat body = sends w (Node seat.node) (Node (successor w.ring seat)) body

-- the same after what was done
abbrev pub then_passes_on : Outcome → Seat → Body → Outcome
then_passes_on o seat body = record { world = passes_on o.world seat body; lines = o.lines }

abbrev pub learner_or : Option Learner → Learner
learner_or None = nothing_learned
learner_or (Some l) = l

-- the learner of an acceptor; nothing is learned where there is none
abbrev pub learner_at : World → ℕ → Learner
learner_at w position = learner_or (slice_get w.learners position)

-- the acceptor learns the value
abbrev pub learns : World → Seat → ℕ → Value → Outcome
learns w seat inst value =
    let learned = learning w.ring.id seat.node inst value (learner_at w seat.position) in
    record { world = record w { learners = slice_set w.learners seat.position learned.learner }; lines = learned.lines }

-- What is decided goes round to all others, which are one fewer than the acceptors.
abbrev pub decides : Outcome → Seat → ℕ → Value → Outcome
decides o seat inst value =
    let n = length o.world.ring.acceptors in
    if nat_lt n 2 then o else then_passes_on o seat (Decide o.world.ring.id inst (inst + 1) (n - 2) value)

-- The acceptor has voted. With a majority of votes it learns the value and sends the decision round; else the proposal,
-- whose ballot is the number of acceptors, goes on.
abbrev pub votes : World → Seat → ℕ → ℕ → Value → Outcome
votes w seat inst mask value =
    if nat_le (majority w.ring) (count_ones mask) then decides (learns w seat inst value) seat inst value
    else quiet (passes_on w seat (Accept w.ring.id (length w.ring.acceptors) inst (inst + 1) mask value))

-- a vote that was given before is not given again
abbrev pub accepts : World → Seat → ℕ → ℕ → Value → Outcome
accepts w seat inst mask value = if has_bit mask seat then quiet w else votes w seat inst (with_bit mask seat) value

-- the decision is passed on while it has to go further
abbrev pub passes : Outcome → Seat → ℕ → ℕ → Value → Outcome
passes o seat inst left value = if left == 0 then o else then_passes_on o seat (Decide o.world.ring.id inst (inst + 1) (left - 1) value)

abbrev pub request_of : Entry → Request
request_of entry = record { client = entry.client; seq = entry.seq }

-- The coordinator proposes a batch of the one entry at the next instance, with its own vote: the bit of position 0. A request that was proposed
-- before is dropped, and so is one for which no instance is left.
abbrev pub submits : World → Seat → Entry → Outcome
submits w seat entry =
    if is_some (lookup (is_at (request_cmp (request_of entry))) w.proposed) || nat_le END w.next then quiet w
    else votes (record w { proposed = insert_entry request_cmp w.proposed (request_of entry) w.next; next = w.next + 1 })
    seat w.next 1 (Batch (batch_bytes (entry ∷ [])))

-- a command is for the acceptor at position 0
abbrev pub submits_at : World → Seat → Entry → Outcome
submits_at w seat entry = if seat.position == 0 then submits w seat entry else quiet w

-- frames of other kinds do nothing
abbrev pub handles : World → Seat → Body → Outcome
handles w seat (Submit ring hops client seq command) = submits_at w seat (record { client = client; seq = seq; command = command })
handles w seat (Accept ring ballot lo hi mask value) = accepts w seat lo mask value
handles w seat (Decide ring lo hi left value) = passes (learns w seat lo value) seat lo left value
handles w seat other = quiet w

-- a frame to what isn't an acceptor does nothing
abbrev pub handles_at : World → Option Seat → Body → Outcome
handles_at w None body = quiet w
handles_at w (Some seat) body = handles w seat body

-- ---- what happens at an event

-- the frame is handled where there is one
abbrev pub delivers : World → Option Sent → Outcome
delivers w None = quiet w
delivers w (Some sent) = handles_at w (seat_at w.ring sent.to) sent.frame.body

-- the second after the first
abbrev pub and_then : Outcome → (World → Outcome) → Outcome
and_then o next = record { world = (next o.world).world; lines = o.lines ++ (next o.world).lines }

abbrev pub moves_on : (World → Outcome) → World → Option Sent → Outcome
moves_on rest w None = quiet w
moves_on rest w (Some sent) = and_then (delivers (record w { cursor = w.cursor + 1 }) (Some sent)) rest

-- up to so many times the frame at the cursor is delivered and the cursor moves on
abbrev pub flows : ℕ → World → Outcome
flows zero w = quiet w
flows (suc n) w = moves_on (flows n) w (slice_get w.frames w.cursor)

-- the cursor passes up to so many frames, never past the last
abbrev pub loses : World → ℕ → World
loses w count = record w { cursor = min (w.cursor + count) (length w.frames) }

abbrev pub asked_or : Option ℕ → ℕ
asked_or None = 0
asked_or (Some count) = count

-- the client takes its next number, and the command goes to the coordinator
abbrev pub asks : World → ClientId → Command → World
asks w client command =
    let seq = asked_or (lookup (is_at (client_cmp client)) w.asked) + 1 in
    if nat_lt seq (2 ^ 63)
    then sends (record w { asked = insert_entry client_cmp w.asked client seq }) (Client client) (Node (coordinator w.ring))
    (Submit w.ring.id 0 client seq (command_bytes command))
    else w

-- who sent a frame, who is to have it, and its bytes
abbrev pub shown_of : Sent → ShownFrame
shown_of sent = record { from = sent.frame.from; to = sent.to; bytes = frame_bytes sent.frame }

-- the frame of this number is printed
abbrev pub shows : World → ℕ → Outcome
shows w number = record { world = w; lines = ShowsFrame number (option_map shown_of (slice_get w.frames number)) ∷ [] }

abbrev pub happens : World → ScheduleEvent → Outcome
happens w (Ask client command) = quiet (asks w client command)
happens w (Flow count) = flows count w
happens w (Lose count) = quiet (loses w count)
happens w (Deliver frame) = delivers w (slice_get w.frames frame)
happens w (Shows frame) = shows w frame
happens w other = quiet w

-- what is asked has a spelling
abbrev pub MayHappen : ScheduleEvent → Type 0
MayHappen (Ask client command) = IsCommand command
MayHappen other = Unit {0}

-- the lines of all events
abbrev pub lines_from : World → List ScheduleEvent → List Line
lines_from w [] = []
lines_from w (event ∷ events) = (happens w event).lines ++ lines_from (happens w event).world events

-- what is printed of a schedule
unfoldable pub trace : RingTable → List ScheduleEvent → List Line
trace ring events = lines_from (start ring) events ++ End (length events) ∷ []
