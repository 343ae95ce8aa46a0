-- Worked schedules and the lines that they print, for rings of three, two and one acceptors.
use Rattle.std.specs.Prelude.{ℕ, ◌+◌, List, [], ◌∷◌, ◌++◌, length, map, Some, None}
use Rattle.std.specs.List.{flat_map}
use Rattle.mrp_types.specs.declared.id.NodeId.{NodeId}
use Rattle.mrp_types.specs.declared.id.Party.TheVariants.{Node, Client}
use Rattle.mrp_types.specs.declared.value.Value.TheVariants.{Batch}
use Rattle.mrp_config.specs.declared.tables.RingTable.{RingTable}
use Rattle.command_codec.specs.declared.command.Command.TheVariants.{Append}
use Rattle.transcript.specs.declared.line.Line.{Line}
use Rattle.transcript.specs.declared.line.Line.TheVariants.{Learn, Deliver, Frame, End}
use Rattle.schedule.specs.declared.event.ScheduleEvent.{ScheduleEvent}
use Rattle.schedule.specs.declared.event.ScheduleEvent.TheVariants as event
use Rattle.world.specs.System.{World, happens}

abbrev pub node : ℕ → NodeId
node n = record { 0 = n }

-- a ring with these acceptors
abbrev pub ring_of : ℕ → List NodeId → RingTable
ring_of id acceptors = record { id = record { 0 = id }; acceptors = acceptors; m = 1 }

abbrev pub three : RingTable
three = ring_of 0 (node 0 ∷ node 1 ∷ node 2 ∷ [])

abbrev pub ask : ℕ → List ℕ → ScheduleEvent
ask client value = event.Ask (record { 0 = client }) (Append (record { 0 = 0 }) value)

-- of ring 0
abbrev pub learn : ℕ → ℕ → List ℕ → Line
learn n inst batch = Learn (node n) (record { 0 = 0 }) inst (inst + 1) (Batch batch)

abbrev pub deliver : ℕ → ℕ → Line
deliver n inst = Deliver (node n) (record { 0 = 0 }) inst

-- the batches of `hi` by client 0, of `a` by client 0 and of `b` by client 1, each with the number 1
abbrev pub hi : List ℕ
hi = 1 ∷ 0 ∷ 1 ∷ 0 ∷ 0 ∷ 0 ∷ 0 ∷ 0 ∷ 0 ∷ 0 ∷ 0 ∷ 1 ∷ 0 ∷ 6 ∷ 1 ∷ 0 ∷ 0 ∷ 2 ∷ 104 ∷ 105 ∷ []

abbrev pub a : List ℕ
a = 1 ∷ 0 ∷ 1 ∷ 0 ∷ 0 ∷ 0 ∷ 0 ∷ 0 ∷ 0 ∷ 0 ∷ 0 ∷ 1 ∷ 0 ∷ 5 ∷ 1 ∷ 0 ∷ 0 ∷ 1 ∷ 97 ∷ []

abbrev pub b : List ℕ
b = 1 ∷ 0 ∷ 1 ∷ 1 ∷ 0 ∷ 0 ∷ 0 ∷ 0 ∷ 0 ∷ 0 ∷ 0 ∷ 1 ∷ 0 ∷ 5 ∷ 1 ∷ 0 ∷ 0 ∷ 1 ∷ 98 ∷ []

-- ---- three acceptors

abbrev pub first : List ScheduleEvent
first = ask 0 (104 ∷ 105 ∷ []) ∷ event.Flow 100 ∷ []

abbrev pub round_lines : List Line
round_lines = learn 1 0 hi ∷ deliver 1 0 ∷ learn 2 0 hi ∷ deliver 2 0 ∷ learn 0 0 hi ∷ deliver 0 0 ∷ []

abbrev pub first_lines : List Line
first_lines = round_lines ++ End 2 ∷ []

abbrev pub again : List ScheduleEvent
again = ask 0 (104 ∷ 105 ∷ []) ∷ event.Deliver 1 ∷ event.Flow 1 ∷ event.Deliver 1 ∷ event.Deliver 1 ∷ event.Deliver 2 ∷ event.Flow 100 ∷ []

abbrev pub again_lines : List Line
again_lines = round_lines ++ End 7 ∷ []

abbrev pub swapped : List ScheduleEvent
swapped = ask 0 (97 ∷ []) ∷ ask 1 (98 ∷ []) ∷ event.Flow 2 ∷ event.Deliver 3 ∷ event.Deliver 2 ∷ []

abbrev pub swapped_lines : List Line
swapped_lines = learn 1 1 b ∷ learn 1 0 a ∷ deliver 1 0 ∷ deliver 1 1 ∷ End 5 ∷ []

-- the decision from node 1 to node 2 is frame 2, and there is no frame 9
abbrev pub listed : List ScheduleEvent
listed = ask 0 (104 ∷ 105 ∷ []) ∷ event.Flow 2 ∷ event.List 2 ∷ event.List 9 ∷ []

-- a Decide of ring 0 from node 1, of the range 0 to 1, to be passed on once, before its value
abbrev pub decide_head : List ℕ
decide_head = 0x4d ∷ 0x52 ∷ 2 ∷ 6 ∷ 0 ∷ 1 ∷ 0 ∷ 0 ∷ 0 ∷ 0 ∷ 0 ∷ 0 ∷ 0 ∷ 0 ∷ 0 ∷ 0 ∷ 0 ∷ 0 ∷ 0 ∷ 0 ∷ 0 ∷ 0 ∷ 1 ∷ 1 ∷ 0 ∷ 20 ∷ []

abbrev pub listed_lines : List Line
listed_lines = learn 1 0 hi ∷ deliver 1 0 ∷ Frame 2 (Some (record { from = Node (node 1); to = Node (node 2); bytes = decide_head ++ hi })) ∷ Frame 9 None ∷ End 4 ∷ []

-- the proposal is lost, and comes when it is delivered by its number
abbrev pub lost : List ScheduleEvent
lost = ask 0 (104 ∷ 105 ∷ []) ∷ event.Flow 1 ∷ event.Lose 100 ∷ event.Flow 100 ∷ event.Deliver 1 ∷ event.Flow 100 ∷ []

abbrev pub lost_lines : List Line
lost_lines = round_lines ++ End 6 ∷ []

-- ---- two acceptors, and one

abbrev pub two : RingTable
two = ring_of 0 (node 5 ∷ node 3 ∷ [])

abbrev pub first_of_two : List Line
first_of_two = learn 3 0 hi ∷ deliver 3 0 ∷ learn 5 0 hi ∷ deliver 5 0 ∷ End 2 ∷ []

abbrev pub one : RingTable
one = ring_of 0 (node 7 ∷ [])

-- the command is frame 0, and there is no other
abbrev pub alone : List ScheduleEvent
alone = ask 0 (104 ∷ 105 ∷ []) ∷ event.Deliver 0 ∷ event.List 1 ∷ []

abbrev pub alone_lines : List Line
alone_lines = learn 7 0 hi ∷ deliver 7 0 ∷ Frame 1 None ∷ End 3 ∷ []

-- how many frames were sent once the events have happened
abbrev pub sent : World → List ScheduleEvent → ℕ
sent w [] = length w.frames
sent w (event ∷ events) = sent (happens w event).world events

-- a command that is delivered to its coordinator twice
abbrev pub again_asked : List ScheduleEvent
again_asked = ask 0 (104 ∷ 105 ∷ []) ∷ event.Deliver 0 ∷ event.Deliver 0 ∷ []

-- each client counts its own commands
abbrev pub counting : List ScheduleEvent
counting =
    ask 0 (104 ∷ 105 ∷ []) ∷ ask 255 [] ∷ ask 0 (104 ∷ 105 ∷ []) ∷ event.List 0 ∷ event.List 1 ∷ event.List 2 ∷ []

-- the frame of a command of ring 3 to node 7
abbrev pub submitted : ℕ → ℕ → ℕ → List ℕ → Line
submitted number client seq command = Frame number (Some (record {
  from = Client (record { 0 = client });
  to = Node (node 7);
  bytes = 0x4d ∷ 0x52 ∷ 2 ∷ 1 ∷ 1 ∷ client ∷ 3 ∷ 0 ∷ client ∷ 0 ∷ 0 ∷ 0 ∷ 0 ∷ 0 ∷ 0 ∷ 0 ∷ seq ∷ 0 ∷ length command ∷ command;
}))

abbrev pub counting_lines : List Line
counting_lines =
    submitted 0 0 1 (1 ∷ 0 ∷ 0 ∷ 2 ∷ 104 ∷ 105 ∷ []) ∷
    submitted 1 255 1 (1 ∷ 0 ∷ 0 ∷ 0 ∷ []) ∷
    submitted 2 0 2 (1 ∷ 0 ∷ 0 ∷ 2 ∷ 104 ∷ 105 ∷ []) ∷
    End 6 ∷ []

-- the first command is lost
abbrev pub second : List ScheduleEvent
second = ask 0 (97 ∷ []) ∷ event.Lose 100 ∷ ask 1 (98 ∷ []) ∷ event.Flow 1 ∷ []

abbrev pub second_lines : List Line
second_lines = learn 7 0 b ∷ deliver 7 0 ∷ End 4 ∷ []

-- ---- rings of each size

-- the acceptors of a ring, the order in which they learn a command, and how many frames that takes
pub record Round : Type 0 where
  pub acceptors : List ℕ
  pub learners : List ℕ
  pub frames : ℕ

abbrev pub sized_ring : Round → RingTable
sized_ring round = ring_of 0 (map node round.acceptors)

-- each learns it and delivers it
abbrev pub round_of : Round → List Line
round_of round = flat_map (λ (n : ℕ). learn n 0 hi ∷ deliver n 0 ∷ []) round.learners ++ End 2 ∷ []

abbrev pub round : List ℕ → List ℕ → ℕ → Round
round acceptors learners frames = record { acceptors = acceptors; learners = learners; frames = frames }

abbrev pub sizes : List Round
sizes =
    round (4 ∷ []) (4 ∷ []) 1 ∷
    round (4 ∷ 0 ∷ []) (0 ∷ 4 ∷ []) 3 ∷
    round (4 ∷ 0 ∷ 31 ∷ []) (0 ∷ 31 ∷ 4 ∷ []) 4 ∷
    round (4 ∷ 0 ∷ 31 ∷ 2 ∷ []) (31 ∷ 2 ∷ 4 ∷ 0 ∷ []) 6 ∷
    round (4 ∷ 0 ∷ 31 ∷ 2 ∷ 9 ∷ []) (31 ∷ 2 ∷ 9 ∷ 4 ∷ 0 ∷ []) 7 ∷
    round (4 ∷ 0 ∷ 31 ∷ 2 ∷ 9 ∷ 1 ∷ []) (2 ∷ 9 ∷ 1 ∷ 4 ∷ 0 ∷ 31 ∷ []) 9 ∷
    round (4 ∷ 0 ∷ 31 ∷ 2 ∷ 9 ∷ 1 ∷ 7 ∷ []) (2 ∷ 9 ∷ 1 ∷ 7 ∷ 4 ∷ 0 ∷ 31 ∷ []) 10 ∷
    []
