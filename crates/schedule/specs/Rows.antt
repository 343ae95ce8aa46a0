-- Worked events with their lines, and worked lines that are no event, each with its first fault.
use Rattle.std.specs.Prelude.{ℕ, ◌≡◌, Bool, true, false, List, [], ◌∷◌, ◌++◌, codes, Result, Ok, Err}
use Rattle.mrp_types.specs.declared.id.NodeId.{NodeId}
use Rattle.mrp_types.specs.declared.id.RingId.{RingId}
use Rattle.mrp_types.specs.declared.id.ClientId.{ClientId}
use Rattle.mrp_types.specs.declared.id.LogId.{LogId}
use Rattle.command_codec.specs.declared.command.Command.{Command}
use Rattle.command_codec.specs.declared.command.Command.TheVariants.{Append, Multi, ReadLog, TrimLog, Get, Scan, Update, Insert, Delete, Swap}
use Rattle.disk_model.specs.declared.area.Image.TheVariants.{Old, New, Fill}
use Rattle.mrp_config.specs.Config.{Config}
use Rattle.schedule.specs.declared.event.ScheduleEvent.{ScheduleEvent}
use Rattle.schedule.specs.declared.event.ScheduleEvent.TheVariants.{Ask, Flow, Lose, Deliver, List as Shown, TickAll, TickNode, TickClient, Lead, Crash, Restart, Fuse, Fail, FailRead, Show}
use Rattle.schedule.specs.declared.fault.FaultKind.{FaultKind}
use Rattle.schedule.specs.declared.fault.FaultKind.TheVariants as kind
use Rattle.schedule.specs.declared.fault.ScheduleFault.{ScheduleFault}
use Rattle.schedule.specs.Spelling.{event_text}
use Rattle.schedule.specs.Reading.{line_with, line_of}
use Rattle.schedule.specs.Asking.{asked_of}

abbrev pub node : ℕ → NodeId
node n = record { 0 = n }

abbrev pub ring : ℕ → RingId
ring n = record { 0 = n }

abbrev pub client : ℕ → ClientId
client n = record { 0 = n }

abbrev pub log : ℕ → LogId
log n = record { 0 = n }

-- Four nodes: 0 to 2 are the ring 0 and the partition 0, which has the logs 0 and 5 and the keys below 6d; 3 is the ring 1
-- and the partition 1, which has the logs 1 and 63 and the other keys. The clients are 0 and 7.
abbrev pub four : Config
four = record {
  m = 1;
  lambda = 0;
  delta = 1;
  resend = 4;
  suspect = 16;
  attempt = 8;
  checkpoint = 2;
  trim = 8;
  window = 16;
  journal = 1048576;
  nodes = record { id = node 0; address = [] } ∷ record { id = node 1; address = [] } ∷ record { id = node 2; address = [] } ∷ record { id = node 3; address = [] } ∷ [];
  clients = record { id = client 0; address = [] } ∷ record { id = client 7; address = [] } ∷ [];
  rings = record { id = ring 0; acceptors = node 0 ∷ node 1 ∷ node 2 ∷ []; m = 1 } ∷ record { id = ring 1; acceptors = node 3 ∷ []; m = 1 } ∷ [];
  partitions =
      record { id = record { 0 = 0 }; replicas = node 0 ∷ node 1 ∷ node 2 ∷ []; rings = ring 0 ∷ []; home = ring 0; from = []; to = 109 ∷ []; logs = log 0 ∷ log 5 ∷ []; trim_quorum = 2; recovery_quorum = 2 }
      ∷ record { id = record { 0 = 1 }; replicas = node 3 ∷ []; rings = ring 1 ∷ []; home = ring 1; from = 109 ∷ []; to = []; logs = log 1 ∷ log 63 ∷ []; trim_quorum = 1; recovery_quorum = 1 }
      ∷ [];
}

-- ---- events as they are written and read

pub record Written : Type 0 where
  pub event : ScheduleEvent
  pub text : List ℕ

abbrev pub written : ScheduleEvent → List ℕ → Written
written event text = record { event = event; text = text }

abbrev pub IsWritten : Written → Type 0
IsWritten row = event_text row.event ≡ row.text ++ 10 ∷ []

abbrev pub IsRead : Written → Type 0
IsRead row = line_of four (line_with row.text true) ≡ Ok row.event

abbrev pub rows : List Written
rows =
    written (Ask (client 7) (Append (log 5) (104 ∷ 105 ∷ []))) (codes "ask 7 append 5 6869")
    ∷ written (Ask (client 0) (Append (log 0) [])) (codes "ask 0 append 0 -")
    ∷ written (Ask (client 0) (Multi (log 0 ∷ log 5 ∷ []) (0 ∷ 255 ∷ []))) (codes "ask 0 multi 0,5 00ff")
    ∷ written (Ask (client 0) (Multi (log 63 ∷ []) [])) (codes "ask 0 multi 63 -")
    ∷ written (Ask (client 0) (ReadLog (log 1) 12)) (codes "ask 0 read 1 12")
    ∷ written (Ask (client 0) (TrimLog (log 1) 0)) (codes "ask 0 trimlog 1 0")
    ∷ written (Ask (client 0) (Get (107 ∷ []))) (codes "ask 0 get 6b")
    ∷ written (Ask (client 0) (Scan (97 ∷ []) (98 ∷ []))) (codes "ask 0 scan 61 62")
    ∷ written (Ask (client 0) (Scan (110 ∷ []) [])) (codes "ask 0 scan 6e -")
    ∷ written (Ask (client 0) (Update (107 ∷ []) (1 ∷ []))) (codes "ask 0 update 6b 01")
    ∷ written (Ask (client 0) (Insert (107 ∷ 108 ∷ []) [])) (codes "ask 0 insert 6b6c -")
    ∷ written (Ask (client 0) (Delete (0 ∷ []))) (codes "ask 0 delete 00")
    ∷ written (Ask (client 0) (Swap (97 ∷ []) (50 ∷ []) [])) (codes "ask 0 swap 61 32 -")
    ∷ written (Flow 100000) (codes "flow 100000")
    ∷ written (Lose 1) (codes "lose 1")
    ∷ written (Deliver 18446744073709551615) (codes "deliver 18446744073709551615")
    ∷ written (Shown 0) (codes "list 0")
    ∷ written (TickAll) (codes "tick all")
    ∷ written (TickNode (node 3)) (codes "tick node 3")
    ∷ written (TickClient (client 7)) (codes "tick client 7")
    ∷ written (Lead (node 2) (ring 0)) (codes "lead 2 0")
    ∷ written (Lead (node 3) (ring 1)) (codes "lead 3 1")
    ∷ written (Crash (node 0)) (codes "crash 0")
    ∷ written (Restart (node 1) Old) (codes "restart 1 old")
    ∷ written (Restart (node 1) New) (codes "restart 1 new")
    ∷ written (Restart (node 1) (Fill 1000000 127)) (codes "restart 1 fill 1000000 7f")
    ∷ written (Restart (node 1) (Fill 0 0)) (codes "restart 1 fill 0 00")
    ∷ written (Fuse (node 0) 0) (codes "fuse 0 0")
    ∷ written (Fail (node 2) 1000) (codes "fail 2 1000")
    ∷ written (FailRead (node 3) 7) (codes "failread 3 7")
    ∷ written (Show (node 3)) (codes "show 3")
    ∷ []

-- ---- first faults

-- a line without its line feed, whether one ends it, and its first fault
pub record Row : Type 0 where
  pub text : List ℕ
  pub ended : Bool
  pub fault : FaultKind

abbrev pub ended : List ℕ → FaultKind → Row
ended text fault = record { text = text; ended = true; fault = fault }

abbrev pub unended : List ℕ → FaultKind → Row
unended text fault = record { text = text; ended = false; fault = fault }

-- the line is refused with this fault
abbrev pub IsFault : Row → Type 0
IsFault row = line_of four (line_with row.text row.ended) ≡ Err row.fault

-- a word cut short, or one that may not stand there
abbrev pub no_words : List Row
no_words =
    ended [] kind.Word
    ∷ ended (codes " ") kind.Word
    ∷ ended (codes "swap 0") kind.Word
    ∷ ended (codes "Flow 1") kind.Word
    ∷ ended (codes " flow 1") kind.Word
    ∷ ended (codes "flow") kind.Word
    ∷ ended (codes "lose") kind.Word
    ∷ ended (codes "deliver") kind.Word
    ∷ ended (codes "list") kind.Word
    ∷ ended (codes "tick") kind.Word
    ∷ ended (codes "tick some") kind.Word
    ∷ ended (codes "tick node") kind.Word
    ∷ ended (codes "tick client") kind.Word
    ∷ ended (codes "lead") kind.Word
    ∷ ended (codes "lead 0") kind.Word
    ∷ ended (codes "crash") kind.Word
    ∷ ended (codes "restart") kind.Word
    ∷ ended (codes "restart 0") kind.Word
    ∷ ended (codes "restart 0 older") kind.Word
    ∷ ended (codes "restart 0 fill") kind.Word
    ∷ ended (codes "restart 0 fill 1") kind.Word
    ∷ ended (codes "fuse") kind.Word
    ∷ ended (codes "fuse 0") kind.Word
    ∷ ended (codes "fail 0") kind.Word
    ∷ ended (codes "failread 0") kind.Word
    ∷ ended (codes "show") kind.Word
    ∷ ended (codes "ask") kind.Word
    ∷ ended (codes "ask 0") kind.Word
    ∷ ended (codes "ask 0 swap") kind.Word
    ∷ ended (codes "ask 0 append") kind.Word
    ∷ ended (codes "ask 0 append 0") kind.Word
    ∷ ended (codes "ask 0 multi 0") kind.Word
    ∷ ended (codes "ask 0 read 0") kind.Word
    ∷ ended (codes "ask 0 trimlog 0") kind.Word
    ∷ ended (codes "ask 0 get") kind.Word
    ∷ ended (codes "ask 0 scan") kind.Word
    ∷ ended (codes "ask 0 scan 61") kind.Word
    ∷ ended (codes "ask 0 update 6b") kind.Word
    ∷ ended (codes "ask 0 insert 6b") kind.Word
    ∷ ended (codes "ask 0 delete") kind.Word
    ∷ ended (codes "ask 0 swap 61 32") kind.Word
    ∷ unended (codes "flow") kind.Word
    ∷ unended (codes "tick") kind.Word
    ∷ []

-- a field out of its form
abbrev pub no_numbers : List Row
no_numbers =
    ended (codes "flow ") kind.Number
    ∷ ended (codes "flow 01") kind.Number
    ∷ ended (codes "lose x") kind.Number
    ∷ ended (codes "deliver -") kind.Number
    ∷ ended (codes "list +1") kind.Number
    ∷ ended (codes "tick node x") kind.Number
    ∷ ended (codes "tick client 00") kind.Number
    ∷ ended (codes "lead x 0") kind.Number
    ∷ ended (codes "lead 0 x") kind.Number
    ∷ ended (codes "crash ") kind.Number
    ∷ ended (codes "restart 0 fill x 7f") kind.Number
    ∷ ended (codes "restart 0 fill 0 7") kind.Number
    ∷ ended (codes "restart 0 fill 0 7F") kind.Number
    ∷ ended (codes "fuse 0 x") kind.Number
    ∷ ended (codes "ask x get 6b") kind.Number
    ∷ ended (codes "ask 0 append x -") kind.Number
    ∷ ended (codes "ask 0 append 0 0A") kind.Number
    ∷ ended (codes "ask 0 append 0 0") kind.Number
    ∷ ended (codes "ask 0 multi ,1 -") kind.Number
    ∷ ended (codes "ask 0 multi 0, -") kind.Number
    ∷ ended (codes "ask 0 multi 0,x -") kind.Number
    ∷ ended (codes "ask 0 read 0 x") kind.Number
    ∷ ended (codes "ask 0 get 6") kind.Number
    ∷ ended (codes "ask 0 get ") kind.Number
    ∷ ended (codes "ask 0 scan 6 61") kind.Number
    ∷ ended (codes "ask 0 scan 61 6B") kind.Number
    ∷ ended (codes "ask 0 update 6b 0g") kind.Number
    ∷ ended (codes "ask 0 insert 6b --") kind.Number
    ∷ ended (codes "ask 0 delete 0") kind.Number
    ∷ []

-- a field past its limit, or out of order
abbrev pub out_of_range : List Row
out_of_range =
    ended (codes "flow 0") kind.Range
    ∷ ended (codes "flow 100001") kind.Range
    ∷ ended (codes "lose 0") kind.Range
    ∷ ended (codes "deliver 18446744073709551616") kind.Range
    ∷ ended (codes "list 18446744073709551616") kind.Range
    ∷ ended (codes "tick node 4") kind.Range
    ∷ ended (codes "tick client 1") kind.Range
    ∷ ended (codes "lead 4 0") kind.Range
    ∷ ended (codes "lead 0 2") kind.Range
    ∷ ended (codes "lead 3 0") kind.Range
    ∷ ended (codes "lead 0 256") kind.Range
    ∷ ended (codes "crash 256") kind.Range
    ∷ ended (codes "restart 4 old") kind.Range
    ∷ ended (codes "restart 0 fill 1000001 7f") kind.Range
    ∷ ended (codes "restart 0 fill 0 -") kind.Range
    ∷ ended (codes "restart 0 fill 0 7f7f") kind.Range
    ∷ ended (codes "fuse 4 0") kind.Range
    ∷ ended (codes "fuse 0 1001") kind.Range
    ∷ ended (codes "fail 0 1001") kind.Range
    ∷ ended (codes "failread 0 1001") kind.Range
    ∷ ended (codes "show 4") kind.Range
    ∷ ended (codes "ask 1 get 6b") kind.Range
    ∷ ended (codes "ask 256 get 6b") kind.Range
    ∷ ended (codes "ask 0 append 64 -") kind.Range
    ∷ ended (codes "ask 0 multi 64 -") kind.Range
    ∷ ended (codes "ask 0 multi 1,0 -") kind.Range
    ∷ ended (codes "ask 0 multi 1,1 -") kind.Range
    ∷ ended (codes "ask 0 multi 1,0,x -") kind.Range
    ∷ ended (codes "ask 0 read 64 0") kind.Range
    ∷ ended (codes "ask 0 read 0 18446744073709551616") kind.Range
    ∷ ended (codes "ask 0 trimlog 0 18446744073709551616") kind.Range
    ∷ ended (codes "ask 0 get -") kind.Range
    ∷ ended (codes "ask 0 scan 62 62") kind.Range
    ∷ ended (codes "ask 0 scan 62 61") kind.Range
    ∷ ended (codes "ask 0 update - 01") kind.Range
    ∷ ended (codes "ask 0 insert - 01") kind.Range
    ∷ ended (codes "ask 0 delete -") kind.Range
    ∷ unended (codes "ask 0 get -") kind.Range
    ∷ []

-- words left over, no line feed, and no ring, in this order
abbrev pub later_faults : List Row
later_faults =
    ended (codes "flow 1 2") kind.Left
    ∷ ended (codes "flow 1 ") kind.Left
    ∷ ended (codes "tick all 0") kind.Left
    ∷ ended (codes "tick node 0 0") kind.Left
    ∷ ended (codes "lead 0 0 0") kind.Left
    ∷ ended (codes "crash 0 x") kind.Left
    ∷ ended (codes "restart 0 old 0") kind.Left
    ∷ ended (codes "restart 0 fill 0 7f 0") kind.Left
    ∷ ended (codes "fuse 0 0 0") kind.Left
    ∷ ended (codes "show 0 -") kind.Left
    ∷ ended (codes "ask 0 append 0 - -") kind.Left
    ∷ ended (codes "ask 0 get 6b ") kind.Left
    ∷ ended (codes "ask 0 append 9 - x") kind.Left
    ∷ ended (codes "ask 0 append 9 61") kind.Route
    ∷ ended (codes "ask 0 multi 0,1 63") kind.Route
    ∷ ended (codes "ask 0 multi 9 -") kind.Route
    ∷ ended (codes "ask 0 multi 0,9 -") kind.Route
    ∷ ended (codes "ask 0 multi 1,2,63 -") kind.Route
    ∷ ended (codes "ask 0 read 9 0") kind.Route
    ∷ ended (codes "ask 0 scan 61 7b") kind.Route
    ∷ ended (codes "ask 0 scan - -") kind.Route
    ∷ unended (codes "flow 1") kind.Cut
    ∷ unended (codes "tick all") kind.Cut
    ∷ unended (codes "ask 0 append 0 -") kind.Cut
    ∷ unended (codes "ask 0 append 9 -") kind.Cut
    ∷ unended (codes "flow 1 ") kind.Left
    ∷ unended (codes "ask 0 append 9 - x") kind.Left
    ∷ []

-- ---- texts of clients

pub record Asked : Type 0 where
  pub text : List ℕ
  pub answer : Result Command ScheduleFault

abbrev pub asked : List ℕ → Result Command ScheduleFault → Asked
asked text answer = record { text = text; answer = answer }

abbrev pub IsAsked : Asked → Type 0
IsAsked row = asked_of four row.text ≡ row.answer

abbrev pub texts : List Asked
texts =
    asked (codes "append 0 61" ++ 10 ∷ []) (Ok (Append (log 0) (97 ∷ [])))
    ∷ asked (codes "get 6b" ++ 10 ∷ []) (Ok (Get (107 ∷ [])))
    ∷ asked [] (Err (record { line = 1; kind = kind.Cut }))
    ∷ asked (codes "get 6b") (Err (record { line = 1; kind = kind.Cut }))
    ∷ asked (10 ∷ []) (Err (record { line = 1; kind = kind.Word }))
    ∷ asked (codes "ask 0 get 6b" ++ 10 ∷ []) (Err (record { line = 1; kind = kind.Word }))
    ∷ asked (codes "get" ++ 10 ∷ []) (Err (record { line = 1; kind = kind.Word }))
    ∷ asked (codes "get 6" ++ 10 ∷ []) (Err (record { line = 1; kind = kind.Number }))
    ∷ asked (codes "get -" ++ 10 ∷ []) (Err (record { line = 1; kind = kind.Range }))
    ∷ asked (codes "get 6b 6b" ++ 10 ∷ []) (Err (record { line = 1; kind = kind.Left }))
    ∷ asked (codes "append 9 61" ++ 10 ∷ []) (Err (record { line = 1; kind = kind.Route }))
    ∷ asked (codes "multi 0,9 61" ++ 10 ∷ []) (Err (record { line = 1; kind = kind.Route }))
    ∷ asked (codes "append 9 61") (Err (record { line = 1; kind = kind.Cut }))
    ∷ asked (codes "get 6b" ++ 10 ∷ 10 ∷ []) (Err (record { line = 2; kind = kind.Left }))
    ∷ asked (codes "get 6b" ++ 10 ∷ (codes "x")) (Err (record { line = 2; kind = kind.Left }))
    ∷ asked (codes "append 9 61" ++ 10 ∷ (codes "x")) (Err (record { line = 1; kind = kind.Route }))
    ∷ []
