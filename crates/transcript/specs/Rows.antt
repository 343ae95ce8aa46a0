-- Worked lines with their texts, and worked texts that are no line, each with its first fault.
use Rattle.std.specs.Prelude.{ℕ, ◌≡◌, List, [], ◌∷◌, ◌++◌, codes, Some, None, Err}
use Rattle.mrp_types.specs.declared.id.NodeId.{NodeId}
use Rattle.mrp_types.specs.declared.id.RingId.{RingId}
use Rattle.mrp_types.specs.declared.id.ClientId.{ClientId}
use Rattle.mrp_types.specs.declared.id.Party.TheVariants.{Node, Client}
use Rattle.mrp_types.specs.declared.value.Value.TheVariants.{Skip, Batch}
use Rattle.transcript.specs.declared.fault.LineKind.{LineKind}
use Rattle.transcript.specs.declared.fault.LineKind.TheVariants as kind
use Rattle.transcript.specs.declared.line.Line.{Line}
use Rattle.transcript.specs.declared.line.Line.TheVariants as line
use Rattle.transcript.specs.declared.line.Cause.TheVariants as cause
use Rattle.transcript.specs.Spelling.{line_bytes}
use Rattle.transcript.specs.Reading.{line_at}
use Rattle.transcript.specs.Whole.{transcript_of}

abbrev pub node : ℕ → NodeId
node n = record { 0 = n }

abbrev pub ring : ℕ → RingId
ring n = record { 0 = n }

abbrev pub client : ℕ → ClientId
client n = record { 0 = n }

-- ---- lines as they are written

pub record Written : Type 0 where
  pub line : Line
  pub text : List ℕ

abbrev pub written : Line → List ℕ → Written
written line text = record { line = line; text = text ++ 10 ∷ [] }

abbrev pub IsWritten : Written → Type 0
IsWritten row = line_bytes row.line ≡ row.text

abbrev pub lines : List Written
lines =
    written (line.Learn (node 1) (ring 2) 3 4 (Batch (1 ∷ 0 ∷ 255 ∷ []))) (codes "learn 1 2 3 4 0100ff")
    ∷ written (line.Learn (node 31) (ring 15) 0 1099511627776 Skip) (codes "learn 31 15 0 1099511627776 skip")
    ∷ written (line.Deliver (node 1) (ring 2) 3) (codes "deliver 1 2 3")
    ∷ written (line.Reply (node 1) (ring 2) 3 4 (client 5) 6 (7 ∷ 171 ∷ [])) (codes "reply 1 2 3 4 5 6 07ab")
    ∷ written (line.Answer (client 0) 1 (1 ∷ [])) (codes "answer 0 1 01")
    ∷ written (line.Busy (client 9) 10) (codes "busy 9 10")
    ∷ written (line.Begin (node 1) 2 3 (4 ∷ 5 ∷ [])) (codes "begin 1 2 3 4,5")
    ∷ written (line.Chose (node 1) 2 3 (4 ∷ []) (node 6)) (codes "chose 1 2 3 4 6")
    ∷ written (line.Restore (node 1) (0 ∷ 20 ∷ 3 ∷ [])) (codes "restore 1 0,20,3")
    ∷ written (line.Saved (node 1) (2 ∷ [])) (codes "saved 1 2")
    ∷ written (line.Trim (node 1) (ring 2) 3) (codes "trim 1 2 3")
    ∷ written (line.Refuse (node 1) 2 3 0 2) (codes "refuse 1 2 3 0 2")
    ∷ written (line.BallotLimit (node 1) (ring 2)) (codes "limit 1 ballot 2")
    ∷ written (line.InstanceLimit (node 1) (ring 2)) (codes "limit 1 instance 2")
    ∷ written (line.AttemptLimit (node 1)) (codes "limit 1 attempt")
    ∷ written (line.Down (node 1) cause.Crash) (codes "down 1 crash")
    ∷ written (line.Down (node 1) cause.Disk) (codes "down 1 disk")
    ∷ written (line.Down (node 1) cause.Full) (codes "down 1 full")
    ∷ written (line.Up (node 1) 2) (codes "up 1 2")
    ∷ written (line.State (node 1) (Some (record { tuple = 2 ∷ 3 ∷ []; bytes = 255 ∷ [] }))) (codes "state 1 2,3 ff")
    ∷ written (line.State (node 1) None) (codes "state 1 -")
    ∷ written (line.Frame 10 (Some (record { from = Client (client 255); to = Node (node 31); bytes = 77 ∷ 82 ∷ 0 ∷ [] }))) (codes "frame 10 c255 n31 4d5200")
    ∷ written (line.Frame 11 None) (codes "frame 11 none")
    ∷ written (line.End 7) (codes "end 7")
    ∷ []

-- ---- first faults

-- a text, and its first fault
pub record Row : Type 0 where
  pub text : List ℕ
  pub fault : LineKind

-- a text with a line feed at its end
abbrev pub ended : List ℕ → LineKind → Row
ended text fault = record { text = text ++ 10 ∷ []; fault = fault }

-- a text as it stands
abbrev pub unended : List ℕ → LineKind → Row
unended text fault = record { text = text; fault = fault }

-- the text is refused with this fault
abbrev pub IsRow : Row → Type 0
IsRow row = line_at row.text ≡ Err row.fault

abbrev pub rows : List Row
rows =
    ended [] kind.Word
    ∷ ended (codes "lear 1 0 0 1 skip") kind.Word
    ∷ ended (codes "learn 1 0 0 1") kind.Word
    ∷ ended (codes "learn 256 0 0 1 skip") kind.Number
    ∷ ended (codes "learn 01 0 0 1 skip") kind.Number
    ∷ ended (codes "learn  0 0 1 skip") kind.Number
    ∷ ended (codes "deliver 1 0 18446744073709551616") kind.Number
    ∷ ended (codes "frame 0 x") kind.Number
    ∷ ended (codes "frame 0 n1 c") kind.Number
    ∷ ended (codes "frame 0 n1 c1 0A") kind.Hex
    ∷ ended (codes "frame 0 n1 c1 0") kind.Hex
    ∷ ended (codes "frame 0 n1 c1 ") kind.Hex
    ∷ ended (codes "frame 0 n1 c1 -") kind.Hex
    ∷ ended (codes "learn 1 0 0 1 00") kind.Hex
    ∷ ended (codes "frame 0 none 00") kind.Left
    ∷ ended (codes "reply 1 0 0 0 0 1 ") kind.Hex
    ∷ ended (codes "reply 1 0 0 0 256 1 00") kind.Number
    ∷ ended (codes "answer 0 1 00 00") kind.Left
    ∷ ended (codes "begin 1 1 1 ") kind.Number
    ∷ ended (codes "begin 1 1 1 1,") kind.Number
    ∷ ended (codes "begin 1 1 1 1,,2") kind.Number
    ∷ ended (codes "begin 1 1 1 0,1,2,3,4,5,6,7,8,9,10,11,12,13,14,15,16") kind.Number
    ∷ ended (codes "chose 1 1 1 2") kind.Word
    ∷ ended (codes "limit 1 epoch 0") kind.Word
    ∷ ended (codes "limit 1 attempt 0") kind.Left
    ∷ ended (codes "down 1 fire") kind.Word
    ∷ ended (codes "down x fire") kind.Number
    ∷ ended (codes "state 1 x 00") kind.Number
    ∷ ended (codes "state 1 2") kind.Word
    ∷ ended (codes "state 1 - 00") kind.Left
    ∷ ended (codes "refuse 1 1 1 0") kind.Word
    ∷ ended (codes "end 1 ") kind.Left
    ∷ unended (codes "end 1 1") kind.Left
    ∷ unended (codes "end") kind.Word
    ∷ unended (codes "end 1") kind.Cut
    ∷ []

-- a line after the end is left over, whatever it is
abbrev pub after_the_end : List ℕ
after_the_end = codes "up 0 1" ++ (10 ∷ codes "end 0") ++ (10 ∷ codes "x") ++ 10 ∷ []

abbrev pub IsLeft : List ℕ → Type 0
IsLeft text = transcript_of text ≡ Err (record { line = 3; kind = kind.Left })
