-- What is told of a reader's answer: `ok`, or the text of its fault.
use Rattle.std.specs.Prelude.{ℕ, List, [], ◌∷◌, ◌++◌, codes, Result, Ok, Err}
use Rattle.std.specs.Option.{option_map, option_to_list}
use Rattle.std.specs.Fmt.{decimal}
use Rattle.text_lines.specs.Text.{joined, hex_text}
use Rattle.command_codec.specs.declared.fault.CodecFault.{CodecFault}
use Rattle.command_codec.specs.declared.fault.CodecFault.TheVariants as fields
use Rattle.frames.specs.declared.fault.FrameFault.{FrameFault}
use Rattle.frames.specs.declared.fault.FrameFault.TheVariants as frame
use Rattle.config_walk.specs.declared.fault.ConfigFault.{ConfigFault}
use Rattle.config_walk.specs.Faults.{fault_number, fault_name, fault_id}
use Rattle.schedule.specs.declared.fault.ScheduleFault.{ScheduleFault}
use Rattle.schedule.specs.declared.fault.FaultKind.{FaultKind}
use Rattle.schedule.specs.declared.fault.FaultKind.TheVariants as events
use Rattle.transcript.specs.declared.fault.LineKind.{LineKind}
use Rattle.transcript.specs.declared.fault.LineKind.TheVariants as lines
use Rattle.disk_model.specs.Areas.{number_of}
use Rattle.vote_state.specs.State.{State, promise_at}
use Rattle.vote_journal.specs.declared.fault.OpenFault.{OpenFault}
use Rattle.vote_journal.specs.declared.fault.OpenFault.TheVariants as opens

-- the verdict on what a reader is asked to read
abbrev pub verdict_of : {V F : Type 0} → (F → List ℕ) → Result V F → List ℕ
verdict_of text (Ok value) = codes "ok"
verdict_of text (Err fault) = text fault

-- a word, and a number behind it
abbrev pub numbered : List ℕ → ℕ → List ℕ
numbered word number = joined (word ∷ decimal number ∷ [])

-- ---- the texts of faults

abbrev pub frame_fault_text : FrameFault → List ℕ
frame_fault_text frame.TooLong = codes "toolong"
frame_fault_text (frame.Short at) = numbered (codes "short") at
frame_fault_text frame.BadMagic = codes "badmagic"
frame_fault_text (frame.BadVersion version) = numbered (codes "badversion") version
frame_fault_text (frame.BadKind kind) = numbered (codes "badkind") kind
frame_fault_text (frame.BadField at) = numbered (codes "badfield") at
frame_fault_text (frame.Left at) = numbered (codes "left") at
frame_fault_text frame.Memory = codes "memory"

abbrev pub codec_fault_text : CodecFault → List ℕ
codec_fault_text (fields.Short at) = numbered (codes "short") at
codec_fault_text (fields.BadKind at) = numbered (codes "badkind") at
codec_fault_text (fields.BadField at) = numbered (codes "badfield") at
codec_fault_text (fields.TooLong at) = numbered (codes "toolong") at
codec_fault_text (fields.Left at) = numbered (codes "left") at
codec_fault_text fields.Memory = codes "memory"

-- its number, and the name and the number that it is about
abbrev pub config_fault_text : ConfigFault → List ℕ
config_fault_text fault = joined (decimal (fault_number fault) ∷ (option_to_list (fault_name fault) ++ option_to_list (option_map decimal (fault_id fault))))

abbrev pub schedule_kind_text : FaultKind → List ℕ
schedule_kind_text events.Word = codes "word"
schedule_kind_text events.Number = codes "number"
schedule_kind_text events.Range = codes "range"
schedule_kind_text events.Route = codes "route"
schedule_kind_text events.Left = codes "left"
schedule_kind_text events.Cut = codes "cut"
schedule_kind_text events.TooMany = codes "toomany"
schedule_kind_text events.Memory = codes "memory"

-- its kind and its line
abbrev pub schedule_fault_text : ScheduleFault → List ℕ
schedule_fault_text fault = numbered (schedule_kind_text fault.kind) fault.line

abbrev pub line_kind_text : LineKind → List ℕ
line_kind_text lines.Word = codes "word"
line_kind_text lines.Number = codes "number"
line_kind_text lines.Hex = codes "hex"
line_kind_text lines.Left = codes "left"
line_kind_text lines.Cut = codes "cut"
line_kind_text lines.TooMany = codes "toomany"
line_kind_text lines.Memory = codes "memory"

-- its kind, of the first line
abbrev pub line_fault_text : LineKind → List ℕ
line_fault_text kind = numbered (line_kind_text kind) 1

-- a fault of a disk, which no case has, and a full area are told by one word
abbrev pub open_fault_text : OpenFault → List ℕ
open_fault_text (opens.Damaged area at) = joined (codes "damaged" ∷ decimal (number_of area) ∷ decimal at ∷ [])
open_fault_text (opens.WrongNode node) = numbered (codes "wrongnode") node.0
open_fault_text (opens.BadRecord at) = numbered (codes "badrecord") at
open_fault_text opens.EpochLimit = codes "epochlimit"
open_fault_text opens.Disk = codes "failed"
open_fault_text (opens.Full length) = codes "failed"
open_fault_text opens.Memory = codes "memory"

-- ---- journals

-- its epoch, and what is promised in ring 1
abbrev pub state_text : State → List ℕ
state_text s = joined (codes "epoch" ∷ decimal s.epoch ∷ codes "promise" ∷ decimal (promise_at s (record { 0 = 1 })) ∷ [])

-- both areas of a journal in hexadecimal, `-` for an empty one
abbrev pub areas_text : List ℕ → List ℕ → List ℕ
areas_text first second = joined (hex_text first ∷ hex_text second ∷ [])
