-- The faults of a line, and what calls answer of them.
use Rattle.std.specs.Prelude.{◌≡◌, ◌⊎◌, Result, Ok, Err}
use Rattle.text_lines.specs.declared.fault.TextFault.{TextFault}
use Rattle.text_lines.specs.declared.fault.TextFault.TheVariants as words
use Rattle.schedule.specs.declared.fault.FaultKind.{FaultKind}
use Rattle.schedule.specs.declared.fault.FaultKind.TheVariants.{Word, Number, Range, Left, Memory}
use Rattle.schedule.specs.declared.fault.ScheduleFault.{ScheduleFault}

-- hexadecimal text is a number too
abbrev pub kind_of : TextFault → FaultKind
kind_of words.Word = Word
kind_of words.Number = Number
kind_of words.Range = Range
kind_of words.Hex = Number
kind_of words.Left = Left
kind_of words.Memory = Memory

-- What a call judged of a line is what the definition gives, unless memory ran out.
abbrev pub Judges : {X : Type 0} → Result X FaultKind → Result X FaultKind → Type 0
Judges judged (Ok x) = judged ≡ Ok x
Judges judged (Err kind) = (kind ≡ Memory) ⊎ (judged ≡ Err kind)

-- The same with the line's number; of the number nothing is said where memory ran out.
abbrev pub Answers : {X : Type 0} → Result X ScheduleFault → Result X ScheduleFault → Type 0
Answers judged (Ok x) = judged ≡ Ok x
Answers judged (Err fault) = (fault.kind ≡ Memory) ⊎ (judged ≡ Err fault)
