-- A transcript as a whole, judged line by line: nothing stands after the end, and there are at most 2 ^ 32 bytes.
use Rattle.std.specs.Prelude.{ℕ, ◌≡◌, ◌≤◌, ◌+◌, ◌^◌, nat_lt, Bool, true, false, if◌then◌else◌, List, [], ◌∷◌, length, Result, Ok, Err}
use Rattle.std.specs.List.{AllByRecursion}
use Rattle.text_lines.specs.Split.{lines_of, line_bytes as text_bytes}
use Rattle.text_lines.specs.Split.{Line as TextLine}
use Rattle.mrp_types.specs.Reading.{◌>>=◌}
use Rattle.transcript.specs.declared.fault.LineFault.{LineFault}
use Rattle.transcript.specs.declared.fault.LineKind.{LineKind}
use Rattle.transcript.specs.declared.fault.LineKind.TheVariants as kind
use Rattle.transcript.specs.declared.line.Line.{Line}
use Rattle.transcript.specs.declared.line.Line.TheVariants.{End}
use Rattle.transcript.specs.Spelling.{lines_text, IsLine}
use Rattle.transcript.specs.Reading.{line_at}

-- how far reading has come: the number of the next line, how many bytes stand before it, and whether the end does
pub record Progress : Type 0 where
  pub number : ℕ
  pub bytes : ℕ
  pub ended : Bool

abbrev pub start : Progress
start = record { number = 1; bytes = 0; ended = false }

abbrev pub is_end : Line → Bool
is_end (End events) = true
is_end other = false

-- The next line, whose bytes have its line feed among them. A line that holds the first byte past the limit is too much, and one
-- after the end is left over, whatever else is at fault in it.
abbrev pub judged : Progress → List ℕ → Result Line LineKind
judged p bytes = if nat_lt (2 ^ 32) (p.bytes + length bytes) then Err kind.TooMany else if p.ended then Err kind.Left else line_at bytes

-- a line further
abbrev pub after : Progress → List ℕ → Line → Progress
after p bytes line = record { number = p.number + 1; bytes = p.bytes + length bytes; ended = is_end line }

-- a fault with the number of its line
abbrev pub placed : ℕ → Result Line LineKind → Result Line LineFault
placed number (Ok line) = Ok line
placed number (Err found) = Err (record { line = number; kind = found })

-- the lines from here on, or the first line at fault
abbrev pub lines_from : Progress → List TextLine → Result (List Line) LineFault
lines_from p [] = Ok []
lines_from p (text ∷ texts) = do
  line ← placed p.number (judged p (text_bytes text))
  lines ← lines_from (after p (text_bytes text) line) texts
  Ok (line ∷ lines)

-- the lines that the bytes spell, all of the bytes, or the first line at fault with its first fault
abbrev pub transcript_of : List ℕ → Result (List Line) LineFault
transcript_of bytes = lines_from start (lines_of bytes)

-- nothing stands after the end
abbrev pub EndsLast : List Line → Type 0
EndsLast [] = Unit {0}
EndsLast (line ∷ lines) = (is_end line ≡ true → lines ≡ []) × EndsLast lines

-- lines that may be a transcript
pub record IsTranscript (lines : List Line) : Type 0 where
  pub each : AllByRecursion IsLine lines
  pub ended : EndsLast lines
  pub short : length (lines_text lines) ≤ 2 ^ 32
