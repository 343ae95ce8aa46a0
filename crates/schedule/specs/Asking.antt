-- Reading a client's text: one line with the words of a command, as behind `ask` and the client.
use Rattle.std.specs.Prelude.{ℕ, ◌+◌, nat_lt, if◌then◌else◌, List, [], ◌∷◌, length, Result, Ok, Err}
use Rattle.text_lines.specs.declared.fault.TextFault.TheVariants as words
use Rattle.text_lines.specs.Split.{Line, line_bytes, words_of, lines_of}
use Rattle.mrp_types.specs.Reading.{◌>>=◌}
use Rattle.text_lines.specs.Words.{all_of}
use Rattle.command_codec.specs.declared.command.Command.{Command}
use Rattle.mrp_config.specs.Config.{Config}
use Rattle.schedule.specs.declared.fault.FaultKind.{FaultKind}
use Rattle.schedule.specs.declared.fault.FaultKind.TheVariants.{Route, Left, Cut, TooMany}
use Rattle.schedule.specs.declared.fault.ScheduleFault.{ScheduleFault}
use Rattle.schedule.specs.Spelling.{has_route}
use Rattle.schedule.specs.Reading.{command_at, kinded, at_line}

-- the command of a line: its words come first, then its line feed, last its route
unfoldable pub command_of : Config → Line → Result Command FaultKind
command_of config line = do
  command ← kinded (all_of words.Left (command_at (words_of line.text)))
  if line.ended then (if has_route config command then Ok command else Err Route) else Err Cut

-- the same where the text has so many bytes up to the end of the line
abbrev pub bounded_command : Config → ℕ → Line → Result Command FaultKind
bounded_command config end line = if nat_lt 67108864 end then Err TooMany else command_of config line

-- what is at fault in a second line, up to whose end the text has so many bytes
abbrev pub second_fault : ℕ → FaultKind
second_fault end = if nat_lt 67108864 end then TooMany else Left

-- no line is left behind the first one, which has so many bytes
abbrev pub alone_before : ℕ → List Line → Result (Unit {0}) ScheduleFault
alone_before begin [] = Ok tt
alone_before begin (line ∷ lines) = Err (record { line = 2; kind = second_fault (begin + length (line_bytes line)) })

-- the command of these lines
abbrev pub command_in : Config → List Line → Result Command ScheduleFault
command_in config [] = Err (record { line = 1; kind = Cut })
command_in config (line ∷ lines) = do
  command ← at_line 1 (bounded_command config (length (line_bytes line)) line)
  none ← alone_before (length (line_bytes line)) lines
  Ok command

-- the command that the bytes spell as one line, or the first line at fault
abbrev pub asked_of : Config → List ℕ → Result Command ScheduleFault
asked_of config bytes = command_in config (lines_of bytes)
