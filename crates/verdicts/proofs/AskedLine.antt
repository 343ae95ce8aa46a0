-- The event in which client 0 asks a command, as text.
use Rattle.std.proofs.Common.{◌≡◌, ℕ, List, [], ◌∷◌, ◌++◌, refl, sym, ap, ◌∙◌, lit<}
use Rattle.std.specs.Prelude.{codes}
use Rattle.std.specs.Fmt.{decimal}
use Rattle.std.proofs.lemmas.Fmt.{decimal_digit}
use Rattle.std.proofs.lemmas.List.{append-nil}
use Rattle.text_lines.specs.Text.{line_text, hex_text}
use Rattle.command_codec.specs.declared.command.Command.{Command}
use Rattle.command_codec.specs.declared.command.Command.TheVariants.{Append, Multi, ReadLog, TrimLog, Get, Scan, Update, Insert, Delete, Swap}
use Rattle.schedule.specs.declared.event.ScheduleEvent.{ScheduleEvent}
use Rattle.schedule.specs.declared.event.ScheduleEvent.TheVariants.{Ask}
use Rattle.schedule.specs.Spelling.{logs_text, command_words, schedule_text}

-- two words before others
words_before : (word : List ℕ) (words : List (List ℕ)) → line_text (codes "ask" ∷ decimal 0 ∷ word ∷ words) ≡ codes "ask 0 " ++ line_text (word ∷ words)
words_before word words = rw (decimal_digit 0 (lit< tt)) refl

command_after : (command : Command) → line_text (codes "ask" ∷ decimal 0 ∷ command_words command) ≡ codes "ask 0 " ++ line_text (command_words command)
command_after (Append log value) = words_before (codes "append") (decimal log.0 ∷ hex_text value ∷ [])
command_after (Multi logs value) = words_before (codes "multi") (logs_text logs ∷ hex_text value ∷ [])
command_after (ReadLog log position) = words_before (codes "read") (decimal log.0 ∷ decimal position ∷ [])
command_after (TrimLog log position) = words_before (codes "trimlog") (decimal log.0 ∷ decimal position ∷ [])
command_after (Get key) = words_before (codes "get") (hex_text key ∷ [])
command_after (Scan from to) = words_before (codes "scan") (hex_text from ∷ hex_text to ∷ [])
command_after (Update key value) = words_before (codes "update") (hex_text key ∷ hex_text value ∷ [])
command_after (Insert key value) = words_before (codes "insert") (hex_text key ∷ hex_text value ∷ [])
command_after (Delete key) = words_before (codes "delete") (hex_text key ∷ [])
command_after (Swap key old new) = words_before (codes "swap") (hex_text key ∷ hex_text old ∷ hex_text new ∷ [])

-- what is written of the event is what is wanted: the text of the client behind these words
pub asked_again : (command : Command) (events : List ScheduleEvent) (written wanted first text : List ℕ) →
    events ≡ Ask (record { 0 = 0 }) command ∷ [] → written ≡ schedule_text events → first ≡ codes "ask 0 " → text ≡ line_text (command_words command) → wanted ≡ first ++ text → written ≡ wanted
asked_again command events written wanted first text is writes begins spelled wants =
    let one : schedule_text events ≡ line_text (codes "ask" ∷ decimal 0 ∷ command_words command) = ap schedule_text is ∙ append-nil (line_text (codes "ask" ∷ decimal 0 ∷ command_words command)) in
    let behind : wanted ≡ codes "ask 0 " ++ line_text (command_words command) = wants ∙ (ap (λ (l : List ℕ). l ++ text) begins ∙ ap (λ (l : List ℕ). codes "ask 0 " ++ l) spelled) in
    writes ∙ (one ∙ (command_after command ∙ sym behind))
