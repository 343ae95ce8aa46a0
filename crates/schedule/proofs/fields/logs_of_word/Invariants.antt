use Rattle.std.proofs.Common.{◌≡◌, ◌≤◌}
use Rattle.text_lines.specs.Split.{pieces_of}
use Rattle.schedule.specs.Fields.{logs_from}
use Rattle.schedule.proofs.FieldLaws.{after_logs}
use Rattle.schedule.proofs.fields.logs_of_word.Given as goal

-- the logs so far and those of the pieces left are all of them
abbrev pub invariant-loop-turn : goal.invariant-loop-turn
invariant-loop-turn l = record {
  rest : after_logs l.logs.items (logs_from l.least l.pieces) ≡ logs_from 0 (pieces_of 44 l.word);
  risen : l._turn ≤ l.least;
  few : l.least ≤ 64;
}
