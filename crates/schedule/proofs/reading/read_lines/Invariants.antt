use Rattle.std.proofs.Common.{◌≡◌, ◌≤◌, ◌+◌, length}
use Rattle.schedule.specs.Reading.{schedule_of}
use Rattle.schedule.proofs.Lines.{onwards}
use Rattle.schedule.proofs.reading.read_lines.Given as goal

-- the events so far and those of the rest are all of them, one a line
abbrev pub invariant-loop-line : goal.invariant-loop-line
invariant-loop-line l = record {
  all : schedule_of l.deployment l.bytes ≡ onwards l.deployment l.bytes l.events.items l.rest;
  inside : length l.rest ≤ length l.bytes;
  count : length l.events.items + 1 ≡ l.line;
  few : length l.events.items ≤ 1048576;
}
