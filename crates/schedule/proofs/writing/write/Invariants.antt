use Rattle.std.proofs.Common.{◌≡◌, ◌++◌, drop}
use Rattle.schedule.specs.Spelling.{schedule_text}
use Rattle.schedule.proofs.writing.write.Given as goal

-- the text so far and that of the events left are the whole
abbrev pub invariant-loop-event : goal.invariant-loop-event
invariant-loop-event l = l.out ++ schedule_text (drop l.event-index l.events) ≡ schedule_text l.events
