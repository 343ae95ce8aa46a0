use Rattle.std.proofs.Common.{◌≡◌, ◌+◌, drop}
use Rattle.gate_log.specs.Records.{room}
use Rattle.vote_journal.specs.Journal.{with_records}
use Rattle.vote_journal.proofs.judging.take_rest.Given as goal

-- the records that remain make of the state so far what all of them make, and end where all of them end
abbrev pub invariant-loop-bytes : goal.invariant-loop-bytes
invariant-loop-bytes l =
    (with_records l.at l.newer l.state (drop l.bytes-index l.records) ≡ with_records l.initial.at l.initial.newer l.initial.state l.records)
    × (l.at + room (drop l.bytes-index l.records) ≡ l.initial.at + room l.records)
