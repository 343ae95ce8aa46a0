use Rattle.std.proofs.Common.{◌≡◌, drop}
use Rattle.protocol.specs.Ballots.{with_reports}
use Rattle.coordinator.proofs.reports.Reports.add.Given as goal

-- the votes that are still to be reported
abbrev pub invariant-loop-vote : goal.invariant-loop-vote
invariant-loop-vote l = with_reports l.from (drop l.vote-index l.votes) l.self ≡ with_reports l.from l.votes l.initial.self
