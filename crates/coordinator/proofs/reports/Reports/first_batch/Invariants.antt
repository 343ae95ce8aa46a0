use Rattle.std.proofs.Common.{◌≡◌, ◌-◌, ◌^◌, ◌≤◌}
use Rattle.protocol.specs.Proposing.{first_where, is_batch}
use Rattle.coordinator.proofs.reports.Reports.first_batch.Given as goal

abbrev pub invariant-loop-at : goal.invariant-loop-at
invariant-loop-at l = record { begun : l.from ≤ l.at; same : first_where is_batch l.at l.bound l.self ≡ first_where is_batch l.from l.bound l.self }

abbrev pub decreases-loop-at : goal.decreases-loop-at
decreases-loop-at l = 2 ^ 64 - l.at
