use Rattle.std.proofs.Common.{◌≡◌, ◌≤◌, ◌+◌, ◌-◌, length}
use Rattle.merge.specs.Ahead.{AreAhead, count_ahead}
use Rattle.merge.proofs.passing.pass.Given as goal

-- what is ahead are skips, and a look was taken for each ring that was passed
abbrev pub invariant-turns : goal.invariant-turns
invariant-turns g l = record {
  ahead : AreAhead l.initial.ahead l.ahead (g.R.Runs.maps l.runs);
  maps : g.R.Runs.maps l.runs ≡ g.R.Runs.maps l.initial.runs;
  few : g.R.Runs.looks l.runs ≤ g.R.Runs.looks l.initial.runs + count_ahead l.initial.ahead l.ahead;
}

abbrev pub decreases-turns : goal.decreases-turns
decreases-turns g l = length l.ahead - count_ahead l.initial.ahead l.ahead
