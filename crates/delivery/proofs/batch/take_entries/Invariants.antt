use Rattle.std.proofs.Common.{◌≡◌}
use Rattle.delivery.proofs.Taking.{Goes}
use Rattle.delivery.proofs.batch.take_entries.Given as goal

-- what was done so far and what is left make the whole
abbrev pub invariant-loop-index : goal.invariant-loop-index
invariant-loop-index l = record {
  partition : l.state.partition ≡ l.initial.state.partition;
  goes : Goes l.at l.initial.state.partition l.initial.state.replica l.state.replica l.index l.entries l.initial.lines l.lines l.initial.replies l.replies;
}
