use Rattle.protocol.proofs.RunLemmas.{is_longest_run}
use Rattle.protocol.proofs.laws.runs_of_due_skips_are_longest.Goals as goal

pub returns : goal.returns
returns c = is_longest_run
