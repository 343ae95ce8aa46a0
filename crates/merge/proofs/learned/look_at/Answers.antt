use Rattle.range_map.specs.Entries.{value_at}
use Rattle.merge.proofs.LookLemmas.{run_of, is_some_of}
use Rattle.merge.proofs.learned.look_at.Goals as goal

pub returns-clause-run : goal.returns-clause-run
returns-clause-run c =
    run_of c.args.learner.now.held c.args.i c.in-Some.field-0-0 c.in-Some.end c.is_skip-skip.result c.run_at.ensures.learned (is_some_of (value_at c.args.i c.args.learner.now.held) c.in-Some.ensures.none.1) c.in-Some.ensures.run c.is_skip-skip.ensures
