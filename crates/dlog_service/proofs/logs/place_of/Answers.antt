use Rattle.dlog_service.proofs.LogsLaws.{found_at}
use Rattle.dlog_service.proofs.logs.place_of.Goals as goal

pub returns-then-eq-clause-place : goal.returns-then-eq-clause-place
returns-then-eq-clause-place c =
    found_at c.args.logs.now c.args.id c.loop-place.place c.index-logs-place.result c.loop-place-test.true c.index-logs-place.is (cc) c.loop-place.invariant.same
