use Rattle.disk_model.specs.Calls.{IsSettled, and_then, reads}
use Rattle.disk_model.proofs.Went.{went_brings, went_leaves}
use Rattle.gate_area.specs.Gate.{gate_calls, FoundLeaves}
use Rattle.gate_area.proofs.Pairs.{found_leaves, gate_settles}
use Rattle.gate_area.proofs.Placing.{well_passed}
use Rattle.gate_area.proofs.steps.found.Goals as goal

pub returns-clause-moments : goal.returns-clause-moments
returns-clause-moments g c t tells =
    went_leaves t (FoundLeaves c.args.area c.args.body.now (reads t) (reads (and_then t (gate_calls c.args.area 0 c.args.body.now)))) tells c.open_gate.ensures.went
    (found_leaves t c.args.area c.args.body.now (c.requires.settled t tells) (c.requires.retired t tells))

pub returns-clause-done : goal.returns-clause-done
returns-clause-done g c = went_brings IsSettled c.open_gate.result c.open_gate.ensures.went (well_passed c.open_gate.result) (gate_settles c.args.area 0 c.args.body.now)
